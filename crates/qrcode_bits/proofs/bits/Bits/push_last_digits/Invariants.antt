-- What was pushed and what is left are the whole.
use Rattle.qrcode_bits.proofs.Prelude.{length, All, IsDigit, character_bits, Numeric}
use Rattle.qrcode_bits.proofs.Streams.{Continues}
use Rattle.qrcode_bits.proofs.bits.Bits.push_last_digits.Given as goal

abbrev pub invariant-loop-rest : goal.invariant-loop-rest
invariant-loop-rest l = record {
  so_far : Continues l.initial.self l.self (character_bits Numeric l.fn.digits) (character_bits Numeric l.rest);
  digits : All IsDigit l.rest;
}

abbrev pub decreases-loop-rest : goal.decreases-loop-rest
decreases-loop-rest l = length l.rest
