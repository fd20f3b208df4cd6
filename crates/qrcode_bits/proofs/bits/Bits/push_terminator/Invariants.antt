-- The bytes that were pushed and those that are left are all.
use Rattle.qrcode_bits.proofs.{Prelude.◌-◌, Prelude.◌/◌, Prelude.◌<◌, Prelude.bytes_in_turn, Streams.Continues}
use Rattle.qrcode_bits.proofs.bits.Bits.push_terminator.Given as goal

abbrev pub invariant-loop-i : goal.invariant-loop-i
invariant-loop-i l = record {
  so_far : Continues l.initial.self l.self (bytes_in_turn 0xec 0x11 (l.room / 8)) (bytes_in_turn l.next l.other (l.room / 8 - l._i));
  next : l.next < 256;
  other : l.other < 256;
}
