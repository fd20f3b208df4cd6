-- What the characters so far are.
use Rattle.std.specs.Prelude.{◌↔◌, All, IsTrue}
use Rattle.smallest_symbols.specs.MicroTexts.{IsAsciiCharacter, IsMixedCharacter}
use Rattle.smallest_symbols.proofs.writable.is_micro_text.Given as goal

abbrev pub invariant-loop-c : goal.invariant-loop-c
invariant-loop-c l = record {
  ascii : IsTrue l.ascii ↔ All IsAsciiCharacter l.yielded;
  mixed : IsTrue l.mixed ↔ All IsMixedCharacter l.yielded;
}
