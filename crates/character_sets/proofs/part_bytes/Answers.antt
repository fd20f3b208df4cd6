-- Beyond a code point no character has a byte.
use Rattle.std.proofs.Common.{◌≡◌, ℕ, ◌+◌, replicate, get_or, sym, subst, arith}
use Rattle.std.proofs.lemmas.Grind.{common_steps}
use Rattle.character_sets.specs.Bytes.{IsPartByte}
use Rattle.character_sets.proofs.PartBytes.{none_beyond}
use Rattle.character_sets.proofs.part_bytes.Goals as goal

pub returns-then-c-ge9216 : goal.returns-then-c-ge9216
returns-then-c-ge9216 c column inside =
    let none : get_or (replicate 16 0) column 0 ≡ 0 = grind (arith, common_steps) in
    subst (λ (byte : ℕ). IsPartByte (column + 3) c.args.c byte) (sym none) (none_beyond (column + 3) c.args.c c.if-c-ge9216.true)
