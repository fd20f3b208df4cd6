-- The byte that is looked up is the character's, or there is none.
use Rattle.std.proofs.Common.{◌≡◌, ◌∙◌, ℕ, ◌+◌, ◌-◌, ◌*◌, ap, sym, true, arith}
use Rattle.character_sets.specs.Kanji.{character_in}
use Rattle.character_sets.specs.declared.iso8859.TheConstants.{PARTS}
use Rattle.character_sets.proofs.PartBytes.{equal_is, is_equal, is_there, none_below, none_there}
use Rattle.character_sets.proofs.part_byte.Goals as goal

pub returns-then-byte-lt160 : goal.returns-then-byte-lt160
returns-then-byte-lt160 c =
    none_below c.args.designator c.args.c c.requires.beyond (omega (arith, c.byte_in-byte.ensures, c.if-byte-lt160.true))

pub returns-then-eq : goal.returns-then-eq
returns-then-eq c =
    let there : character_in PARTS (96 * (c.args.designator - 3) + (c.byte_in-byte.result - 160)) ≡ c.char_in.result =
    ap (λ (k : ℕ). character_in PARTS (96 * (c.args.designator - 3) + k)) (sym c.from.ensures) ∙ sym c.char_in.ensures in
    is_there c.args.designator c.args.c c.byte_in-byte.result c.requires.beyond (omega (arith, c.if-byte-lt160.false)) (omega arith)
    c.byte_in-byte.ensures (there ∙ equal_is c.char_in.result c.args.c (sym c.eq.ensures ∙ c.if-eq.true))

pub returns-else-eq : goal.returns-else-eq
returns-else-eq c =
    let at : c.char_in.result ≡ character_in PARTS (96 * (c.args.designator - 3) + (c.byte_in-byte.result - 160)) =
    c.char_in.ensures ∙ ap (λ (k : ℕ). character_in PARTS (96 * (c.args.designator - 3) + k)) c.from.ensures in
    none_there c.args.designator c.args.c c.byte_in-byte.result c.requires.beyond c.byte_in-byte.ensures
    (λ there. let e : c.eq.result ≡ true = c.eq.ensures ∙ is_equal c.char_in.result c.args.c (at ∙ there) in cc)
