-- UTF-8, and the lanes of single bytes.
use Rattle.std.proofs.Common.{◌≡◌, ℕ, sym, subst, None, Some}
use Rattle.std.specs.Char.{len_utf8}
use Rattle.text_plans.specs.Lanes.{IsSize, single_character}
use Rattle.text_plans.proofs.Sizes.{no_size, one_size, single_lane, utf8_size}
use Rattle.text_plans.proofs.facts.size_in.Goals as goal

pub returns-then-lane-eq14 : goal.returns-then-lane-eq14
returns-then-lane-eq14 c =
    subst (λ (k : ℕ). IsSize k c.args.c c.size_in_shift_jis.result) (sym c.if-lane-eq14.true) c.size_in_shift_jis.ensures

pub returns-then-lane-eq15 : goal.returns-then-lane-eq15
returns-then-lane-eq15 c =
    subst (λ (n : ℕ). IsSize c.args.lane c.args.c n) (sym c.len_utf8.ensures.value)
    (subst (λ (k : ℕ). IsSize k c.args.c (len_utf8 c.args.c)) (sym c.if-lane-eq15.true) (utf8_size c.args.c c.ranges.c.0))

pub returns-in-Some : goal.returns-in-Some
returns-in-Some c =
    one_size c.args.lane (single_character c.args.lane) c.args.c c.in-Some.field-0
    (single_lane c.args.lane c.requires c.if-lane-eq14.false c.if-lane-eq15.false) c.in-Some.ensures.right

pub returns-in-None : goal.returns-in-None
returns-in-None c =
    no_size c.args.lane (single_character c.args.lane) c.args.c
    (single_lane c.args.lane c.requires c.if-lane-eq14.false c.if-lane-eq15.false)
    (λ byte h. let e : None ≡ Some byte = c.in-None.ensures.found byte h in cc)
