-- Elsewhere a byte is what it is by the designator of the lane.
use Rattle.std.proofs.Common.{◌≡◌, ℕ, false, ◌==◌, ap, sym, subst, ◌∙◌, ne_eqb, Option, Some}
use Rattle.character_sets.specs.Bytes.{character_of_byte}
use Rattle.text_plans.proofs.Sizes.{is_other}
use Rattle.text_plans.proofs.facts.single_in.Goals as goal

pub returns-else-lane-eq16-clause-found : goal.returns-else-lane-eq16-clause-found
returns-else-lane-eq16-clause-found c byte h =
    let other : (c.args.lane == 16) ≡ false = ne_eqb c.args.lane 16 c.if-lane-eq16.false in
    c.byte_of.ensures.found byte
    (subst (λ (f : ℕ → Option ℕ). f byte ≡ Some c.args.c)
    (is_other c.args.lane other ∙ ap character_of_byte (sym c.designator_of.ensures)) h)
