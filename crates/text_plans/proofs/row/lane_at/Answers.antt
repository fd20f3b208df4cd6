-- The lane is one of those that are listed.
use Rattle.std.proofs.Common.{◌≡◌, ◌∙◌, ◌<◌, ◌≤◌, ℕ, List, get_or, ap, sym, arith}
use Rattle.std.proofs.lemmas.List.{get_or-take}
use Rattle.text_plans.specs.declared.rules.Rules.{Rules}
use Rattle.text_plans.specs.Keeping.{ListsLanes, kept_up_to}
use Rattle.text_plans.proofs.Lists.{list_within}
use Rattle.text_plans.proofs.row.lane_at.Goals as goal

listed : (rules : Rules) (at : ℕ) → ListsLanes rules → at < rules.count →
    (get_or rules.lanes at 0 ≡ get_or (kept_up_to rules.kept 15) at 0)
    × (1 ≤ get_or (kept_up_to rules.kept 15) at 0)
    × (get_or (kept_up_to rules.kept 15) at 0 ≤ 15)
listed rules at h inside =
    let w = list_within rules.kept 15 at (omega (arith, inside, h.counted)) in (
      sym (get_or-take rules.count rules.lanes at 0 inside) ∙ ap (λ (x : List ℕ). get_or x at 0) h.listed,
      w.0,
      w.1,
    )

pub returns-clause-from : goal.returns-clause-from
returns-clause-from c = let w = listed c.args.rules.now c.args.at c.requires.lists c.requires.at in omega (arith, w.1, c.from.ensures, w.0)

pub returns-clause-to : goal.returns-clause-to
returns-clause-to c = let w = listed c.args.rules.now c.args.at c.requires.lists c.requires.at in omega (arith, w.2, c.from.ensures, w.0)
