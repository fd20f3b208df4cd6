-- What follows in a lane more of the list is written.
use Rattle.std.proofs.Common.{◌≡◌, ◌∙◌, ◌<◌, ℕ, length, get_or, ap, sym, subst, arith}
use Rattle.std.proofs.Math.ListN.{length-set}
use Rattle.std.proofs.lemmas.List.{get_or-set_other}
use Rattle.text_plans.specs.declared.row.Rest.{Rest}
use Rattle.text_plans.specs.Keeping.{IsKeptLane, kept_up_to}
use Rattle.text_plans.specs.Search.{begin_least, lane_before, no_rest}
use Rattle.text_plans.proofs.Lists.{list_ascends, list_has, list_kept, rest_more}
use Rattle.text_plans.proofs.row.listed_row.Goals as goal

pub lane_before-requires-clause-begin : goal.lane_before-requires-clause-begin
lane_before-requires-clause-begin c =
    let rules = c.args.rules.now in
    let lane = c.lane_at-lane.ensures in
    let within : c.loop-at.at < length (kept_up_to rules.kept 15) = omega (arith, c.loop-at-test.true, c.requires.lists.counted) in
    let keeps : IsKeptLane rules.kept c.lane_at-lane.result =
    subst (λ (l : ℕ). IsKeptLane rules.kept l) (sym lane.is) (list_kept rules.kept 15 c.loop-at.at within) in
    let same : get_or c.loop-at.row c.lane_at-lane.result no_rest ≡ get_or c.args.row.now c.lane_at-lane.result no_rest =
    subst (λ (l : ℕ). get_or c.loop-at.row l no_rest ≡ get_or c.args.row.now l no_rest) (sym lane.is)
    (c.loop-at.invariant.2 c.loop-at.at (omega arith) c.loop-at-test.true) in
    c.requires.begins c.lane_at-lane.result (omega (arith, lane.to)) keeps
    ∙ ap (λ (rest : Rest). begin_least rules c.args.facts.now c.lane_at-lane.result rest) (sym same)

pub loop-at-preserved : goal.loop-at-preserved
loop-at-preserved c =
    let rules = c.args.rules.now in
    let lanes = kept_up_to rules.kept 15 in
    let before = c.loop-at.invariant in
    let lane = c.lane_at-lane.ensures in
    let within : c.loop-at.at < length lanes = omega (arith, c.loop-at-test.true, c.requires.lists.counted) in
    let made = λ (l : ℕ). lane_before rules c.args.facts.now c.args.begins.now.switched l (get_or c.args.row.now l no_rest) in
    let same : get_or c.loop-at.row c.lane_at-lane.result no_rest ≡ get_or c.args.row.now c.lane_at-lane.result no_rest =
    subst (λ (l : ℕ). get_or c.loop-at.row l no_rest ≡ get_or c.args.row.now l no_rest) (sym lane.is)
    (before.2 c.loop-at.at (omega arith) c.loop-at-test.true) in
    let is : c.lane_before.result ≡ made c.lane_at-lane.result =
    c.lane_before.ensures
    ∙ ap (λ (rest : Rest). lane_before rules c.args.facts.now c.args.begins.now.switched c.lane_at-lane.result rest) same in
    let both = rest_more made lanes c.loop-at.at c.lane_at-lane.result c.args.row.now c.loop-at.row c.lane_before.result
    (omega (arith, lane.to, before.0)) lane.is within (list_ascends rules.kept 15) is before.1
    (λ j above end. before.2 j above (omega (arith, end, c.requires.lists.counted))) in (
      length-set c.loop-at.row c.lane_at-lane.result c.lane_before.result ∙ before.0,
      both.0,
      λ j above end. both.1 j above (omega (arith, end, c.requires.lists.counted)),
      get_or-set_other c.loop-at.row c.lane_at-lane.result 0 c.lane_before.result no_rest (λ e. absurd (omega (arith, e, lane.from))) ∙ before.3,
      get_or-set_other c.loop-at.row c.lane_at-lane.result 16 c.lane_before.result no_rest (λ e. absurd (omega (arith, e, lane.to))) ∙ before.4,
    )

pub returns-clause-lanes : goal.returns-clause-lanes
returns-clause-lanes c lane low high keeps =
    let w = list_has c.args.rules.now.kept 15 lane low high keeps in
    subst (λ (l : ℕ). get_or c.loop-at.row l no_rest
    ≡ lane_before c.args.rules.now c.args.facts.now c.args.begins.now.switched l (get_or c.args.row.now l no_rest)) w.is
    (c.loop-at.invariant.1 w.place (omega (arith, w.inside, c.requires.lists.counted, c.loop-at-test.false)))
