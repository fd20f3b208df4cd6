-- A lane more of the list is weighed.
use Rattle.std.proofs.Common.{◌≡◌, ◌∙◌, ◌+◌, ◌<◌, ℕ, List, length, get_or, take, min, ap, sym, subst, arith}
use Rattle.std.proofs.Math.ListN.{length-set}
use Rattle.std.proofs.Math.Seq.{take-length}
use Rattle.std.proofs.lemmas.List.{take_more}
use Rattle.text_plans.specs.Keeping.{kept_up_to}
use Rattle.text_plans.specs.Search.{begin_least, no_rest}
use Rattle.text_plans.proofs.Lists.{list_has, over_is, over_more, switch_over, weight_at, weight_more}
use Rattle.text_plans.proofs.row.listed_begins.Goals as goal

pub loop-at-preserved : goal.loop-at-preserved
loop-at-preserved c =
    let rules = c.args.rules.now in
    let facts = c.args.facts.now in
    let row = c.args.row.now in
    let lanes = kept_up_to rules.kept 15 in
    let before = c.loop-at.invariant in
    let lane = c.lane_at-lane.ensures in
    let within : c.loop-at.at < length lanes = omega (arith, c.loop-at-test.true, c.requires.lists.counted) in
    let over : switch_over rules facts row (take (c.loop-at.at + 1) lanes)
    ≡ min (switch_over rules facts row (take c.loop-at.at lanes)) (weight_at rules facts row c.lane_at-lane.result) =
    ap (λ (x : List ℕ). switch_over rules facts row x) (take_more lanes c.loop-at.at 0 within)
    ∙ over_more rules facts row (take c.loop-at.at lanes) (get_or lanes c.loop-at.at 0)
    ∙ ap (λ (l : ℕ). min (switch_over rules facts row (take c.loop-at.at lanes)) (weight_at rules facts row l)) (sym lane.is) in (
      length-set c.loop-at.weights c.lane_at-lane.result c.begin_weight-weight.result ∙ before.0,
      weight_more (λ (l : ℕ). begin_least rules facts l (get_or row l no_rest)) lanes c.loop-at.weights c.loop-at.at c.lane_at-lane.result
          c.begin_weight-weight.result (omega (arith, lane.to, before.0)) lane.is c.begin_weight-weight.ensures before.1,
      omega (arith, over, before.2, c.min-switched.ensures, c.designated.ensures, c.begin_weight-weight.ensures),
    )

pub returns-clause-weights : goal.returns-clause-weights
returns-clause-weights c lane low high keeps =
    let w = list_has c.args.rules.now.kept 15 lane low high keeps in
    subst (λ (l : ℕ). get_or c.loop-at.weights l 0 ≡ begin_least c.args.rules.now c.args.facts.now l (get_or c.args.row.now l no_rest)) w.is
    (c.loop-at.invariant.1 w.place (omega (arith, w.inside, c.requires.lists.counted, c.loop-at-test.false)))

pub returns-clause-switched : goal.returns-clause-switched
returns-clause-switched c =
    let rules = c.args.rules.now in
    let all : c.loop-at.at ≡ length (kept_up_to rules.kept 15) = omega (arith, c.requires.lists.counted, c.loop-at-test.false, c.loop-at.auto.at-end) in
    c.loop-at.invariant.2
    ∙ ap (λ (n : ℕ). switch_over rules c.args.facts.now c.args.row.now (take n (kept_up_to rules.kept 15))) all
    ∙ ap (λ (x : List ℕ). switch_over rules c.args.facts.now c.args.row.now x) (take-length (kept_up_to rules.kept 15))
    ∙ over_is rules c.args.facts.now c.args.row.now 15
