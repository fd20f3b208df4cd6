-- Each character is put before what follows it.
use Rattle.std.proofs.Common.{◌≡◌, ◌-◌, ℕ, [], length, drop, refl, ap, sym, ◌∙◌, arith}
use Rattle.std.proofs.lemmas.Grind.{common_steps}
use Rattle.text_plans.specs.declared.row.Rest.{Rest}
use Rattle.text_plans.proofs.Rows.{entry, entry_end, lane_alone}
use Rattle.text_plans.proofs.table.weight_in_one_lane.Goals as goal

pub loop-k-init : goal.loop-k-init
loop-k-init c =
    let none : drop (length c.args.all.now - 0) c.args.all.now ≡ [] = grind (arith, common_steps) in
    rw none (sym (entry_end c.args.rules.now c.args.rules.now.start c.requires.start))

pub loop-k-preserved : goal.loop-k-preserved
loop-k-preserved c =
    c.lane_before-rest.ensures
    ∙ lane_alone c.args.rules.now c.args.all.now (length c.args.all.now) c.loop-k.k _ c.args.rules.now.start c.loop-k.rest refl c.loop-k-test.true
    c.requires.start c.requires.none c.loop-k.invariant

pub returns : goal.returns
returns c =
    let whole : length c.args.all.now - c.loop-k.k ≡ 0 = omega arith in
    ap (λ (rest : Rest). rest.fresh) (c.loop-k.invariant ∙ ap (λ (n : ℕ). entry c.args.rules.now (drop n c.args.all.now) c.args.rules.now.start) whole)
