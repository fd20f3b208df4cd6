-- Each row is the one before another character.
use Rattle.std.proofs.Common.{◌≡◌, ℕ, ◌+◌, ◌≤◌, length, refl, ap, ◌∙◌, arith}
use Rattle.text_plans.proofs.Ends.{kept_more, rows_first, rows_more, whole_row}
use Rattle.text_plans.proofs.Rows.{row_first}
use Rattle.text_plans.proofs.table.rows_of.Goals as goal

pub loop-k-init : goal.loop-k-init
loop-k-init c =
    let first = whole_row c.args.rules.now _ _ (row_first c.args.rules.now c.args.all.now (length c.args.all.now) refl) in
    let rows = rows_first c.args.rules.now c.args.all.now (length c.args.all.now) _ c.push.new.self.items _ c.in_ok-rows.ensures.items
    c.in_ok-push.ensures.items first in
    (first, rows)

pub loop-k-preserved : goal.loop-k-preserved
loop-k-preserved c =
    let made = kept_more c.args.rules.now c.args.all.now (length c.args.all.now) c.loop-k.k _ c.loop-k.row c.row_before.new.row refl c.loop-k-test.true
    c.requires.enough c.loop-k.invariant.0 c.row_before.ensures.length c.row_before.ensures.lanes in
    let rows = rows_more c.args.rules.now c.args.all.now (length c.args.all.now) c.loop-k.k c.loop-k.rows.items c.push-in-loop-k.new.self.items
    c.row_before.new.row c.loop-k.invariant.1 c.in_ok-push-2.ensures.items made in
    (made, rows)

pub returns : goal.returns
returns c =
    let end : c.loop-k.k ≡ length c.args.all.now = omega arith in
    record {
      length = c.loop-k.invariant.1.0 ∙ ap (λ (k : ℕ). k + 1) end;
      rows = λ j below. let within : j ≤ c.loop-k.k = omega arith in c.loop-k.invariant.1.1 j within;
    }
