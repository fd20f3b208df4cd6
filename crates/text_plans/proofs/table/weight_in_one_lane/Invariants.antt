use Rattle.std.proofs.Common.{◌≡◌, ◌-◌, length, drop}
use Rattle.text_plans.proofs.Rows.{entry}
use Rattle.text_plans.proofs.table.weight_in_one_lane.Given as goal

abbrev pub invariant-loop-k : goal.invariant-loop-k
invariant-loop-k l = l.rest ≡ entry l.rules (drop (length l.all - l.k) l.all) l.rules.start
