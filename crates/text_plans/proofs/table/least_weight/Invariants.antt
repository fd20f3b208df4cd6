use Rattle.std.proofs.Common.{◌-◌, length, drop}
use Rattle.text_plans.specs.Keeping.{IsRowOf}
use Rattle.text_plans.proofs.table.least_weight.Given as goal

abbrev pub invariant-loop-k : goal.invariant-loop-k
invariant-loop-k l = IsRowOf l.rules (drop (length l.all - l.k) l.all) l.row
