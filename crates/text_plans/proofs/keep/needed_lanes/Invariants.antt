use Rattle.std.proofs.Common.{◌≡◌, length}
use Rattle.text_plans.specs.Keeping.{AreEnough}
use Rattle.text_plans.proofs.keep.needed_lanes.Given as goal

abbrev pub invariant-loop-back : goal.invariant-loop-back
invariant-loop-back l = (length l.kept ≡ 17) × AreEnough l.kept 17 l.all
