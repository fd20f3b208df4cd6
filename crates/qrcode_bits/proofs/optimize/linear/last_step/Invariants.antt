use Rattle.qrcode_bits.proofs.{Prelude.◌+◌, Prelude.◌≤◌, Ending.IsSought}
use Rattle.qrcode_bits.proofs.optimize.linear.last_step.Given as goal

abbrev pub invariant-loop-bucket : goal.invariant-loop-bucket
invariant-loop-bucket g l = record {
  within : l.bucket ≤ 8;
  sought : IsSought g.S.AnyStart.FAR l.segments l.fn.version l.end l.bucket (g.S.AnyStart.read l.best);
  ticked : l.comparisons ≤ l.initial.comparisons + l.bucket;
}
