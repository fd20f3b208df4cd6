use Rattle.qrcode_bits.proofs.Prelude.{◌≡◌, ◌+◌, ◌*◌, ◌≤◌, length, map, AreGroups, AreSteps, IsStep, groups_of}
use Rattle.qrcode_bits.proofs.optimize.linear.optimize_linear.Given as goal

abbrev pub invariant-loop-start : goal.invariant-loop-start
invariant-loop-start g l = record {
  long : length l.steps.items ≡ l.start + 1;
  right : AreSteps l.segments l.version (map g.S.AnyStart.read l.steps.items);
  last : IsStep l.segments l.version l.start (g.S.AnyStart.read l.before);
  slots : length l.groups ≡ 32;
  groups : AreGroups g.S.AnyStart.FAR l.segments l.version l.start l.start (groups_of g.S.AnyStart.read g.S.AnyStart.FAR l.groups);
  ticked : l.comparisons ≤ l.initial.comparisons + 36 * l.start;
}
