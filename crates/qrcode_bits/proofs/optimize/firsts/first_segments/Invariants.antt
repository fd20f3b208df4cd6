use Rattle.qrcode_bits.proofs.Prelude.{◌≡◌, ◌+◌, ◌*◌, ◌≤◌, length, AreGroups, IsStep, groups_of}
use Rattle.qrcode_bits.proofs.optimize.firsts.first_segments.Given as goal

abbrev pub invariant-loop-start : goal.invariant-loop-start
invariant-loop-start g l = record {
  last : IsStep l.segments l.version l.start (g.S.AnyStart.read l.before);
  few : (g.S.AnyStart.read l.before).bits ≤ l.limit;
  slots : length l.groups ≡ 32;
  groups : AreGroups g.S.AnyStart.FAR l.segments l.version l.start l.start (groups_of g.S.AnyStart.read g.S.AnyStart.FAR l.groups);
  ticked : l.comparisons ≤ l.initial.comparisons + 36 * l.start;
}
