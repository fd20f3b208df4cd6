-- The letters so far.
use Rattle.std.proofs.Common.{◌-◌, ◌≤◌}
use Rattle.qrcode_render.specs.CompressedData.{AddsPiece, SaysCount}
use Rattle.qrcode_render.proofs.compressed.push_count.Given as goal

abbrev pub invariant-loop-left : goal.invariant-loop-left
invariant-loop-left l = record {
  within : l.left ≤ l.count;
  added : AddsPiece (SaysCount (l.count - l.left)) l.initial.bytes.items l.bytes.items;
}

abbrev pub decreases-loop-left : goal.decreases-loop-left
decreases-loop-left l = l.left
