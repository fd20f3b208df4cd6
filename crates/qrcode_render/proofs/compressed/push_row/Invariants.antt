-- The digits so far, and the run that is next.
use Rattle.std.proofs.Common.{◌≡◌, ℕ, ◌+◌, ◌-◌, ◌<◌, ◌≤◌, get_or, length, take}
use Rattle.qrcode_render.specs.CompressedData.{AddsPiece, SaysDigits}
use Rattle.qrcode_render.proofs.compressed.push_row.Given as goal

abbrev pub invariant-loop-start : goal.invariant-loop-start
invariant-loop-start l = record {
  here : l.start < length l.digits;
  some : 0 < l.run;
  inside : l.start + l.run ≤ length l.digits;
  equal : (k : ℕ) → k < l.run → get_or l.digits (l.start + k) 0 ≡ get_or l.digits l.start 0;
  added : AddsPiece (SaysDigits (take l.start l.digits)) l.initial.bytes.items l.bytes.items;
}

abbrev pub decreases-loop-start : goal.decreases-loop-start
decreases-loop-start l = length l.digits - l.start
