-- The bytes so far are inverted, and those after them as they were.
use Rattle.std.proofs.Common.{◌≡◌, ℕ, ◌-◌, ◌<◌, ◌≤◌, get_or}
use Rattle.qrcode_render.proofs.png_file.invert.Given as goal

abbrev pub invariant-loop-i : goal.invariant-loop-i
invariant-loop-i l = record {
  inverted : (k : ℕ) → k < l.i → get_or l.bytes k 0 ≡ 255 - get_or l.fn.bytes k 0;
  left : (k : ℕ) → l.i ≤ k → get_or l.bytes k 0 ≡ get_or l.fn.bytes k 0;
}
