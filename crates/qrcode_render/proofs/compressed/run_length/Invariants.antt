-- The digits so far are equal.
use Rattle.std.proofs.Common.{◌≡◌, ℕ, ◌+◌, ◌-◌, ◌<◌, get_or}
use Rattle.qrcode_render.proofs.compressed.run_length.Given as goal

abbrev pub invariant-loop-i : goal.invariant-loop-i
invariant-loop-i l = (k : ℕ) → k < l.i - l.start → get_or l.digits (l.start + k) 0 ≡ get_or l.digits l.start 0
