-- The longest line so far.
use Rattle.std.proofs.Common.{◌≡◌, map, take, length}
use Rattle.std.specs.Prelude.{fold, max}
use Rattle.std.specs.String.{string_bytes}
use Rattle.qrcode_render.proofs.lines.longest.Given as goal

abbrev pub invariant-loop-line : goal.invariant-loop-line
invariant-loop-line l =
    l.most ≡ fold (λ n line. max n (length line)) 0 (map string_bytes (take l.line-index l.lines))
