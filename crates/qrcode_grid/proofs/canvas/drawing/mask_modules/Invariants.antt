-- The modules before the cell are masked.
use Rattle.qrcode_grid.proofs.Prelude.{◌+◌, ◌*◌, ◌/◌, ◌%◌, is_inverted, masked}
use Rattle.qrcode_grid.proofs.WrittenWords.{ChangedBelow}
use Rattle.qrcode_grid.proofs.canvas.drawing.mask_modules.Given as goal

abbrev pub invariant-loop-y : goal.invariant-loop-y
invariant-loop-y l = ChangedBelow (λ i m. masked (is_inverted l.fn.pattern (i % l.width) (i / l.width)) m) l.fn.modules l.modules (l.y * l.width)

abbrev pub invariant-loop-x : goal.invariant-loop-x
invariant-loop-x l = ChangedBelow (λ i m. masked (is_inverted l.fn.pattern (i % l.width) (i / l.width)) m) l.fn.modules l.modules (l.y * l.width + l.x)
