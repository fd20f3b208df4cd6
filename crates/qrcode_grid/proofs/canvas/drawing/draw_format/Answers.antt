use Rattle.qrcode_grid.proofs.Prelude.{◌+◌, ◌*◌, get_or, ◌∙◌, refl, arith, drawn_over, Empty}
use Rattle.qrcode_grid.proofs.WrittenWords.{format_shown}
use Rattle.qrcode_grid.proofs.canvas.drawing.draw_format.Goals as goal

pub returns : goal.returns
returns c = λ x y l m.
    c.write_format.ensures Empty x y l m
    ∙ format_shown (λ v. v) drawn_over (λ k. get_or c.loop-k.digits k Empty) c.masked-dark.result c.args.format
    (λ k b h. c.loop-k.invariant.found k (omega (arith, h, c.loop-k-test.false)))
    (λ b. c.masked-dark.ensures) (λ b. refl) c.args.version c.args.width x y (get_or c.args.modules.now (y * c.args.width + x) Empty)
