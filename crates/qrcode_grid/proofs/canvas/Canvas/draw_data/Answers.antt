use Rattle.qrcode_grid.proofs.Prelude.{arith, common_steps, refl}
use Rattle.qrcode_grid.proofs.Conditions.{drawn_modules}
use Rattle.qrcode_grid.proofs.canvas.Canvas.draw_data.Goals as goal

pub returns-clause-takes : goal.returns-clause-takes
returns-clause-takes c =
    let drawn = drawn_modules _ c.draw_codewords.new.modules _ _ _ _ _ refl (omega (arith, c.draw_codewords.auto.modules, c.deref_mut-2.ensures.len))
    c.shown-self-inside.ensures c.index.ensures in
    grind (arith, common_steps, drawn)
