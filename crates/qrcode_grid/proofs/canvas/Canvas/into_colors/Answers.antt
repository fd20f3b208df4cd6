use Rattle.qrcode_grid.proofs.Prelude.{arith, ◌≡◌, ◌∙◌, ap, map, Drawing, color_of_module, common_steps}
use Rattle.std.proofs.lemmas.List.{map-set}
use Rattle.qrcode_grid.proofs.canvas.Canvas.into_colors.Goals as goal

pub returns-clause-is : goal.returns-clause-is
returns-clause-is c =
    let s = c.self.inside in
    let all : c.write_shown.new.colors ≡ map color_of_module s.modules.items = c.write_shown.ensures ∙ ap (map color_of_module) c.deref.ensures.value in
    grind (arith, common_steps, all, map-set, ap (λ (d : Drawing). map color_of_module d.modules) c.self.view_is)
