use Rattle.qrcode_grid.proofs.Prelude.{◌≡◌, ◌++◌, ◌*◌, take, drop, length, ap, ◌∙◌, sym, subst, width_of, plane, normal_number, Color, List, arith}
use Rattle.qrcode_grid.proofs.Prelude.{CarriesCodewords, TakesCodewords, IsFirstLeastMask, with_functional, colors_of, with_mask}
use Rattle.qrcode_grid.proofs.WholeSymbols.{carries, best_is_first, version_of_symbol}
use Rattle.qrcode_grid.{specs.Canvas.blank, proofs.Conditions.same_colors, proofs.Conditions.written_whole}
use Rattle.qrcode_grid.proofs.canvas.choice.draw_symbol.Goals as goal

pub symbol_width-width-requires : goal.symbol_width-width-requires
symbol_width-width-requires c = version_of_symbol _ _ c.requires.symbol

took : (c : goal.After-drop-canvas-inside-2) →
    TakesCodewords c.args.interleaved.now c.args.correction.now (with_functional 0 (blank c.args.version c.args.level)) c.draw_data.new.self
took c = grind arith

-- the colours are those of the canvas under the mask
colored : (c : goal.After-drop-canvas-inside-2) → take c.in_ok-colors.colors.len (c.write_colors.new.colors ++ drop (length c.write_colors.new.colors)
    c.in_ok-colors.colors.items) ≡ colors_of (with_mask c.in_ok-pattern.pattern c.draw_data.new.self)
colored c =
    let new = c.write_colors.new.colors in let pattern = c.in_ok-pattern.pattern in let d = c.draw_data.new.self in
    let size = c.symbol_width-width.result * c.symbol_width-width.result in let n = normal_number pattern in
    let square : size ≡ width_of d.version * width_of d.version =
    cc (c.symbol_width-width.ensures.is, ap width_of (took c).version) in
    written_whole new c.in_ok-colors.colors.items c.in_ok-colors.colors.len (c.write_colors.auto.colors ∙ c.deref_mut.ensures.len)
    ∙ same_colors new (colors_of (with_mask pattern d)) (
    c.write_colors.ensures
    ∙ ap (λ m. plane m (take size c.deref.result.now)) c.normal_number.ensures.is
    ∙ ap (λ t. plane n (take size t)) c.deref.ensures.value
    ∙ ap (λ k. plane n (take k c.in_ok-pattern.scratch.items)) square
    ∙ c.in_ok-pattern.ensures.candidate)

pub returns-clause-carries : goal.returns-clause-carries
returns-clause-carries c =
    let a = c.args in let pattern = c.in_ok-pattern.pattern in
    subst (λ (colors : List Color). CarriesCodewords a.version a.level pattern a.interleaved.now a.correction.now colors) (sym (colored c))
    (carries a.version a.level c.requires.symbol a.interleaved.now a.correction.now pattern c.draw_data.new.self (took c) c.requires.some c.requires.whole)

pub returns-clause-mask : goal.returns-clause-mask
returns-clause-mask c =
    let a = c.args in let pattern = c.in_ok-pattern.pattern in
    subst (λ (colors : List Color). IsFirstLeastMask a.version a.level pattern colors) (sym (colored c))
    (best_is_first a.version a.level c.requires.symbol a.interleaved.now a.correction.now pattern c.draw_data.new.self (took c)
    c.requires.some c.requires.whole c.in_ok-pattern.ensures.best)
