use Rattle.qrcode_grid.proofs.Prelude.{arith, common_steps, ◌≡◌, ◌∙◌, ℕ, ap, refl, set, List, Module, Drawing, drawn_over, map_cells, width_of}
use Rattle.qrcode_grid.proofs.Prelude.{functional_color}
use Rattle.qrcode_grid.proofs.{WholeSymbols.version_of_symbol, GridLaws.consistent_regions, GridLaws.has_its_alignments, WrittenWords.far_version_word}
use Rattle.qrcode_grid.{proofs.Conditions.drawn_modules, proofs.Conditions.settled_modules, specs.Canvas.with_functional}
use Rattle.qrcode_grid.proofs.canvas.Canvas.draw_all_functional_patterns.Goals as goal

pub returns-clause-regions : goal.returns-clause-regions
returns-clause-regions c = grind (arith, common_steps, consistent_regions, version_of_symbol)

pub returns-clause-alignment : goal.returns-clause-alignment
returns-clause-alignment c = grind (arith, common_steps, has_its_alignments, version_of_symbol)

pub returns-clause-version_word : goal.returns-clause-version_word
returns-clause-version_word c = grind (arith, common_steps, far_version_word, version_of_symbol)

pub returns-clause-drawn : goal.returns-clause-drawn
returns-clause-drawn c =
    let s = c.self.inside in let read = c.deref_mut-2.result.now in
    let drawn = drawn_modules _ c.draw_functional.new.modules _ _ _ _ _ refl (omega (arith, c.draw_functional.auto.modules, c.deref_mut-2.ensures.len))
    c.shown-self-inside.ensures c.index.ensures in
    let settled : read ≡ set s.modules.items s.lent s.slot = settled_modules _ c.settle.new.cells _ _ _ _ _ c.deref_mut-2.ensures.value
    (omega (arith, c.settle.auto.cells, c.deref_mut.ensures.len)) c.settle.ensures.written c.deref_mut.ensures.value in
    let draw : ℕ → ℕ → Module → Module = λ x y m. drawn_over (functional_color s.version 0 x y) m in
    let with_modules : List Module → Drawing = λ l. record { version = s.version; level = s.level; modules = l } in
    ap with_modules (drawn ∙ c.draw_functional.ensures ∙ ap (λ w. map_cells w draw read) c.self.invariant.1 ∙ ap (map_cells (width_of s.version) draw) settled)
    ∙ ap (with_functional 0) c.self.view_is
