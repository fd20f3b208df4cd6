-- The candidates by the numbers of the masks are those of the masks, and their penalties come
-- in order.
use Rattle.qrcode_grid.proofs.Prelude.{◌≡◌, ◌<◌, ◌*◌, ap, ◌∙◌, sym, subst, arith, map, take, get_or, length, List, MaskPattern, IsOfFamily, width_of, byte_of}
use Rattle.qrcode_grid.proofs.Prelude.{penalty, color_of_module, colors_of, with_mask, Drawing, drop, ◌++◌, family, slice_get, Some, normal_number, plane}
use Rattle.qrcode_grid.proofs.Prelude.{common_steps, slice_get-get_or}
use Rattle.qrcode_grid.proofs.Conditions.{masked_by_number, number_small, written_whole, settled_modules, next_penalty, of_family, still_lent}
use Rattle.qrcode_grid.{specs.declared.canvas.MaskPattern.TheVariants.Checkerboard, proofs.WholeSymbols.version_of_symbol}
use Rattle.qrcode_grid.proofs.canvas.Canvas.candidates.Goals as goal

pub penalties_of-numbered-requires-clause-symbol : goal.penalties_of-numbered-requires-clause-symbol
penalties_of-numbered-requires-clause-symbol c = grind (arith, common_steps, version_of_symbol)

pub overflow_mul-length-4 : goal.overflow_mul-length-4
overflow_mul-length-4 c = grind (arith, common_steps, version_of_symbol)

pub overflow_add-length-6 : goal.overflow_add-length-6
overflow_add-length-6 c = grind (arith, common_steps, version_of_symbol)

pub loop-pattern-preserved : goal.loop-pattern-preserved
loop-pattern-preserved c =
    let d = c.args.self.now in let s = c.self.inside in let v = d.version in
    let settled = settled_modules _ c.settle.new.cells _ _ _ _ _ c.deref.ensures.value
    (omega (arith, c.settle.auto.cells, c.deref_mut.ensures.len)) c.settle.ensures.written c.deref_mut.ensures.value in
    let i = c.loop-pattern.pattern-index in
    let read = c.family_of-pattern-items.result.now in
    let pattern = get_or read i Checkerboard in
    let masks : read ≡ family v = c.family_of-pattern-items.ensures ∙ ap (λ (e : Drawing). family e.version) c.self.view_is in
    let inside : i < length (family v) = omega (arith, ap length masks) in
    let here : slice_get (family v) i ≡ Some pattern =
    slice_get-get_or (family v) i Checkerboard inside ∙ ap (λ (ms : List MaskPattern). Some (get_or ms i Checkerboard)) (sym masks) in
    let known : IsOfFamily v pattern = subst (λ (ms : List MaskPattern). IsOfFamily v (get_or ms i Checkerboard)) (sym masks) (of_family v i inside) in
    let value = subst (λ (d : Drawing). (p : MaskPattern) → IsOfFamily d.version p →
    get_or c.penalties_of-numbered.result (normal_number p) 0 ≡ penalty d.version (colors_of (with_mask p d))) c.self.view_is
    (λ p f.
    c.penalties_of-numbered.ensures.penalties (normal_number p) (number_small p)
    ∙ ap (λ ms. penalty s.version (map color_of_module ms)) (masked_by_number s.version s.level p s.width _ c.deref.result.now _
    c.self.invariant.1 (c.format_words-words.ensures p f) settled)) pattern known in
    c.in_ok-push.ensures.items ∙ next_penalty d c.loop-pattern.values.items i pattern
    (get_or c.penalties_of-numbered.result c.normal_number.result 0) c.loop-pattern.invariant here
    (ap (λ n. get_or c.penalties_of-numbered.result n 0) c.normal_number.ensures.is ∙ value)

pub returns-clause-candidates : goal.returns-clause-candidates
returns-clause-candidates c =
    let s = c.self.inside in let v = s.version in let new = c.penalties_of-numbered.new.scratch in
    let settled = settled_modules _ c.settle.new.cells _ _ _ _ _ c.deref.ensures.value
    (omega (arith, c.settle.auto.cells, c.deref_mut.ensures.len)) c.settle.ensures.written c.deref_mut.ensures.value in
    let items = c.in_ok-scratch.scratch.items in let long = c.in_ok-scratch.scratch.len in
    let whole = written_whole new items long (omega (arith, c.penalties_of-numbered.auto.scratch, c.deref_mut.ensures.len)) in
    subst (λ (d : Drawing). (p : MaskPattern) → IsOfFamily d.version p →
    plane (normal_number p) (take (width_of d.version * width_of d.version) (take long (new ++ drop (length new) items)))
    ≡ map byte_of (colors_of (with_mask p d))) c.self.view_is
    (λ p f.
    ap (λ l. plane (normal_number p) (take (width_of v * width_of v) l)) whole
    ∙ ap (λ n. plane (normal_number p) (take (n * n) new)) (sym c.self.invariant.1)
    ∙ c.penalties_of-numbered.ensures.candidates (normal_number p) (number_small p)
    ∙ ap (λ ms. map byte_of (map color_of_module ms)) (masked_by_number v s.level p s.width _ c.deref.result.now _ c.self.invariant.1
    (c.format_words-words.ensures p f) settled))

pub returns-in_err-scratch-clause-unchanged : goal.returns-in_err-scratch-clause-unchanged
returns-in_err-scratch-clause-unchanged c =
    still_lent _ _ _ c.settle.new.cells _ _ _ _ _ c.self.view_is (omega (arith, c.settle.auto.cells, c.deref_mut.ensures.len)) c.settle.ensures.written
    c.deref_mut.ensures.value

pub returns-in_err-values-clause-unchanged : goal.returns-in_err-values-clause-unchanged
returns-in_err-values-clause-unchanged c =
    still_lent _ _ _ c.settle.new.cells _ _ _ _ _ c.self.view_is (omega (arith, c.settle.auto.cells, c.deref_mut.ensures.len)) c.settle.ensures.written
    c.deref_mut.ensures.value

pub returns-in_err-push-clause-unchanged : goal.returns-in_err-push-clause-unchanged
returns-in_err-push-clause-unchanged c =
    still_lent _ _ _ c.settle.new.cells _ _ _ _ _ c.self.view_is (omega (arith, c.settle.auto.cells, c.deref_mut.ensures.len)) c.settle.ensures.written
    c.deref_mut.ensures.value

pub returns-clause-unchanged : goal.returns-clause-unchanged
returns-clause-unchanged c =
    still_lent _ _ _ c.settle.new.cells _ _ _ _ _ c.self.view_is (omega (arith, c.settle.auto.cells, c.deref_mut.ensures.len)) c.settle.ensures.written
    c.deref_mut.ensures.value
