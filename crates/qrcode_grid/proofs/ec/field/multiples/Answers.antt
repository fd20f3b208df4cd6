use Rattle.qrcode_grid.proofs.Prelude.{◌≡◌, ℕ, List, [], length, get_or, refl, ap, ◌∙◌, sym, arith, replicate, All-replicate, get_or-replicate, product, ◌<◌}
use Rattle.qrcode_grid.proofs.Prelude.{◌/◌, double, common_steps}
use Rattle.qrcode_grid.proofs.RowDivision.{fits_at, length_xor, multiple_even, odd_lane}
use Rattle.qrcode_grid.proofs.{FieldLaws.product-zero_left, ec.field.multiples.Goals.then-i-eq0, ec.field.multiples.Goals.else-i-eq0}
use Rattle.qrcode_grid.proofs.ec.field.multiples.Goals as goal

pub loop-i-init : goal.loop-i-init
loop-i-init c = record {
  size = refl;
  lanes = All-replicate (λ (row : List ℕ). length row ≡ 32) 16 (replicate 32 0) refl;
  cells = λ k j below h.
      let first : k ≡ 0 = omega arith in
      ap (λ i. get_or (get_or (replicate 16 (replicate 32 0)) i []) j 0) first ∙ get_or-replicate 32 j 0 0 h
      ∙ sym (ap (λ i. product i (get_or c.args.terms j 0)) first ∙ product-zero_left (get_or c.args.terms j 0));
}

pub loop-i-preserved : goal.loop-i-preserved
loop-i-preserved c =
    let lanes : length c.if-i-eq0.rows ≡ 32 = elim c.if-i-eq0.branch [
      | then-i-eq0 w ↦ grind (arith, common_steps, length_xor)
      | else-i-eq0 w ↦ grind (arith, common_steps, length_xor)
    ] in
    let half : (j : ℕ) → j < 32 → get_or c.doubled-even.result j 0 ≡ double (product (c.loop-i.i / 2) (get_or c.args.terms j 0)) = λ j h.
    c.doubled-even.ensures.by_lane j h ∙ ap double (c.loop-i.invariant.cells (c.loop-i.i / 2) j (omega arith) h) in
    let cells : (j : ℕ) → j < 32 → get_or c.if-i-eq0.rows j 0 ≡ product c.loop-i.i (get_or c.args.terms j 0) = elim c.if-i-eq0.branch [
      | then-i-eq0 w ↦ λ j h. ap (λ t. get_or t j 0) w.rows-is ∙ half j h
          ∙ sym (multiple_even c.loop-i.i (get_or c.args.terms j 0) (omega arith) w.if-i-eq0.true)
      | else-i-eq0 w ↦ λ j h. ap (λ t. get_or t j 0) w.rows-is
          ∙ odd_lane c.doubled-even.result c.args.terms c.loop-i.i j c.doubled-even.ensures.lanes c.requires (omega arith) (omega (arith, w.if-i-eq0.false)) h
          (fits_at c.args.terms j c.fits-terms.1) (half j h)
    ] in
    grind (arith, common_steps)
