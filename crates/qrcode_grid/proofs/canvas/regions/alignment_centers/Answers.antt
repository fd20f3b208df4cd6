use Rattle.qrcode_grid.proofs.Prelude.{◌∙◌, ◌++◌, ◌∷◌, [], List, ℕ, ap, sym, arith, length-map-range_with_len, map-range_with_len_more}
use Rattle.qrcode_grid.proofs.Prelude.{alignment_coordinate, map, range_with_len, ◌≤◌, ◌+◌, ◌*◌, All-append, All-cons, All, All-nil, subst}
use Rattle.qrcode_grid.proofs.Prelude.{◌≡◌, ◌-◌, ◌/◌, ◌==◌, ◌<◌, cond, nat_tests, alignment_count}
use Rattle.qrcode_grid.proofs.RegionRows.{coordinate_is, alignment_count_is, cells_inside}
use Rattle.qrcode_grid.proofs.canvas.regions.alignment_centers.Goals as goal

pub push-requires-in-loop-k : goal.push-requires-in-loop-k
push-requires-in-loop-k c = grind (arith, length-map-range_with_len)

pub loop-k-preserved : goal.loop-k-preserved
loop-k-preserved c =
    let n = c.args.n in let k = c.loop-k.k in let before = c.loop-k.centers.items in let f = alignment_coordinate n in
    let center = c.saturating_sub.result in let push = c.push-in-loop-k in
    let inside : ℕ → Type 0 = λ x. (2 ≤ x) × (x + 3 ≤ 4 * n + 17) in
    let some : 1 < n = omega (arith, c.if-n-le1.false) in
    let step_is : c.if-n-eq32.step ≡ cond (n == 32) 26 ((4 * n + 2 * (n / 7 + 2) + 1) / (2 * (n / 7 + 2) - 2) * 2) = grind (arith, nat_tests) in
    let is : center ≡ f k = c.saturating_sub.ensures ∙ coordinate_is n k c.if-n-eq32.step some c.loop-k.auto.k step_is in
    let counted : k < alignment_count n = omega (arith, alignment_count_is n some, c.loop-k-test.true) in
    record {
      so_far =
          push.ensures.items
          ∙ ap (λ (xs : List ℕ). xs ++ center ∷ []) c.loop-k.invariant.so_far
          ∙ ap (λ (r : ℕ). map f (range_with_len 0 k) ++ r ∷ []) is
          ∙ sym (map-range_with_len_more f 0 k k (omega arith));
      inside =
          subst (All inside) (sym push.ensures.items)
          (All-append inside before (center ∷ []) c.loop-k.invariant.inside
          (All-cons inside center [] (subst inside (sym is) (cells_inside n k c.requires counted)) (All-nil inside)));
    }
