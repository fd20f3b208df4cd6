use Rattle.qrcode_grid.proofs.Prelude.{ℕ, ◌≡◌, ◌+◌, ◌-◌, ◌*◌, ◌≤◌, ◌<◌, length, take, drop, get_or, ap, ◌∙◌, sym, arith, inl, inr, mul-le-mul_right, add-mul}
use Rattle.qrcode_grid.proofs.Prelude.{cases_lt, length-chunk, get_or-chunk, stride}
use Rattle.qrcode_grid.proofs.{PaddedCounts.row_before, MarkedLanes.part_here, MarkedLanes.part_before, MarkedLanes.part_behind}
use borrow.Rule.Slice.PartMut.{put_mid}
use Rattle.qrcode_grid.proofs.canvas.scoring.lists.write_padded.Goals as goal

pub loop-y-preserved : goal.loop-y-preserved
loop-y-preserved c =
    let w = c.args.width in let s = stride w in let y = c.loop-y.y in let first = (4 + y) * s in
    let old = c.loop-y.padded in let part = c.copy_from_slice.new.self in let grid = c.args.grid.now in
    let new = put_mid first (first + w - first) old part in
    let n : y * w + w - y * w ≡ w = omega arith in
    let inside : y * w + w ≤ length grid = omega (arith, c.requires.square, mul-le-mul_right w c.loop-y-test.true, add-mul y 1 w) in
    let long : length (take (y * w + w - y * w) (drop (y * w) grid)) ≡ w =
    ap (λ k. length (take k (drop (y * w) grid))) n ∙ length-chunk (y * w) w grid inside in
    let same = c.copy_from_slice.ensures.after in
    let size : length part ≡ w = ap length same ∙ long in
    let last : first + w ≤ length old =
    let up : 4 + y ≤ w + 14 = omega arith in omega (arith, mul-le-mul_right s up, c.requires.long) in
    let before = λ (i : ℕ) (h : i < first). part_before first (first + w - first) old part i h (omega (arith, last)) in
    let after = λ (i : ℕ) (h : first + w ≤ i).
    part_behind first (first + w - first) old part i (omega (arith, h)) (omega (arith, last)) (omega (arith, size)) in
    record {
      grid = λ x r hx hr. elim (cases_lt r y) [
        | inl early ↦ before ((4 + r) * s + x) (row_before s (4 + r) x (4 + y) (omega (arith, early)) (omega (arith, hx)))
            ∙ c.loop-y.invariant.grid x r hx early
        | inr late ↦
            let e : r ≡ y = omega (arith, hr, late) in
            ap (λ r. get_or new ((4 + r) * s + x) 0) e
            ∙ part_here first (first + w - first) old part x (omega (arith, last)) (omega (arith, hx, size)) ∙ ap (λ xs. get_or xs x 0) same
            ∙ ap (λ k. get_or (take k (drop (y * w) grid)) x 0) n
            ∙ get_or-chunk (y * w) w grid x 0 hx
            ∙ ap (λ r. get_or grid (r * w + x) 0) (sym e)
      ];
      beside = λ x r hx l. elim (cases_lt r (4 + y)) [
        | inl early ↦ before (r * s + x) (row_before s r x (4 + y) early l) ∙ c.loop-y.invariant.beside x r hx l
        | inr late ↦ after (r * s + x) (omega (arith, mul-le-mul_right s late, long, hx)) ∙ c.loop-y.invariant.beside x r hx l
      ];
      above = λ k h. before k (omega (arith, h, add-mul 4 y s)) ∙ c.loop-y.invariant.above k h;
      below = λ k h. after k (omega (arith, h, add-mul (4 + y) 1 s, long)) ∙ c.loop-y.invariant.below k (omega (arith, h, add-mul (4 + y) 1 s));
    }
