use Rattle.qrcode_grid.proofs.Prelude.{◌≡◌, ◌≤◌, ◌+◌, ◌*◌, ◌/◌, ◌%◌, ◌<◌, get_or, set, length, ap, ◌∙◌, sym, arith, subst, ℕ, refl, mul-le-mul_right}
use Rattle.qrcode_grid.proofs.Prelude.{is_inverted, masked, pattern_of, Empty}
use Rattle.qrcode_grid.proofs.WrittenWords.{ChangedBelow, changed_set, at_place, cell_within}
use Rattle.qrcode_grid.proofs.Conditions.{set_again, is_inverted-repeats_rows, pattern_of-number}
use Rattle.qrcode_grid.proofs.canvas.drawing.mask_modules.Goals as goal

pub loop-x-preserved : goal.loop-x-preserved
loop-x-preserved c =
    let w = c.args.width in let x = c.loop-x.x in let y = c.loop-y.y in
    let i = y * w + x in
    let old = c.index-modules-i.result in
    let inside : i < length c.args.modules.now = omega (arith, c.requires.square, cell_within w x y c.loop-x-test.true c.loop-y-test.true) in
    let m = c.normal_number-m.result in
    let number : pattern_of m ≡ c.args.pattern = ap pattern_of c.normal_number-m.ensures.is ∙ pattern_of-number c.args.pattern in
    let inverted =
    set_again _ _ (c.write_stripes.ensures m x (y % 12) c.normal_number-m.ensures.small c.loop-x-test.true (omega arith))
    ∙ ap (λ p. is_inverted p x (y % 12)) number ∙ sym (is_inverted-repeats_rows c.args.pattern x y) in
    let at = at_place (λ x y. masked (is_inverted c.args.pattern x y) old) w x y i c.loop-x-test.true (omega arith) in
    let next : i + 1 ≡ y * w + (x + 1) = omega arith in
    let step = changed_set _ _ _ _ _ old inside (c.mask.ensures ∙ ap (λ b. masked b old) inverted ∙ at
    ∙ ap (masked (is_inverted c.args.pattern (i % w) (i / w))) c.index-modules-i.is) c.loop-x.invariant in
    subst (λ (n : ℕ). ChangedBelow (λ i m. masked (is_inverted c.args.pattern (i % w) (i / w)) m) c.args.modules.now
    (set c.loop-x.modules i c.mask.result) n) next step

pub returns : goal.returns
returns c = λ x y l m.
    let w = c.args.width in
    let last : w ≤ c.loop-y.y = omega (arith, c.loop-y-test.false, c.loop-y.auto.y-end) in
    let inside = cell_within w x y l m in
    c.loop-y.invariant.below (y * w + x) Empty (omega (arith, inside, mul-le-mul_right w last)) (omega (arith, inside, c.requires.square))
    ∙ sym (at_place (λ u v. masked (is_inverted c.args.pattern u v) (get_or c.args.modules.now (y * w + x) Empty)) w x y (y * w + x) l refl)
