use Rattle.qrcode_grid.proofs.Prelude.{ℕ, ◌≡◌, ◌<◌, ◌+◌, ◌-◌, ◌*◌, ◌++◌, List, Bool, ap, ◌∙◌, subst, arith, number_bits, FilledBelow, ◌/◌, ◌%◌, ◌^◌, ◌==◌}
use Rattle.qrcode_grid.proofs.Prelude.{set, div-div-eq-div-mul, pow-add, Module, Unmasked, data_bit, bit_color}
use Rattle.qrcode_grid.{proofs.StreamPlaces.no_bits, proofs.FillSteps.row_placed}
use Rattle.qrcode_grid.proofs.canvas.data.draw_eight.Goals as goal

right_bit : (word k : ℕ) → Unmasked (bit_color (word / 2 ^ k % 4 / 2 == 1)) ≡ data_bit word (k + 1)
right_bit word k = grind (arith, word / 2 ^ k, div-div-eq-div-mul word (2 ^ k) 2, pow-add 2 k 1)

left_bit : (word k : ℕ) → Unmasked (bit_color (word / 2 ^ k % 4 % 2 == 1)) ≡ data_bit word k
left_bit word k = grind (arith, word / 2 ^ k)

pub loop-i-preserved : goal.loop-i-preserved
loop-i-preserved c = λ after t pair is bits xs f.
    let w = c.args.columns.width in
    let i = c.loop-i.i in
    let n = pair * (2 * w) in
    let four : i < 4 = omega (arith, c.loop-i-test.true) in
    let here : n + 2 * c.args.first + 2 * i ≡ n + 2 * (c.args.first + i) = omega arith in
    let left : 8 - 2 * i ≡ 6 - 2 * i + 2 = omega (arith, four) in
    let less : 6 - 2 * i ≡ 8 - 2 * (i + 1) = omega (arith, four) in
    let end : n + 2 * (c.args.first + i) + 2 ≡ n + 2 * c.args.first + 2 * (i + 1) = omega arith in
    let before = subst (λ (k : ℕ). FilledBelow w t bits xs c.loop-i.modules k (number_bits (6 - 2 * i + 2) c.args.eight ++ after)) here
    (subst (λ (k : ℕ). FilledBelow w t bits xs c.loop-i.modules (n + 2 * c.args.first + 2 * i) (number_bits k c.args.eight ++ after)) left
    (c.loop-i.invariant after t pair is bits xs f)) in
    let ms = c.loop-i.modules in
    let here_at = c.left_place-here.result in
    let row = c.row-left.result in
    let zs = set (set ms (here_at + 1) row.1) here_at row.0 in
    let new : zs ≡ set (set ms (here_at + 1) (data_bit c.args.eight (6 - 2 * i + 1))) here_at (data_bit c.args.eight (6 - 2 * i)) =
    ap (λ (m : Module). set (set ms (here_at + 1) m) here_at row.0) (c.row-left.ensures.right ∙ right_bit c.args.eight (6 - 2 * i))
    ∙ ap (λ (m : Module). set (set ms (here_at + 1) (data_bit c.args.eight (6 - 2 * i + 1))) here_at m)
    (c.row-left.ensures.left ∙ left_bit c.args.eight (6 - 2 * i)) in
    let both = row_placed t pair c.args.first (c.args.first + i) c.args.columns bits xs c.args.modules.now c.loop-i.modules zs
    c.left_place-here.result (6 - 2 * i) c.args.eight
    (number_bits 8 c.args.eight ++ after) after is (c.loop-i.auto.modules ∙ c.requires.square) (omega arith)
    (omega (arith, four, c.requires.rows)) c.left_place-here.ensures.is (c.requires.empty i four) new f before in
    subst (λ (k : ℕ). FilledBelow w t bits xs zs k (number_bits (8 - 2 * (i + 1)) c.args.eight ++ after)) end
    (subst (λ (k : ℕ). FilledBelow w t bits xs zs (n + 2 * (c.args.first + i) + 2) (number_bits k c.args.eight ++ after)) less both)

pub returns : goal.returns
returns c = λ after t pair is bits xs f.
    let w = c.args.columns.width in
    let n = pair * (2 * w) + 2 * c.args.first in
    let four : c.loop-i.i ≡ 4 = omega (arith, c.loop-i-test.false, c.loop-i.auto.i-end) in
    let none : 8 - 2 * 4 ≡ 0 = omega arith in
    let end = ap (λ k. number_bits k c.args.eight ++ after) (ap (λ i. 8 - 2 * i) four ∙ none) ∙ ap (λ l. l ++ after) (no_bits c.args.eight) in
    subst (λ (k : ℕ). FilledBelow w t bits xs c.loop-i.modules (n + 2 * k) after) four
    (subst (λ (l : List Bool). FilledBelow w t bits xs c.loop-i.modules (n + 2 * c.loop-i.i) l) end (c.loop-i.invariant after t pair is bits xs f))
