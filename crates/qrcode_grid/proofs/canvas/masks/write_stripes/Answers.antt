use Rattle.qrcode_grid.proofs.Prelude.{◌≡◌, ◌+◌, ◌*◌, ◌%◌, get_or, cond, ap, ◌∙◌, sym, arith, inl, inr, bit_at, mul-le-mul_right, add-mul, length-chunk}
use Rattle.qrcode_grid.proofs.Prelude.{cases_lt, is_inverted, pattern_of}
use Rattle.qrcode_grid.proofs.{Conditions.condition_at, Conditions.is_inverted-repeats, MarkedLanes.part_here, MarkedLanes.part_before}
use Rattle.qrcode_grid.proofs.canvas.masks.write_stripes.Goals as goal

pub loop-six-preserved : goal.loop-six-preserved
loop-six-preserved c = grind (arith, mul-le-mul_right, add-mul, length-chunk, part_before, part_here)

pub loop-y-preserved : goal.loop-y-preserved
loop-y-preserved c = λ m x y b h l. elim (cases_lt y c.loop-y.y) [
  | inl below ↦ ap (λ n. bit_at n m) (c.loop-six.invariant.before (y * c.args.width + x) (omega (arith, mul-le-mul_right c.args.width below)))
      ∙ c.loop-y.invariant m x y b h below
  | inr above ↦
      let same : c.loop-y.y ≡ y = omega arith in
      ap (λ n. bit_at n m) (ap (λ r. get_or c.loop-six.stripes (r * c.args.width + x) 0) (sym same)
      ∙ c.loop-six.invariant.row x (omega (arith, h, c.loop-six-test.false)))
      ∙ condition_at m (x % 6) c.loop-y.y b (omega arith) (omega (arith, c.loop-y-test.true))
      ∙ ap (λ t. cond t 1 0) (sym (is_inverted-repeats (pattern_of m) x c.loop-y.y) ∙ ap (is_inverted (pattern_of m) x) same)
]
