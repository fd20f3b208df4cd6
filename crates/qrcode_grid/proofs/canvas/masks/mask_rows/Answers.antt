use Rattle.qrcode_grid.proofs.Prelude.{◌≡◌, ◌+◌, ◌-◌, ◌*◌, ◌%◌, ◌<◌, ◌==◌, map, get_or, ap, ◌∙◌, sym, arith, inl, inr, bit_at, mul-le-mul_right, add-mul}
use Rattle.qrcode_grid.proofs.Prelude.{cases_lt, code_of, masked_code, common_steps}
use Rattle.qrcode_grid.proofs.canvas.masks.mask_rows.Goals as goal

pub mask_part-requires-clause-within : goal.mask_part-requires-clause-within
mask_part-requires-clause-within c = grind (arith, common_steps, add-mul, mul-le-mul_right)

pub loop-part-preserved : goal.loop-part-preserved
loop-part-preserved c = λ m x y b h l n. elim (cases_lt y (12 * c.loop-part.part)) [
  | inl below ↦
      ap (λ t. bit_at t m) (c.mask_part.ensures.before (y * c.args.width + x) (omega (arith, h, mul-le-mul_right c.args.width below)))
      ∙ c.loop-part.invariant m x y b h below n
  | inr above ↦
      let w = c.args.width in let first = 12 * c.loop-part.part in
      let r = y - first in
      let codes = map code_of c.args.modules.now in let stripes = c.args.stripes.now in
      let rows : r < c.min-rows.result = omega (arith, c.min-rows.ensures, l, n, above) in
      let whole : y ≡ first + r = omega arith in
      let place : first * w + (r * w + x) ≡ y * w + x = omega (arith, ap (λ t. t * w) whole, add-mul first r w) in
      let stripe : r ≡ y % 12 = omega (arith, l, above) in
      sym (ap (λ j. bit_at (get_or c.mask_part.new.grid j 0) m) place)
      ∙ c.mask_part.ensures.part m (r * w + x) b (omega (arith, h, mul-le-mul_right w rows))
      ∙ ap (λ j. masked_code (get_or codes j 0) (bit_at (get_or stripes (r * w + x) 0) m == 1)) place
      ∙ ap (λ t. masked_code (get_or codes (y * w + x) 0) (bit_at (get_or stripes (t * w + x) 0) m == 1)) stripe
]
