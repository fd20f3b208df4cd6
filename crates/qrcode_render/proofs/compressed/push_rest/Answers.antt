-- A comma, an exclamation mark, or the digits.
use Rattle.std.proofs.Common.{◌≡◌, ℕ, ◌∷◌, [], replicate, subst, arith}
use Rattle.qrcode_render.specs.CompressedData.{EndsRow}
use Rattle.qrcode_render.proofs.ReadingLemmas.{adds_piece, ends_with_ones, ends_with_zeros}
use Rattle.qrcode_render.proofs.compressed.push_rest.Goals as goal

pub returns-in_ok-push : goal.returns-in_ok-push
returns-in_ok-push c =
    let zeros : 48 ≡ c.args.digit = omega arith in
    adds_piece (EndsRow (replicate c.args.run c.args.digit)) c.args.bytes.now.items c.push.new.self.items (44 ∷ []) c.in_ok-push.ensures.items
    (subst (λ (d : ℕ). EndsRow (replicate c.args.run d) (44 ∷ [])) zeros (ends_with_zeros c.args.run c.requires.some))

pub returns-in_ok-push-2 : goal.returns-in_ok-push-2
returns-in_ok-push-2 c =
    let ones : 70 ≡ c.args.digit = omega arith in
    adds_piece (EndsRow (replicate c.args.run c.args.digit)) c.args.bytes.now.items c.push-then-digit-eq70.new.self.items (33 ∷ []) c.in_ok-push-2.ensures.items
    (subst (λ (d : ℕ). EndsRow (replicate c.args.run d) (33 ∷ [])) ones (ends_with_ones c.args.run c.requires.some))
