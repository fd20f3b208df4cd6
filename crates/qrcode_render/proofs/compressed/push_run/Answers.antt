-- The digit, after its number or alone.
use Rattle.std.proofs.Common.{◌≡◌, ◌∷◌, [], replicate, subst, arith}
use Rattle.qrcode_render.specs.CompressedData.{SaysCount, SaysDigits}
use Rattle.qrcode_render.proofs.ReadingLemmas.{adds_more, adds_piece, says_digit, says_run}
use Rattle.qrcode_render.proofs.compressed.push_run.Goals as goal

pub returns-in_ok-push : goal.returns-in_ok-push
returns-in_ok-push c =
    let digit = c.args.digit in
    adds_more (SaysCount c.args.run) (SaysDigits (replicate c.args.run digit)) c.args.bytes.now.items c.push_count.new.bytes.items c.push.new.self.items
    (digit ∷ []) c.in_ok-push_count.ensures c.in_ok-push.ensures.items
    (λ letters says. says_run c.args.run digit letters (omega arith) c.requires.hex says)

pub returns-in_ok-push-2 : goal.returns-in_ok-push-2
returns-in_ok-push-2 c =
    let digit = c.args.digit in
    let one : 1 ≡ c.args.run = omega arith in
    adds_piece (SaysDigits (replicate c.args.run digit)) c.args.bytes.now.items c.push-else-run-gt1.new.self.items (digit ∷ []) c.in_ok-push-2.ensures.items
    (subst (λ n. SaysDigits (replicate n digit) (digit ∷ [])) one (says_digit digit c.requires.hex))
