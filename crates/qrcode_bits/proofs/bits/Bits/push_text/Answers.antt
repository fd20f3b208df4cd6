-- Only the room for header and characters was too small.
use Rattle.qrcode_bits.proofs.Prelude.{arith, common_steps, err_from_is_err_and}
use Rattle.qrcode_bits.proofs.{Segments.refused, Streams.not_both}
use Rattle.qrcode_bits.proofs.bits.Bits.push_text.Goals as goal

pub returns-in_err-reserve-clause-refusal : goal.returns-in_err-reserve-clause-refusal
returns-in_err-reserve-clause-refusal c =
    let p = err_from_is_err_and c.from_residual.result c.from_residual.ensures.1 in
    rw (p.1, p.2, c.in_err-reserve.ensures.memory) (refused c.args.self.now c.args.mode c.args.text.now c.wide_len.result c.requires.has c.requires.valid
    (grind (arith, common_steps)) (grind (arith, common_steps)) (λ room. not_both (c.in_err-reserve.ensures.enough room)))
