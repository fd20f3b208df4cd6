-- The best encoding, drawn, is the best symbol.
use Rattle.qrcode_core.proofs.Prelude.{arith, common_steps, IfOk-weaker}
use Rattle.qrcode_bits.proofs.Pairs.{bytes_valid}
use Rattle.qrcode_core.proofs.Best.{best_of_stream, fills_symbol, encoded_fits, encoded_short, normal_refused, only_memory}
use Rattle.qrcode_core.proofs.symbol.owned.Symbol.new.Goals as goal

pub symbol_of-requires : goal.symbol_of-requires
symbol_of-requires c = fills_symbol (bytes_valid c.args.bytes.now (λ i. omega (arith, c.type_inv.bytes i))) tt c.in_ok-bits.ensures.ok

pub returns : goal.returns
returns c =
    let are = bytes_valid c.args.bytes.now (λ i. omega (arith, c.type_inv.bytes i)) in
    let code = c.in_ok-bits.ensures.ok in
    let short = encoded_short 40 (omega arith) are code in
    let result = c.symbol_of.result in
    let drawn = c.symbol_of.ensures.drawn in
    record {
      best = IfOk-weaker result _ _ (λ _ made. (best_of_stream are tt code made).0) drawn;
      reading = IfOk-weaker result _ _ (λ _ made. (best_of_stream are tt code made).2) drawn;
      fitting = IfOk-weaker result _ _ (λ _ _. encoded_fits code) drawn;
      limit = IfOk-weaker result _ _ (λ _ _. short) drawn;
      refusal = only_memory result _ short c.symbol_of.ensures.memory;
    }

pub returns-in_err-bits-clause-refusal : goal.returns-in_err-bits-clause-refusal
returns-in_err-bits-clause-refusal c =
    grind (arith, common_steps, normal_refused c.args.bytes.now c.args.level c.in_err-bits.field-0.0 c.in_err-bits.ensures.err)
