-- The best encoding, drawn, is the best symbol.
use Rattle.qrcode_core.proofs.Prelude.{rules, arith, IfOk-weaker}
use Rattle.std.proofs.Common.{◌≢◌}
use Rattle.qrcode_base.specs.declared.types.EcLevel.TheVariants.{H}
use Rattle.qrcode_bits.proofs.Pairs.{bytes_valid}
use Rattle.qrcode_core.proofs.Best.{best_of_stream, fills_symbol, encoded_micro_short, only_memory}
use Rattle.qrcode_core.proofs.symbol.owned.Symbol.micro.Goals as goal

pub symbol_of-requires : goal.symbol_of-requires
symbol_of-requires c = fills_symbol (bytes_valid c.args.bytes.now (λ i. omega (arith, c.type_inv.bytes i))) tt c.in_ok-bits.ensures.ok

pub returns : goal.returns
returns c =
    let are = bytes_valid c.args.bytes.now (λ i. omega (arith, c.type_inv.bytes i)) in
    let code = c.in_ok-bits.ensures.ok in
    let short = encoded_micro_short are code in
    let some : c.args.level ≢ H = search rules in
    let result = c.symbol_of.result in
    let drawn = c.symbol_of.ensures.drawn in
    record {
      best = IfOk-weaker result _ _ (λ _ made. (best_of_stream are tt code made).0) drawn;
      reading = IfOk-weaker result _ _ (λ _ made. (best_of_stream are tt code made).2) drawn;
      fitting = IfOk-weaker result _ _ (λ _ _ none. none code.number code.choice.up_to code.plan code.choice.fits) drawn;
      limit = IfOk-weaker result _ _ (λ _ _. short) drawn;
      refusal = only_memory result _ (some, short) c.symbol_of.ensures.memory;
    }
