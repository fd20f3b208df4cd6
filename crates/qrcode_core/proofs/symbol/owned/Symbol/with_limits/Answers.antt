-- The best encoding up to a version, drawn, is the best symbol within the limits.
use Rattle.qrcode_core.proofs.Prelude.{common_steps, rules, ◌≡◌, ◌≤◌, arith, length, IfOk-weaker, Normal, IsBudget, DrawnSymbol, IsDrawnStream}
use mir.Val.{to_z, of_z}
use mir.Syntax.{w16}
use Rattle.qrcode_bits.proofs.Pairs.{bytes_valid}
use Rattle.qrcode_core.proofs.Limited.{few_versions, limited_refusal, best_within, fits_within}
use Rattle.qrcode_core.proofs.Best.{best_of_stream, fills_symbol, encoded_short, only_memory}
use Rattle.qrcode_core.proofs.symbol.owned.Symbol.with_limits.Goals as goal

pub symbol_of-requires : goal.symbol_of-requires
symbol_of-requires c = fills_symbol (bytes_valid c.args.bytes.now (λ i. omega (arith, c.type_inv.bytes i))) tt c.in_ok-bits.ensures.ok

pub returns : goal.returns
returns c =
    let limits = c.args.limits.now in
    let budget : IsBudget limits = search (rules, c.validate.ensures.valid.0, c.if-is_err.false, c.is_err.ensures.value) in
    let are = bytes_valid c.args.bytes.now (λ i. omega (arith, c.type_inv.bytes i)) in
    let short : length c.args.bytes.now ≤ limits.max_data_length = search rules in
    let most : limits.max_version ≡ Normal (to_z w16 (of_z w16 c.in-Normal.number)) = search rules in
    let code = c.in_ok-bits.ensures.ok in
    let few = encoded_short _ (few_versions _ c.in_ok-bits.ensures.limit) are code in
    let within = λ (symbol : DrawnSymbol) (made : IsDrawnStream c.in_ok-bits.bits c.args.level symbol).
    let best = best_of_stream are tt code made in
    best_within limits c.args.bytes.now c.args.level _ most symbol.modules best.0 best.1 in
    let result = c.symbol_of.result in
    let drawn = c.symbol_of.ensures.drawn in
    record {
      best = IfOk-weaker result _ _ within drawn;
      reading = IfOk-weaker result _ _ (λ _ made. (best_of_stream are tt code made).2) drawn;
      fitting = IfOk-weaker result _ _ (λ symbol made. fits_within limits c.args.bytes.now c.args.level symbol.modules short (within symbol made)) drawn;
      budget = IfOk-weaker result _ _ (λ _ _. budget) drawn;
      limit = IfOk-weaker result _ _ (λ _ _. few) drawn;
      refusal = only_memory result _ (budget, short, few) c.symbol_of.ensures.memory;
    }

pub returns-in_err-bits-clause-refusal : goal.returns-in_err-bits-clause-refusal
returns-in_err-bits-clause-refusal c = grind (arith, common_steps, limited_refusal c.args.limits.now c.args.bytes.now c.args.level, c.in_err-bits.ensures.err)
