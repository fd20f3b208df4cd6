-- The best encoding in the versions, drawn, is the best symbol there.
use Rattle.qrcode_core.proofs.Prelude.{arith, nat_abs, subst, sym, ◌≤◌, ℕ, IfOk-weaker, to_z-of_z}
use Rattle.qrcode_core.proofs.{Limited.few_versions, Best.best_of_stream, Best.fills_symbol, Best.range_short, Best.only_memory}
use Rattle.qrcode_bits.proofs.{Pairs.bytes_valid, Contents.length-parsed}
use mir.Syntax.{w16}
use Rattle.qrcode_core.proofs.symbol.asked.symbol_in.Goals as goal

pub symbol_of-requires : goal.symbol_of-requires
symbol_of-requires c = fills_symbol (bytes_valid c.args.bytes.now (λ i. omega (arith, c.type_inv.bytes i))) c.requires.suited c.in_ok-bits.ensures.ok

pub returns : goal.returns
returns c =
    let are = bytes_valid c.args.bytes.now (λ i. omega (arith, c.type_inv.bytes i)) in
    let first = to_z-of_z w16 c.args.min_version c.ranges.min_version in
    let last = to_z-of_z w16 c.args.max_version c.ranges.max_version in
    let code = rw (first, last) at c.in_ok-bits.ensures.ok in
    let range = rw (first, last) at c.in_ok-bits.ensures.limit in
    let short = range_short (nat_abs c.args.min_version) (nat_abs c.args.max_version) range.2 (few_versions _ range.1) are code in
    let result = c.symbol_of.result in
    let drawn = c.symbol_of.ensures.drawn in
    record {
      best = IfOk-weaker result _ _ (λ symbol made.
          let found = best_of_stream are c.requires.suited code made in
          record { best = found.0; up_to = found.1 }) drawn;
      reading = IfOk-weaker result _ _ (λ _ made. (best_of_stream are c.requires.suited code made).2) drawn;
      range = IfOk-weaker result _ _ (λ _ _. range) drawn;
      limit = IfOk-weaker result _ _ (λ _ _. short) drawn;
      refusal = only_memory result _ (
        range,
        subst (λ (n : ℕ). n ≤ 7089) (sym (length-parsed c.args.front.now.content c.args.bytes.now)) short,
      ) c.symbol_of.ensures.memory;
    }
