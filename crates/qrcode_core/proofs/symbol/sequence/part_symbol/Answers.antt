-- The symbol of the best encoding of a part after its front is the best symbol of the part.
use Rattle.qrcode_core.proofs.Prelude.{ap, arith, nat_abs, subst, sym, ◌≤◌, ℕ, IfOk-weaker, to_z-of_z}
use Rattle.qrcode_core.proofs.{Limited.few_versions, Best.best_of_stream, Best.fills_symbol, Best.encoded_short, Best.only_memory}
use Rattle.qrcode_bits.proofs.{Pairs.bytes_valid, Contents.length-parsed}
use mir.Syntax.{w16}
use Rattle.qrcode_core.proofs.symbol.sequence.part_symbol.Goals as goal

pub symbol_of-requires : goal.symbol_of-requires
symbol_of-requires c = fills_symbol (bytes_valid c.args.part.now (λ i. omega (arith, c.type_inv.part i))) c.requires.suited c.in_ok-bits.ensures.ok

pub returns : goal.returns
returns c =
    let are = bytes_valid c.args.part.now (λ i. omega (arith, c.type_inv.part i)) in
    let code = c.in_ok-bits.ensures.ok in
    let same = to_z-of_z w16 c.args.max_version c.ranges.max_version in
    let short = encoded_short _ (few_versions _ c.in_ok-bits.ensures.limit) are code in
    let result = c.symbol_of.result in
    let drawn = c.symbol_of.ensures.drawn in
    record {
      best = IfOk-weaker result _ _ (λ symbol made.
          let found = best_of_stream are c.requires.suited code made in
          record { best = found.0; up_to = omega (arith, found.1, ap nat_abs same) }) drawn;
      reading = IfOk-weaker result _ _ (λ _ made. (best_of_stream are c.requires.suited code made).2) drawn;
      refusal = only_memory result _ (
        rw same at c.in_ok-bits.ensures.limit,
        subst (λ (n : ℕ). n ≤ 7089) (sym (length-parsed c.args.front.now.content c.args.part.now)) short,
      ) c.symbol_of.ensures.memory;
    }
