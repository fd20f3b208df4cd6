-- Each part's symbol is one more of the result; where a part fails, the whole call fails.
use Rattle.qrcode_core.proofs.Prelude.{common_steps, ◌+◌, arith, [], ◌∷◌, map, nat_abs, to_z-of_z, map-append, TellsReading, modules_of}
use Rattle.qrcode_core.proofs.Prelude.{ℕ, ◌∙◌, ap, Header, front_of}
use Rattle.std.proofs.Common.{Some}
use Rattle.qrcode_bits.specs.Frame.{header_of}
use Rattle.std.proofs.lemmas.List.Elements.{All-push}
use mir.Syntax.{w16}
use Rattle.qrcode_core.proofs.Sequences.{one_more, best_symbols, none_too_long, refused_part}
use Rattle.qrcode_core.proofs.symbol.sequence.symbols_of.Goals as goal

pub loop-index-preserved : goal.loop-index-preserved
loop-index-preserved c =
    let bytes = c.args.bytes.now in
    let cuts = c.args.cuts.now in
    let done = c.loop-index.index in
    let before = c.loop-index.symbols.items in
    let part = rw c.from.ensures at c.part_at-part.ensures in
    let front = c.with_header-front.ensures ∙ ap (λ (h : Header). front_of (Some h) c.args.content)
    (c.new-header.ensures ∙ ap (λ (p : ℕ). header_of (done + 1) c.in_ok-total.total p) c.parity_of-parity.ensures) in
    let symbol = rw (part, front) at c.in_ok-symbol.ensures.best in
    let grids = map-append modules_of before (c.in_ok-symbol.field-0 ∷ []) in
    record {
      first = rw (c.in_ok-push.ensures.items, grids)
          (one_more c.args.content bytes cuts c.args.level _ c.in_ok-total.total done (map modules_of before) c.in_ok-symbol.field-0.modules
          c.loop-index.invariant.first symbol);
      reading = rw c.in_ok-push.ensures.items
          (All-push TellsReading before c.in_ok-symbol.field-0 c.loop-index.invariant.reading c.in_ok-symbol.ensures.reading);
    }

pub returns-in_err-symbol-clause-refusal : goal.returns-in_err-symbol-clause-refusal
returns-in_err-symbol-clause-refusal c =
    let same = to_z-of_z w16 c.args.max_version c.ranges.max_version in
    let limit = rw same at c.in_ok-total.ensures.limit in
    let part = rw c.from.ensures at c.part_at-part.ensures in
    let front = c.with_header-front.ensures ∙ ap (λ (h : Header). front_of (Some h) c.args.content)
    (c.new-header.ensures ∙ ap (λ (p : ℕ). header_of (c.loop-index.index + 1) c.in_ok-total.total p) c.parity_of-parity.ensures) in
    let few = rw (← c.in_ok-total.ensures.total) at c.in_ok-total.ensures.few in
    let refused = refused_part c.args.content c.args.bytes.now c.args.cuts.now c.args.level c.args.max_version c.in_ok-total.total c.loop-index.index
    _ c.in_err-symbol.field-0.0 limit few c.in_ok-total.ensures.total (omega arith) (rw (part, same, front) at c.in_err-symbol.ensures.refusal) in
    grind (arith, common_steps, refused)

pub returns-in_err-push-clause-refusal : goal.returns-in_err-push-clause-refusal
returns-in_err-push-clause-refusal c =
    let same = to_z-of_z w16 c.args.max_version c.ranges.max_version in
    let limit = rw same at c.in_ok-total.ensures.limit in
    let few = c.in_ok-total.ensures.few in
    grind (arith, limit, few, c.in_err-push.ensures)

pub returns-clause-best : goal.returns-clause-best
returns-clause-best c =
    rw (← to_z-of_z w16 c.args.max_version c.ranges.max_version)
    (best_symbols c.args.content c.args.bytes.now c.args.cuts.now c.args.level _ c.in_ok-total.total c.loop-index.index
    (map modules_of c.loop-index.symbols.items)
    c.requires.ordered (rw (← c.in_ok-total.ensures.total) at c.in_ok-total.ensures.few) c.in_ok-total.ensures.total (omega arith) c.loop-index.invariant.first)

pub returns-clause-fitting : goal.returns-clause-fitting
returns-clause-fitting c =
    none_too_long c.args.content c.args.bytes.now c.args.cuts.now c.args.level (nat_abs c.args.max_version)
    (map modules_of c.loop-index.symbols.items) (returns-clause-best c)
