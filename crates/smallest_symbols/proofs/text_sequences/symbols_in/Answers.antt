-- Each part's symbol is one more of the result; where a part fails, the whole call fails.
use Rattle.std.proofs.Common.{◌+◌, ◌∙◌, ℕ, List, [], ◌∷◌, ap, arith, map}
use Rattle.std.proofs.lemmas.Grind.{common_steps}
use Rattle.std.proofs.lemmas.List.{map-append}
use Rattle.std.proofs.lemmas.List.Elements.{All-nil, All-push}
use Rattle.qrcode_bits.specs.Frame.{header_of}
use Rattle.qrcode_core.specs.Sequence.{parity_of}
use Rattle.qrcode_core.specs.Symbol.{modules_of}
use Rattle.smallest_symbols.specs.TextHeadline.{TellsTextReading}
use Rattle.smallest_symbols.proofs.TextMessages.{no_symbols, one_more, refused_part, symbols_of}
use Rattle.smallest_symbols.proofs.text_sequences.symbols_in.Goals as goal

pub returns-in_err-symbol-clause-refusal : goal.returns-in_err-symbol-clause-refusal
returns-in_err-symbol-clause-refusal c =
    let part = rw c.from.ensures at c.text_part-part.ensures in
    let refused = refused_part c.args.manner c.args.text.now c.args.cuts.now c.args.level c.args.limit c.loop-index.index
    c.in_err-symbol.field-0.0 (omega (arith, c.requires.total, c.loop-index-test.true)) (rw part at c.in_err-symbol.ensures.refusal) in
    grind (arith, common_steps, refused)

pub loop-index-init : goal.loop-index-init
loop-index-init c = record {
  first = rw c.new-symbols.ensures.items
      (no_symbols c.args.manner c.args.text.now c.args.cuts.now c.args.level c.args.limit c.args.total);
  reading = rw c.new-symbols.ensures.items (All-nil TellsTextReading);
}

pub loop-index-preserved : goal.loop-index-preserved
loop-index-preserved c =
    let text = c.args.text.now in
    let cuts = c.args.cuts.now in
    let done = c.loop-index.index in
    let before = c.loop-index.symbols.items in
    let part = rw c.from.ensures at c.text_part-part.ensures in
    let header = c.new-header.ensures ∙ ap (λ (p : ℕ). header_of (done + 1) c.args.total p)
    (c.parity_of-parity.ensures ∙ ap (λ (bytes : List ℕ). parity_of bytes) c.as_bytes.ensures.value) in
    let symbol = rw (part, header) at c.in_ok-symbol.ensures.smallest in
    let grids = map-append modules_of before (c.in_ok-symbol.field-0 ∷ []) in
    record {
      first = rw (c.in_ok-push.ensures.items, grids)
          (one_more c.args.manner text cuts c.args.level c.args.limit c.args.total done (map modules_of before) c.in_ok-symbol.field-0.modules
          c.loop-index.invariant.first symbol);
      reading = rw c.in_ok-push.ensures.items
          (All-push TellsTextReading before c.in_ok-symbol.field-0 c.loop-index.invariant.reading c.in_ok-symbol.ensures.reading);
    }

pub returns-clause-smallest : goal.returns-clause-smallest
returns-clause-smallest c =
    symbols_of c.args.manner c.args.text.now c.args.cuts.now c.args.level c.args.limit c.args.total c.loop-index.index
    (map modules_of c.loop-index.symbols.items) c.utf8.text
    c.requires.ordered c.requires.whole c.requires.few c.requires.total (omega arith) c.loop-index.invariant.first
