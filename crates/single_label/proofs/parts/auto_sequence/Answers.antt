-- The symbols, and the errors, are those of the text.
use Rattle.std.proofs.Common.{◌≡◌, false, inr, map, rules, subst}
use Rattle.label_words.specs.declared.command.Content.TheVariants.{Auto}
use Rattle.qrcode_core.specs.Symbol.{modules_of}
use Rattle.single_label.specs.Contents.{is_all_ascii}
use Rattle.single_label.specs.Parts.{IsSequenceAs, IsSequenceFaultAs, IsSmallestSequence, IsSmallestSequenceFault}
use Rattle.single_label.proofs.StopLemmas.{if_err, if_ok}
use Rattle.single_label.proofs.parts.auto_sequence.Goals as goal

pub returns-in-Ok-clause-symbols : goal.returns-in-Ok-clause-symbols
returns-in-Ok-clause-symbols c =
    let options = c.args.options.now in
    let bytes = c.args.bytes.now in
    let beyond : is_all_ascii bytes ≡ false = search rules in
    if_ok (λ symbols. IsSmallestSequence options c.in-Ok.text.now (map modules_of symbols.items))
    (λ symbols. IsSequenceAs Auto options bytes (map modules_of symbols.items)) c.smallest_parts.result
    (λ symbols h. inr (
      (beyond, c.in-Ok.ensures.utf8),
      subst (λ text. IsSmallestSequence options text (map modules_of symbols.items)) c.in-Ok.ensures.text h,
    )) c.smallest_parts.ensures.symbols

pub returns-in-Ok-clause-refusal : goal.returns-in-Ok-clause-refusal
returns-in-Ok-clause-refusal c =
    let options = c.args.options.now in
    let bytes = c.args.bytes.now in
    let beyond : is_all_ascii bytes ≡ false = search rules in
    if_err (IsSmallestSequenceFault options c.in-Ok.text.now) (IsSequenceFaultAs Auto options bytes) c.smallest_parts.result
    (λ e h. inr ((beyond, c.in-Ok.ensures.utf8), subst (λ text. IsSmallestSequenceFault options text e) c.in-Ok.ensures.text h)) c.smallest_parts.ensures.refusal
