-- The symbols are those of the fewest parts, or the parts have none.
use Rattle.std.proofs.Common.{◌≡◌, arith, rules, map}
use Rattle.std.proofs.lemmas.Int.{ints, to_z-of_z}
use Rattle.std.specs.Prelude.{nat_abs}
use mir.Val.{to_z, of_z}
use mir.Syntax.{w16}
use Rattle.qrcode_core.specs.{Symbol.modules_of}
use Rattle.smallest_symbols.specs.TextCuts.{AreBestTextCuts}
use Rattle.smallest_symbols.specs.TextMessages.{AreSmallestTextSymbols, IsTextSequenceRefusal}
use Rattle.single_label.specs.Parts.{IsSmallestSequence, IsSmallestSequenceFault}
use Rattle.single_label.proofs.{PartLemmas.smallest_fault, StopLemmas.if_err, StopLemmas.if_ok}
use Rattle.single_label.proofs.parts.smallest_parts.Goals as goal

pub returns-clause-symbols : goal.returns-clause-symbols
returns-clause-symbols c =
    let last : to_z w16 (of_z w16 c.args.options.now.max_version) ≡ c.args.options.now.max_version = search (arith, rules, ints, to_z-of_z) in
    let options = c.args.options.now in
    let message = c.args.text.now in
    let cuts = c.deref.result.now in
    let best : AreBestTextCuts message options.level (nat_abs options.max_version) cuts = search rules in
    if_ok (λ symbols. AreSmallestTextSymbols message cuts options.level (nat_abs options.max_version) (map modules_of symbols.items))
    (λ symbols. IsSmallestSequence options message (map modules_of symbols.items)) c.smallest_text_sequence.result (λ symbols h. record { cuts = cuts; fewest = best; symbols = h }) (rw last at c.smallest_text_sequence.ensures.smallest)

pub returns-clause-refusal : goal.returns-clause-refusal
returns-clause-refusal c =
    let last : to_z w16 (of_z w16 c.args.options.now.max_version) ≡ c.args.options.now.max_version = search (arith, rules, ints, to_z-of_z) in
    let options = c.args.options.now in
    let message = c.args.text.now in
    let cuts = c.deref.result.now in
    let best : AreBestTextCuts message options.level (nat_abs options.max_version) cuts = search rules in
    if_err (IsTextSequenceRefusal message cuts options.level options.max_version) (IsSmallestSequenceFault options message) c.smallest_text_sequence.result
    (λ e h. smallest_fault options message cuts e best h) (rw last at c.smallest_text_sequence.ensures.refusal)
