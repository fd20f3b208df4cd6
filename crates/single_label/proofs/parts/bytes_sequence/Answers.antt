-- The symbols are those of the fewest parts, or the parts have none.
use Rattle.std.proofs.Common.{◌≡◌, arith, rules, map}
use Rattle.std.proofs.lemmas.Int.{ints, to_z-of_z}
use Rattle.std.specs.Prelude.{nat_abs}
use mir.Val.{to_z, of_z}
use mir.Syntax.{w16}
use Rattle.qrcode_bits.specs.declared.bits.front.Content.TheVariants.{Bytes}
use Rattle.qrcode_core.specs.{BestCuts.AreBestCuts, Symbol.modules_of, Sequence.AreBestSymbols, Sequence.IsSequenceRefusal}
use Rattle.single_label.specs.Parts.{IsSequenceOf, IsSequenceFault}
use Rattle.single_label.proofs.{PartLemmas.sequence_fault, StopLemmas.if_err, StopLemmas.if_ok}
use Rattle.single_label.proofs.parts.bytes_sequence.Goals as goal

pub returns-clause-symbols : goal.returns-clause-symbols
returns-clause-symbols c =
    let last : to_z w16 (of_z w16 c.args.options.now.max_version) ≡ c.args.options.now.max_version = search (arith, rules, ints, to_z-of_z) in
    let options = c.args.options.now in
    let message = c.args.bytes.now in
    let cuts = c.deref.result.now in
    let best : AreBestCuts Bytes message options.level (nat_abs options.max_version) cuts = search rules in
    if_ok (λ symbols. AreBestSymbols Bytes message cuts options.level (nat_abs options.max_version) (map modules_of symbols.items))
    (λ symbols. IsSequenceOf Bytes options message (map modules_of symbols.items)) c.sequence.result (λ symbols h. record { cuts = cuts; fewest = best; symbols = h }) (rw last at c.sequence.ensures.best)

pub returns-clause-refusal : goal.returns-clause-refusal
returns-clause-refusal c =
    let last : to_z w16 (of_z w16 c.args.options.now.max_version) ≡ c.args.options.now.max_version = search (arith, rules, ints, to_z-of_z) in
    let options = c.args.options.now in
    let message = c.args.bytes.now in
    let cuts = c.deref.result.now in
    let best : AreBestCuts Bytes message options.level (nat_abs options.max_version) cuts = search rules in
    if_err (IsSequenceRefusal Bytes message cuts options.level options.max_version) (IsSequenceFault Bytes options message) c.sequence.result
    (λ e h. sequence_fault Bytes options message cuts e best h) (rw last at c.sequence.ensures.refusal)
