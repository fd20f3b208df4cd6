-- The symbol at the index, written or too large for the buffer.
use Rattle.std.proofs.Common.{◌≡◌, ◌∙◌, subst, sym, w32, rules}
use Rattle.std.{specs.Prelude.ℤ, proofs.lemmas.Int.to_z-of_z}
use Rattle.qrcode_base.specs.Symbols.{IsNormalNumber}
use Rattle.qrcode_core.specs.{Sequence.IsSequenceRefusal}
use Rattle.qrcode_c.{specs.Levels.level_argument, specs.Refusals.IsAsked, proofs.Answering.part_held, proofs.Answering.part_of}
use Rattle.qrcode_c.{proofs.Answering.short_refused, proofs.Answering.same_limit, proofs.CoreErrors.sequence_known, proofs.CoreErrors.part_refused}
use Rattle.qrcode_c.proofs.drawing.part_symbol.Goals as goal
use Rattle.qrcode_bits.specs.declared.bits.front.Content.TheVariants.{Bytes}

pub returns-in-Ok-clause-held : goal.returns-in-Ok-clause-held
returns-in-Ok-clause-held c =
    let named : c.args.level ≡ level_argument c.in-Some.level = sym (to_z-of_z w32 c.args.level c.ranges.level) ∙ c.in-Some.ensures.level in
    let limited = c.in-Some-limit_of.ensures.limit in
    let same = same_limit c.args.max_version c.in-Some-limit_of.limit limited.0 (to_z-of_z w32 c.args.max_version c.ranges.max_version) limited.1 in
    let part = part_of c.args.message.now c.args.cuts.now c.in-Some.level c.args.max_version _ c.args.index c.in-Ok.symbol same c.in-Ok.ensures.total
    c.if-index-cuts.false c.in-Ok.ensures.best c.in-Ok.ensures.fitting in
    part_held c.args.message.now c.args.cuts.now c.in-Some.level c.args.level c.args.max_version c.args.index c.in-Ok.symbol c.args.modules.now _
    c.write.result named part c.in-Ok.ensures.reading c.write.ensures.held

pub returns-in-Ok-clause-refusal : goal.returns-in-Ok-clause-refusal
returns-in-Ok-clause-refusal c =
    let named : c.args.level ≡ level_argument c.in-Some.level = sym (to_z-of_z w32 c.args.level c.ranges.level) ∙ c.in-Some.ensures.level in
    let limited = c.in-Some-limit_of.ensures.limit in
    let same = same_limit c.args.max_version c.in-Some-limit_of.limit limited.0 (to_z-of_z w32 c.args.max_version c.ranges.max_version) limited.1 in
    let part = part_of c.args.message.now c.args.cuts.now c.in-Some.level c.args.max_version _ c.args.index c.in-Ok.symbol same c.in-Ok.ensures.total
    c.if-index-cuts.false c.in-Ok.ensures.best c.in-Ok.ensures.fitting in
    short_refused _ _ c.write.result c.write.ensures.short c.write.ensures.short_buffer
    (λ less. (c.in-Some.level, named, record { symbol = c.in-Ok.symbol; is_symbol = part; above = less }))

pub core_refusal-requires : goal.core_refusal-requires
core_refusal-requires c =
    let limited = c.in-Some-limit_of.ensures.limit in
    let same = same_limit c.args.max_version c.in-Some-limit_of.limit limited.0 (to_z-of_z w32 c.args.max_version c.ranges.max_version) limited.1 in
    let normal : IsNormalNumber c.args.max_version = search rules in
    let refused = subst (λ (z : ℤ). IsSequenceRefusal Bytes c.args.message.now c.args.cuts.now c.in-Some.level z c.in-Err.error) same
    c.in-Err.ensures.refusal in
    sequence_known Bytes c.args.message.now c.args.cuts.now c.in-Some.level c.args.max_version c.in-Err.error normal refused

pub returns-in-Err-clause-refusal : goal.returns-in-Err-clause-refusal
returns-in-Err-clause-refusal c =
    let named : c.args.level ≡ level_argument c.in-Some.level = sym (to_z-of_z w32 c.args.level c.ranges.level) ∙ c.in-Some.ensures.level in
    let limited = c.in-Some-limit_of.ensures.limit in
    let same = same_limit c.args.max_version c.in-Some-limit_of.limit limited.0 (to_z-of_z w32 c.args.max_version c.ranges.max_version) limited.1 in
    let refused = subst (λ (z : ℤ). IsSequenceRefusal Bytes c.args.message.now c.args.cuts.now c.in-Some.level z c.in-Err.error) same
    c.in-Err.ensures.refusal in
    let asked : IsAsked c.args.message.now c.args.cuts.now c.args.max_version c.args.index = search rules in
    part_refused c.args.message.now c.args.cuts.now c.in-Some.level c.args.level c.args.max_version c.args.index _ c.in-Err.error c.core_refusal.result
    named asked refused c.core_refusal.ensures
