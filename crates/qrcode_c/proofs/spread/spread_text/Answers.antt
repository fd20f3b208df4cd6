-- An error of the library is that of the call.
use Rattle.std.proofs.Common.{◌≡◌, ◌∙◌, subst, sym, w32, rules}
use Rattle.std.{specs.Prelude.ℤ, proofs.lemmas.Int.to_z-of_z}
use Rattle.qrcode_base.specs.Symbols.{IsNormalNumber}
use Rattle.qrcode_bits.specs.declared.bits.front.Content.TheVariants.{Text}
use Rattle.qrcode_core.specs.Sequence.{IsSequenceRefusal}
use Rattle.qrcode_c.specs.{Levels.level_argument, Spread.AreValid}
use Rattle.qrcode_c.proofs.Answering.{same_limit}
use Rattle.qrcode_c.proofs.CoreErrors.{sequence_known, spread_refused}
use Rattle.qrcode_c.proofs.spread.spread_text.Goals as goal

pub core_refusal-requires : goal.core_refusal-requires
core_refusal-requires c =
    let limited = c.in-Some-limit_of.ensures.limit in
    let same = same_limit c.args.max_version c.in-Some-limit_of.limit limited.0 (to_z-of_z w32 c.args.max_version c.ranges.max_version) limited.1 in
    let normal : IsNormalNumber c.args.max_version = search rules in
    let refused = subst (λ (z : ℤ). IsSequenceRefusal Text c.args.text.now c.args.cuts.now c.in-Some.level z c.in-Err.error) same
    c.in-Err.ensures.refusal in
    sequence_known Text c.args.text.now c.args.cuts.now c.in-Some.level c.args.max_version c.in-Err.error normal refused

pub returns-in-Err-clause-refusal : goal.returns-in-Err-clause-refusal
returns-in-Err-clause-refusal c =
    let named : c.args.level ≡ level_argument c.in-Some.level = sym (to_z-of_z w32 c.args.level c.ranges.level) ∙ c.in-Some.ensures.level in
    let limited = c.in-Some-limit_of.ensures.limit in
    let same = same_limit c.args.max_version c.in-Some-limit_of.limit limited.0 (to_z-of_z w32 c.args.max_version c.ranges.max_version) limited.1 in
    let refused = subst (λ (z : ℤ). IsSequenceRefusal Text c.args.text.now c.args.cuts.now c.in-Some.level z c.in-Err.error) same
    c.in-Err.ensures.refusal in
    let valid : AreValid Text c.args.text.now c.args.cuts.now c.args.max_version = search rules in
    spread_refused Text c.args.text.now c.args.cuts.now c.in-Some.level c.args.level c.args.max_version _ _ c.in-Err.error c.core_refusal.result
    named valid refused c.core_refusal.ensures
