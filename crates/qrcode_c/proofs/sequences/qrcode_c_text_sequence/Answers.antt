-- The status of an error is its number.
use Rattle.std.proofs.Common.{◌≡◌, w32, to_z, of_z, length, subst, rules}
use Rattle.std.{specs.Prelude.ℤ, proofs.lemmas.Int.to_z-of_z}
use Rattle.qrcode_bits.specs.declared.bits.front.Content.TheVariants.{Text}
use Rattle.qrcode_c.specs.{Refusals.IsTextStatus, Spread.IsSpreadStatus, Statuses.status_of}
use Rattle.qrcode_c.proofs.sequences.qrcode_c_text_sequence.Goals as goal

pub returns-in-Err-clause-refusal : goal.returns-in-Err-clause-refusal
returns-in-Err-clause-refusal c = λ some.
    let named : to_z w32 (of_z w32 c.status.result) ≡ status_of c.in-Err.refusal = search (rules, to_z-of_z) in
    let level = subst (λ (z : ℤ). IsTextStatus c.args.text.now z (IsSpreadStatus Text c.args.text.now c.args.cuts.now z (to_z w32 (of_z w32 c.args.max_version))
    (length c.args.modules.now) (length c.args.shapes.now)) c.in-Err.refusal) (to_z-of_z w32 c.args.level c.ranges.level) c.in-Err.ensures.refusal in
    let refused = subst (λ (z : ℤ). IsTextStatus c.args.text.now c.args.level (IsSpreadStatus Text c.args.text.now c.args.cuts.now c.args.level z
    (length c.args.modules.now) (length c.args.shapes.now)) c.in-Err.refusal) (to_z-of_z w32 c.args.max_version c.ranges.max_version) level in
    (c.in-Err.refusal, named, refused)
