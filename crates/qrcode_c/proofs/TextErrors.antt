-- The errors of the smallest symbol of a text, and the error of the call that stands for each.
use Rattle.std.specs.Prelude.{◌≡◌, ℕ, ℤ, List, Some, chars}
use Rattle.std.specs.Str.{IsUtf8}
use Rattle.std.proofs.Common.{subst, inl}
use Rattle.qrcode_base.specs.declared.types.EcLevel.{EcLevel}
use Rattle.qrcode_base.specs.declared.types.errors.QrError.{QrError}
use Rattle.qrcode_base.specs.declared.types.errors.QrError.TheVariants as core
use Rattle.qrcode_core.specs.Options.{HasVersions}
use Rattle.qrcode_core.specs.declared.options.SymbolOptions.{SymbolOptions}
use Rattle.smallest_symbols.specs.TextHeadline.{IsMicroTextRefused, IsTextRefused}
use Rattle.smallest_symbols.specs.declared.micro_texts.MicroTextError.{MicroTextError}
use Rattle.smallest_symbols.specs.declared.micro_texts.MicroTextError.TheVariants.{Symbol}
use Rattle.smallest_symbols.specs.declared.micro_texts.MicroTextError.TheVariants.{Unwritable}
use Rattle.qrcode_c.proofs.CoreErrors.{asked_for}
use Rattle.qrcode_c.specs.Asking.{Means}
use Rattle.qrcode_c.specs.Levels.{level_argument}
use Rattle.qrcode_c.specs.Statuses.{micro_text_status, status_error}
use Rattle.qrcode_c.specs.Texts.{IsMicroTextStatus, IsSmallestTextStatus}
use Rattle.qrcode_c.specs.declared.options.Options.{Options}
use Rattle.qrcode_c.specs.declared.refusal.Refusal.{Refusal}
use Rattle.qrcode_c.specs.declared.refusal.Refusal.TheVariants as call

pub smallest_refused : (text : List ℕ) (asked : Options) (options : SymbolOptions) (room : ℕ)
    (error : QrError) (refusal : Refusal) → Means asked options → HasVersions options →
    IsUtf8 text → IsTextRefused options (chars text) error → status_error error ≡ Some refusal →
    IsSmallestTextStatus text asked room refusal
smallest_refused text asked options room (core.DataTooLong) refusal means versions valid refused stands =
    let same : call.DataTooLong ≡ refusal = cc in
    subst (IsSmallestTextStatus text asked room) same (valid, asked_for asked options _ means versions refused)
smallest_refused text asked options room (core.OutOfMemory) refusal means versions valid refused stands =
    let same : call.OutOfMemory ≡ refusal = cc in
    subst (IsSmallestTextStatus text asked room) same (valid, asked_for asked options _ means versions refused)
smallest_refused text asked options room (core.InvalidResourceLimits) refusal means versions valid refused stands =
    absurd (refused versions)
smallest_refused text asked options room other refusal means versions valid refused stands = absurd refused

pub micro_text_refused : (text : List ℕ) (level : EcLevel) (number : ℤ) (room : ℕ)
    (error : MicroTextError) (refusal : Refusal) → number ≡ level_argument level → IsUtf8 text →
    IsMicroTextRefused level (chars text) error → micro_text_status error ≡ Some refusal →
    IsMicroTextStatus text number room refusal
micro_text_refused text level number room Unwritable refusal named valid refused stands =
    let same : call.UnwritableText ≡ refusal = cc in
    subst (IsMicroTextStatus text number room) same (level, named, (valid, refused))
micro_text_refused text level number room (Symbol (core.InvalidVersion version asked)) refusal named valid refused stands =
    let same : call.InvalidLevel ≡ refusal = cc in
    subst (IsMicroTextStatus text number room) same (inl (level, named, refused.0))
micro_text_refused text level number room (Symbol (core.DataTooLong)) refusal named valid refused stands =
    let same : call.DataTooLong ≡ refusal = cc in
    subst (IsMicroTextStatus text number room) same (level, named, (valid, refused))
micro_text_refused text level number room (Symbol (core.OutOfMemory)) refusal named valid refused stands =
    let same : call.OutOfMemory ≡ refusal = cc in
    subst (IsMicroTextStatus text number room) same (level, named, (valid, refused))
micro_text_refused text level number room (Symbol other) refusal named valid refused stands = absurd refused
