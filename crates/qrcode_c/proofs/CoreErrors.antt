-- An error of the library, and the error of the call that stands for it.
use Rattle.std.specs.Prelude.{◌≡◌, ℕ, ℤ, Bool, List, Some, None, IsSome}
use Rattle.std.specs.Str.{IsUtf8}
use Rattle.std.proofs.Common.{subst, refl, inr}
use Rattle.std.proofs.lemmas.Option.{slice_get_within}
use Rattle.qrcode_base.specs.declared.types.EcLevel.{EcLevel}
use Rattle.qrcode_base.specs.declared.types.errors.QrError.{QrError}
use Rattle.qrcode_base.specs.declared.types.errors.QrError.TheVariants as core
use Rattle.qrcode_base.specs.Symbols.{IsNormalNumber}
use Rattle.qrcode_bits.specs.Contents.{AreElements}
use Rattle.qrcode_bits.specs.Frame.{Front, front_of, no_front}
use Rattle.qrcode_bits.specs.declared.bits.front.Content.{Content}
use Rattle.qrcode_bits.specs.declared.bits.front.Content.TheVariants.{Bytes, Text, Elements}
use Rattle.qrcode_core.specs.Options.{HasVersions, IsOptionsRefusal, IsElementsOptionsRefusal}
use Rattle.qrcode_core.specs.Sequence.{IsSequenceRefusal}
use Rattle.qrcode_core.specs.declared.options.SymbolOptions.{SymbolOptions}
use Rattle.gs1.specs.Elements.{written_elements}
use Rattle.gs1_links.specs.LinkReader.{ReadsLink}
use Rattle.gs1_links.specs.Links.{link_of, linked}
use Rattle.gs1.specs.Reader.{FindsOnly}
use Rattle.qrcode_c.specs.Asking.{AsksFor, Means}
use Rattle.qrcode_c.specs.Asking.{IsAskedTextRefusal, IsAskedElementsRefusal}
use Rattle.qrcode_c.specs.Linked.{IsLinkedRefusal, link_fault}
use Rattle.qrcode_c.specs.Written.{IsWrittenRefusal, text_refusal}
use Rattle.qrcode_c.specs.Levels.{level_argument}
use Rattle.qrcode_c.specs.Refusals.{IsAsked, IsPartRefusal}
use Rattle.qrcode_c.specs.Spread.{AreValid, IsSpreadStatus}
use Rattle.qrcode_c.specs.Statuses.{status_error}
use Rattle.qrcode_c.specs.declared.options.Options.{Options}
use Rattle.qrcode_c.specs.declared.refusal.Refusal.{Refusal}
use Rattle.qrcode_c.specs.declared.refusal.Refusal.TheVariants as call

-- ---- Which errors of the library can come

pub options_known : (options : SymbolOptions) (front : Front) (bytes : List ℕ) (error : QrError) →
    HasVersions options → IsOptionsRefusal options front bytes error → IsSome (status_error error)
options_known options front bytes (core.DataTooLong) versions refused = refl
options_known options front bytes (core.OutOfMemory) versions refused = refl
options_known options front bytes (core.InvalidResourceLimits) versions refused = absurd (refused versions)
options_known options front bytes other versions refused = absurd refused.1

pub elements_known : (options : SymbolOptions) (elements : List ℕ) (error : QrError) →
    HasVersions options → IsElementsOptionsRefusal options (front_of None Elements) elements error → IsSome (status_error error)
elements_known options elements (core.DataTooLong) versions refused = refl
elements_known options elements (core.OutOfMemory) versions refused = refl
elements_known options elements (core.InvalidCharacter place byte) versions refused = refl
elements_known options elements (core.InvalidResourceLimits) versions refused = absurd (refused versions)
elements_known options elements other versions refused = absurd refused.1.1

pub sequence_known : (content : Content) (message cuts : List ℕ) (level : EcLevel) (limit : ℤ) (error : QrError) →
    IsNormalNumber limit → IsSequenceRefusal content message cuts level limit error → IsSome (status_error error)
sequence_known content message cuts level limit (core.DataTooLong) normal refused = refl
sequence_known content message cuts level limit (core.OutOfMemory) normal refused = refl
sequence_known content message cuts level limit (core.InvalidStructuredAppend value) normal refused = refl
sequence_known content message cuts level limit (core.InvalidResourceLimits) normal refused = absurd (refused normal)
sequence_known content message cuts level limit other normal refused = absurd refused

-- ---- What the error of the call says

-- The options of the caller, of which the fact is true.
abbrev pub asked_for : (asked : Options) (options : SymbolOptions) (fact : SymbolOptions → Type 0) → Means asked options → HasVersions options →
    fact options → AsksFor asked fact
asked_for asked options fact means versions holds = record { options = options; means = means; versions = versions; true_of = holds }

pub text_refused : (text : List ℕ) (asked : Options) (options : SymbolOptions) (room : ℕ) (error : QrError) (refusal : Refusal) →
    Means asked options → HasVersions options → IsUtf8 text → IsOptionsRefusal options (front_of None Text) text error →
    status_error error ≡ Some refusal → IsAskedTextRefusal text asked room refusal
text_refused text asked options room (core.DataTooLong) refusal means versions valid refused stands =
    let same : call.DataTooLong ≡ refusal = cc in
    subst (IsAskedTextRefusal text asked room) same (valid, asked_for asked options _ means versions refused)
text_refused text asked options room (core.OutOfMemory) refusal means versions valid refused stands =
    let same : call.OutOfMemory ≡ refusal = cc in
    subst (IsAskedTextRefusal text asked room) same (valid, asked_for asked options _ means versions refused)
text_refused text asked options room (core.InvalidResourceLimits) refusal means versions valid refused stands = absurd (refused versions)
text_refused text asked options room other refusal means versions valid refused stands = absurd refused.1

pub elements_refused : (elements : List ℕ) (asked : Options) (options : SymbolOptions) (room : ℕ) (error : QrError) (refusal : Refusal) →
    Means asked options → HasVersions options → IsElementsOptionsRefusal options (front_of None Elements) elements error →
    status_error error ≡ Some refusal → IsAskedElementsRefusal elements asked room refusal
elements_refused elements asked options room (core.InvalidCharacter place byte) refusal means versions refused stands =
    let same : call.InvalidCharacter ≡ refusal = cc in
    subst (IsAskedElementsRefusal elements asked room) same
    (asked_for asked options _ means versions (λ are. refused.1.here (are place (slice_get_within elements _ _ refused.1.byte_is))))
elements_refused elements asked options room (core.DataTooLong) refusal means versions refused stands =
    let same : call.DataTooLong ≡ refusal = cc in
    subst (IsAskedElementsRefusal elements asked room) same (refused.0, asked_for asked options _ means versions refused.1)
elements_refused elements asked options room (core.OutOfMemory) refusal means versions refused stands =
    let same : call.OutOfMemory ≡ refusal = cc in
    subst (IsAskedElementsRefusal elements asked room) same (refused.0, asked_for asked options _ means versions refused.1)
elements_refused elements asked options room (core.InvalidResourceLimits) refusal means versions refused stands = absurd (refused versions)
elements_refused elements asked options room other refusal means versions refused stands = absurd refused.1.1

pub written_refused : (checked : Bool) (text elements : List ℕ) (asked : Options) (options : SymbolOptions) (room : ℕ) (error : QrError)
    (refusal : Refusal) → Means asked options → HasVersions options → text_refusal checked text ≡ None → FindsOnly elements (written_elements text) →
    AreElements elements → IsElementsOptionsRefusal options (front_of None Elements) elements error → status_error error ≡ Some refusal →
    IsWrittenRefusal checked text asked room refusal
written_refused checked text elements asked options room (core.InvalidCharacter place byte) refusal means versions faultless found are refused stands =
    absurd (refused.1.here (are place (slice_get_within elements _ _ refused.1.byte_is)))
written_refused checked text elements asked options room (core.DataTooLong) refusal means versions faultless found are refused stands =
    let same : call.DataTooLong ≡ refusal = cc in
    subst (IsWrittenRefusal checked text asked room) same (inr
    record { elements = elements; faultless = faultless; found = found; true_of = asked_for asked options _ means versions refused.1 })
written_refused checked text elements asked options room (core.OutOfMemory) refusal means versions faultless found are refused stands =
    let same : call.OutOfMemory ≡ refusal = cc in
    subst (IsWrittenRefusal checked text asked room) same (asked_for asked options _ means versions faultless)
written_refused checked text elements asked options room (core.InvalidResourceLimits) refusal means versions faultless found are refused stands =
    absurd (refused versions)
written_refused checked text elements asked options room other refusal means versions faultless found are refused stands = absurd refused.1.1

pub linked_refused : (text domain link : List ℕ) (asked : Options) (options : SymbolOptions) (room : ℕ) (error : QrError) (refusal : Refusal) →
    Means asked options → HasVersions options → link_fault text domain ≡ None → link ≡ link_of domain (written_elements text) →
    ReadsLink link (linked (written_elements text)) → IsOptionsRefusal options no_front link error → status_error error ≡ Some refusal →
    IsLinkedRefusal text domain asked room refusal
linked_refused text domain link asked options room (core.DataTooLong) refusal means versions faultless is reads refused stands =
    let same : call.DataTooLong ≡ refusal = cc in
    subst (IsLinkedRefusal text domain asked room) same (inr
    record { link = link; faultless = faultless; link_is = is; reads = reads; true_of = asked_for asked options _ means versions refused })
linked_refused text domain link asked options room (core.OutOfMemory) refusal means versions faultless is reads refused stands =
    let same : call.OutOfMemory ≡ refusal = cc in
    subst (IsLinkedRefusal text domain asked room) same (asked_for asked options _ means versions faultless)
linked_refused text domain link asked options room (core.InvalidResourceLimits) refusal means versions faultless is reads refused stands =
    absurd (refused versions)
linked_refused text domain link asked options room other refusal means versions faultless is reads refused stands = absurd refused.1

pub part_refused : (message cuts : List ℕ) (level : EcLevel) (number limit : ℤ) (index room : ℕ) (error : QrError) (refusal : Refusal) →
    number ≡ level_argument level → IsAsked message cuts limit index → IsSequenceRefusal Bytes message cuts level limit error →
    status_error error ≡ Some refusal → IsPartRefusal message cuts number limit index room refusal
part_refused message cuts level number limit index room (core.InvalidStructuredAppend value) refusal named asked refused stands =
    let same : call.InvalidPartCount ≡ refusal = cc in
    subst (IsPartRefusal message cuts number limit index room) same (level, named, (asked, refused.1))
part_refused message cuts level number limit index room (core.DataTooLong) refusal named asked refused stands =
    let same : call.DataTooLong ≡ refusal = cc in
    subst (IsPartRefusal message cuts number limit index room) same (level, named, (asked, refused.1, refused.2))
part_refused message cuts level number limit index room (core.OutOfMemory) refusal named asked refused stands =
    let same : call.OutOfMemory ≡ refusal = cc in
    subst (IsPartRefusal message cuts number limit index room) same (level, named, (asked, refused.1))
part_refused message cuts level number limit index room (core.InvalidResourceLimits) refusal named asked refused stands = absurd (refused asked.is_limit)
part_refused message cuts level number limit index room other refusal named asked refused stands = absurd refused

pub spread_refused : (content : Content) (message cuts : List ℕ) (level : EcLevel) (number limit : ℤ) (room places : ℕ) (error : QrError)
    (refusal : Refusal) → number ≡ level_argument level → AreValid content message cuts limit →
    IsSequenceRefusal content message cuts level limit error → status_error error ≡ Some refusal →
    IsSpreadStatus content message cuts number limit room places refusal
spread_refused content message cuts level number limit room places (core.InvalidStructuredAppend value) refusal named valid refused stands =
    let same : call.InvalidPartCount ≡ refusal = cc in
    subst (IsSpreadStatus content message cuts number limit room places) same (level, named, (valid, refused.1))
spread_refused content message cuts level number limit room places (core.DataTooLong) refusal named valid refused stands =
    let same : call.DataTooLong ≡ refusal = cc in
    subst (IsSpreadStatus content message cuts number limit room places) same (level, named, (valid, refused.1, refused.2))
spread_refused content message cuts level number limit room places (core.OutOfMemory) refusal named valid refused stands =
    let same : call.OutOfMemory ≡ refusal = cc in
    subst (IsSpreadStatus content message cuts number limit room places) same (level, named, (valid, refused.1))
spread_refused content message cuts level number limit room places (core.InvalidResourceLimits) refusal named valid refused stands = absurd (refused valid.1)
spread_refused content message cuts level number limit room places other refusal named valid refused stands = absurd refused
