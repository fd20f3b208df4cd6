-- The first fault of a text, and the error of a call that tells it.
use Rattle.std.proofs.Common.{◌≡◌, ◌∙◌, refl, sym, ap, subst, inl}
use Rattle.std.specs.Prelude.{◌<◌, ◌++◌, length, drop, Result, Ok, Err, OnOk, OnErr, IfErr}
use Rattle.std.specs.Prelude.{ℕ, Bool, true, false, List, Option, Some, None, ◌==◌, if◌then◌else◌}
use Rattle.std.specs.Option.{option_map, option_or}
use Rattle.gs1.specs.Elements.{text_fault, written_elements}
use Rattle.gs1_links.specs.LinkReader.{ReadsLink}
use Rattle.gs1_links.specs.Links.{link_error, link_of, linked, IsRefusedLink}
use Rattle.gs1.specs.Together.{text_conflict}
use Rattle.gs1.specs.Values.{text_error}
use Rattle.gs1.specs.declared.error.Gs1Error.{Gs1Error}
use Rattle.gs1.specs.declared.error.Gs1Error.TheVariants as fault
use Rattle.gs1_links.specs.declared.link_error.LinkError.{LinkError}
use Rattle.gs1_links.specs.declared.link_error.LinkError.TheVariants as link
use Rattle.gs1.specs.declared.reason.Reason.{Reason}
use Rattle.gs1.specs.declared.reason.Reason.TheVariants as reason
use Rattle.gs1.specs.declared.refusal.CheckError.{CheckError}
use Rattle.gs1.specs.declared.together.TogetherError.{TogetherError}
use Rattle.gs1.specs.declared.together.TogetherError.TheVariants as together
use Rattle.gs1.specs.declared.refusal.CheckError.TheVariants as table
use Rattle.qrcode_core.specs.Options.{HasVersions}
use Rattle.qrcode_core.specs.declared.options.SymbolOptions.{SymbolOptions}
use Rattle.qrcode_c.specs.Asking.{Means}
use Rattle.qrcode_c.specs.Faults.{refusal_for, value_refusal, table_refusal, together_refusal, link_refusal, IsFaultRefusal, link_place_of}
use Rattle.qrcode_c.specs.Linked.{link_fault, HasLink, HoldsLink, IsLinkedRefusal, IsLinkTextRefusal, IsNoLinkRefusal}
use Rattle.qrcode_c.specs.Written.{text_refusal, checked_refusal, IsWrittenRefusal, IsTableRefusal}
use Rattle.qrcode_c.specs.declared.options.Options.{Options}
use Rattle.qrcode_c.specs.declared.refusal.Refusal.{Refusal}
use Rattle.qrcode_c.specs.declared.refusal.Refusal.TheVariants as call
use Rattle.qrcode_c.proofs.CoreErrors.{asked_for}
use Rattle.qrcode_c.proofs.LinkMemory.{no_memory, text_other}

-- ---- What no fault is

-- An error of the options, of UTF-8 or of a buffer.
abbrev is_early : Refusal → Bool
is_early (call.InvalidLevel) = true
is_early (call.InvalidVersions) = true
is_early (call.InvalidText) = true
is_early (call.ShortBuffer) = true
is_early other = false

-- The same, or of data that are too long.
abbrev is_other : Refusal → Bool
is_other (call.DataTooLong) = true
is_other other = is_early other

abbrev is_memory : Refusal → Bool
is_memory (call.OutOfMemory) = true
is_memory other = false

short_kept : (test : Refusal → Bool) (b : Bool) → test (call.EmptyValue) ≡ false → test (call.WrongLength) ≡ false →
    test (if b then call.EmptyValue else call.WrongLength) ≡ false
short_kept test true empty short = empty
short_kept test false empty short = short

value_other : (place : ℕ) (why : Reason) → is_other (value_refusal place why) ≡ false
value_other place (reason.TooShort) = short_kept is_other (place == 0) refl refl
value_other place (reason.TooLong) = refl
value_other place (reason.WrongCharacter byte) = refl
value_other place (reason.WrongCheckDigit right) = refl
value_other place (reason.WrongCheckPair first second) = refl
value_other place other = refl

value_no_memory : (place : ℕ) (why : Reason) → is_memory (value_refusal place why) ≡ false
value_no_memory place (reason.TooShort) = short_kept is_memory (place == 0) refl refl
value_no_memory place (reason.TooLong) = refl
value_no_memory place (reason.WrongCharacter byte) = refl
value_no_memory place (reason.WrongCheckDigit right) = refl
value_no_memory place (reason.WrongCheckPair first second) = refl
value_no_memory place other = refl

table_other : (error : CheckError) → is_other (table_refusal error) ≡ false
table_other (table.NoElements) = refl
table_other (table.InvalidIdentifier element) = refl
table_other (table.UnknownIdentifier element identifier) = refl
table_other (table.WrongValue element identifier place why) = value_other place why
table_other (table.OutOfMemory) = refl

reader_other : (error : Gs1Error) → is_other (refusal_for error) ≡ false
reader_other (fault.NoElements) = refl
reader_other (fault.InvalidIdentifier element) = refl
reader_other (fault.UnknownIdentifier element) = refl
reader_other (fault.EmptyValue element) = refl
reader_other (fault.ValueTooLong element) = refl
reader_other (fault.InvalidCharacter element position byte) = refl
reader_other (fault.WrongLength element) = refl
reader_other (fault.WrongCheckDigit element) = refl
reader_other (fault.OutOfMemory) = refl

early_of : (refusal : Refusal) → is_other refusal ≡ false → is_early refusal ≡ false
early_of (call.DataTooLong) other = refl
early_of refusal other = other

together_early : (error : TogetherError) → is_early (together_refusal error) ≡ false
together_early (together.TextTooLong) = refl
together_early (together.MissingElement element identifier) = refl
together_early (together.ConflictingElement element identifier other) = refl

link_early : (error : LinkError) → is_early (link_refusal error) ≡ false
link_early (link.TextTooLong) = refl
link_early (link.Elements error) = early_of (table_refusal error) (table_other error)
link_early (link.WrongDomain) = refl
link_early (link.NoKey) = refl
link_early (link.SecondKey element) = refl
link_early (link.WrongQualifier element identifier) = refl
link_early (link.RepeatedElement element identifier) = refl
link_early (link.Together error) = together_early error
link_early (link.OutOfMemory) = refl

mapped : {X : Type 0} (f : X → Refusal) (test : Refusal → Bool) (x : Option X) (refusal : Refusal) →
    ((e : X) → test (f e) ≡ false) → option_map f x ≡ Some refusal → test refusal ≡ false
mapped f test None refusal all is = let h : None ≡ Some refusal = is in cc
mapped f test (Some e) refusal all is =
    let h : Some (f e) ≡ Some refusal = is in let same : f e ≡ refusal = cc in subst (λ r. test r ≡ false) same (all e)

-- A fault of two is one of them.
one_of : {X : Type 0} (a b : Option Refusal) (refusal : Refusal) → (a ≡ Some refusal → X) → (b ≡ Some refusal → X) →
    option_or a b ≡ Some refusal → X
one_of None b refusal first second is = second is
one_of (Some x) b refusal first second is = first is

table_early : (error : CheckError) → is_early (table_refusal error) ≡ false
table_early error = early_of (table_refusal error) (table_other error)

reader_early : (error : Gs1Error) → is_early (refusal_for error) ≡ false
reader_early error = early_of (refusal_for error) (reader_other error)

written_early : (checked : Bool) (text : List ℕ) (refusal : Refusal) → text_refusal checked text ≡ Some refusal → is_early refusal ≡ false
written_early true text refusal is =
    one_of (option_map table_refusal (text_error text)) (option_map together_refusal (text_conflict text)) refusal
    (mapped table_refusal is_early (text_error text) refusal table_early)
    (mapped together_refusal is_early (text_conflict text) refusal together_early) is
written_early false text refusal is = mapped refusal_for is_early (text_fault text) refusal reader_early is

no_link_early : (text domain : List ℕ) (refusal : Refusal) → link_fault text domain ≡ Some refusal → is_early refusal ≡ false
no_link_early text domain refusal is = mapped link_refusal is_early (link_error text domain) refusal link_early is

never : (b : Bool) → b ≡ true → b ≡ false → ⊥
never b is not_is = let h : true ≡ false = sym is ∙ not_is in cc

-- ---- What an error of the elements is for the call

of_first : (first : Option Refusal) (refusal : Refusal) → is_memory refusal ≡ false → first ≡ Some refusal → IsFaultRefusal first refusal
of_first first (call.OutOfMemory) other is = absurd (never true refl other)
of_first first refusal other is = is

elements_fault : (text domain : List ℕ) (error : CheckError) → link_error text domain ≡ Some (link.Elements error) →
    IsFaultRefusal (link_fault text domain) (table_refusal error)
elements_fault text domain (table.NoElements) refused = ap (option_map link_refusal) refused
elements_fault text domain (table.InvalidIdentifier element) refused = ap (option_map link_refusal) refused
elements_fault text domain (table.UnknownIdentifier element identifier) refused = ap (option_map link_refusal) refused
elements_fault text domain (table.WrongValue element identifier place why) refused =
    of_first _ (value_refusal place why) (value_no_memory place why) (ap (option_map link_refusal) refused)
elements_fault text domain (table.OutOfMemory) refused = absurd (no_memory text domain refused)

together_fault_of : (text domain : List ℕ) (error : TogetherError) → link_error text domain ≡ Some (link.Together error) →
    IsFaultRefusal (link_fault text domain) (together_refusal error)
together_fault_of text domain (together.TextTooLong) refused = ap (option_map link_refusal) refused
together_fault_of text domain (together.MissingElement element identifier) refused = ap (option_map link_refusal) refused
together_fault_of text domain (together.ConflictingElement element identifier other) refused = ap (option_map link_refusal) refused

pub no_link : (text domain : List ℕ) (error : LinkError) → IsRefusedLink text domain error → IsFaultRefusal (link_fault text domain) (link_refusal error)
no_link text domain (link.TextTooLong) refused = ap (option_map link_refusal) refused
no_link text domain (link.Elements error) refused = elements_fault text domain error refused
no_link text domain (link.WrongDomain) refused = ap (option_map link_refusal) refused
no_link text domain (link.NoKey) refused = ap (option_map link_refusal) refused
no_link text domain (link.SecondKey element) refused = ap (option_map link_refusal) refused
no_link text domain (link.WrongQualifier element identifier) refused = ap (option_map link_refusal) refused
no_link text domain (link.RepeatedElement element identifier) refused = ap (option_map link_refusal) refused
no_link text domain (link.Together error) refused = together_fault_of text domain error refused
no_link text domain (link.OutOfMemory) refused = ap (option_map link_refusal) refused

together_no_memory : (error : TogetherError) → is_memory (together_refusal error) ≡ false
together_no_memory (together.TextTooLong) = refl
together_no_memory (together.MissingElement element identifier) = refl
together_no_memory (together.ConflictingElement element identifier other) = refl

table_no_memory : (error : Option CheckError) (refusal : Refusal) → (error ≡ Some (table.OutOfMemory) → ⊥) →
    option_map table_refusal error ≡ Some refusal → is_memory refusal ≡ false
table_no_memory None refusal other is = let h : None ≡ Some refusal = is in cc
table_no_memory (Some error) refusal other is =
    let h : Some (table_refusal error) ≡ Some refusal = is in let same : table_refusal error ≡ refusal = cc in
    subst (λ r. is_memory r ≡ false) same (kept error other)
  where
    kept : (error : CheckError) → (Some error ≡ Some (table.OutOfMemory) → ⊥) → is_memory (table_refusal error) ≡ false
    kept (table.NoElements) other = refl
    kept (table.InvalidIdentifier element) other = refl
    kept (table.UnknownIdentifier element identifier) other = refl
    kept (table.WrongValue element identifier place why) other = value_no_memory place why
    kept (table.OutOfMemory) other = absurd (other refl)

-- The error that tells the first fault of a text that is checked.
pub checked_failed : (text : List ℕ) (refusal : Refusal) → Some refusal ≡ checked_refusal text → IsFaultRefusal (checked_refusal text) refusal
checked_failed text refusal is =
    of_first (checked_refusal text) refusal
    (one_of (option_map table_refusal (text_error text)) (option_map together_refusal (text_conflict text)) refusal
    (table_no_memory (text_error text) refusal (text_other text))
    (mapped together_refusal is_memory (text_conflict text) refusal together_no_memory) (sym is)) (sym is)

pub table_failed : (text : List ℕ) (refusal : Refusal) → Some refusal ≡ checked_refusal text → IsTableRefusal text refusal
table_failed text (call.InvalidText) is = absurd (never true refl (written_early true text _ (sym is)))
table_failed text refusal is = sym is

-- The error of a call that tells the first fault, behind the options.
pub written_failed : (checked : Bool) (text : List ℕ) (asked : Options) (options : SymbolOptions) (room : ℕ) (refusal : Refusal) →
    Means asked options → HasVersions options → IsFaultRefusal (text_refusal checked text) refusal → IsWrittenRefusal checked text asked room refusal
written_failed checked text asked options room (call.InvalidLevel) means versions failed = absurd (never true refl (written_early checked text _ failed))
written_failed checked text asked options room (call.InvalidVersions) means versions failed = absurd (never true refl (written_early checked text _ failed))
written_failed checked text asked options room (call.InvalidText) means versions failed = absurd (never true refl (written_early checked text _ failed))
written_failed checked text asked options room (call.ShortBuffer) means versions failed = absurd (never true refl (written_early checked text _ failed))
written_failed checked text asked options room (call.DataTooLong) means versions failed = inl (asked_for asked options _ means versions failed)
written_failed checked text asked options room refusal means versions failed = asked_for asked options _ means versions failed

pub linked_failed : (text domain : List ℕ) (asked : Options) (options : SymbolOptions) (room : ℕ) (refusal : Refusal) →
    Means asked options → HasVersions options → IsFaultRefusal (link_fault text domain) refusal → IsLinkedRefusal text domain asked room refusal
linked_failed text domain asked options room (call.InvalidLevel) means versions failed = absurd (never true refl (no_link_early text domain _ failed))
linked_failed text domain asked options room (call.InvalidVersions) means versions failed = absurd (never true refl (no_link_early text domain _ failed))
linked_failed text domain asked options room (call.InvalidText) means versions failed = absurd (never true refl (no_link_early text domain _ failed))
linked_failed text domain asked options room (call.ShortBuffer) means versions failed = absurd (never true refl (no_link_early text domain _ failed))
linked_failed text domain asked options room (call.DataTooLong) means versions failed = inl (asked_for asked options _ means versions failed)
linked_failed text domain asked options room refusal means versions failed = asked_for asked options _ means versions failed

pub link_text_failed : (text domain : List ℕ) (room count : ℕ) (refusal : Refusal) → IsFaultRefusal (link_fault text domain) refusal →
    IsLinkTextRefusal text domain room count refusal
link_text_failed text domain room count (call.InvalidText) failed = absurd (never true refl (no_link_early text domain _ failed))
link_text_failed text domain room count (call.ShortBuffer) failed = absurd (never true refl (no_link_early text domain _ failed))
link_text_failed text domain room count refusal failed = failed

pub no_link_failed : (text domain : List ℕ) (refusal : Refusal) → IsFaultRefusal (link_fault text domain) refusal → IsNoLinkRefusal text domain refusal
no_link_failed text domain (call.InvalidText) failed = absurd (never true refl (no_link_early text domain _ failed))
no_link_failed text domain refusal failed = failed

-- The link of a text and a domain, which have no fault.
abbrev pub HasLinkText : List ℕ → List ℕ → List ℕ → Type 0
HasLinkText text domain link =
    (link_error text domain ≡ None) × (link ≡ link_of domain (written_elements text)) × ReadsLink link (linked (written_elements text))

has_link : (text domain link : List ℕ) (fact : List ℕ → Type 0) → HasLinkText text domain link → fact link → HasLink text domain fact
has_link text domain link fact has holds = record {
  link = link;
  faultless = ap (option_map link_refusal) has.0;
  link_is = has.1;
  reads = has.2;
  true_of = holds;
}

-- ---- Where the fault is

none_is_some : {X : Type 0} {Z : Type 0} (x : Option X) (found : X) → x ≡ None → x ≡ Some found → Z
none_is_some x found none some = let h : None ≡ Some found = sym none ∙ some in cc

same_link_place : (first : Option LinkError) (error found : LinkError) → first ≡ Some error → first ≡ Some found →
    link_place_of error ≡ link_place_of found
same_link_place first error found is some = let same : error ≡ found = cc in ap link_place_of same

pub link_place : (text domain : List ℕ) (error found : LinkError) → IsRefusedLink text domain error → link_error text domain ≡ Some found →
    link_place_of error ≡ link_place_of found
link_place text domain (link.OutOfMemory) found refused is = none_is_some (link_error text domain) found refused is
link_place text domain (link.TextTooLong) found refused is = same_link_place (link_error text domain) _ found refused is
link_place text domain (link.Elements error) found refused is = same_link_place (link_error text domain) _ found refused is
link_place text domain (link.WrongDomain) found refused is = same_link_place (link_error text domain) _ found refused is
link_place text domain (link.NoKey) found refused is = same_link_place (link_error text domain) _ found refused is
link_place text domain (link.SecondKey element) found refused is = same_link_place (link_error text domain) _ found refused is
link_place text domain (link.WrongQualifier element identifier) found refused is = same_link_place (link_error text domain) _ found refused is
link_place text domain (link.RepeatedElement element identifier) found refused is = same_link_place (link_error text domain) _ found refused is
link_place text domain (link.Together error) found refused is = same_link_place (link_error text domain) _ found refused is

-- ---- A link in a buffer

pub link_held : (result : Result (Unit {0}) Refusal) (text domain before after link lent : List ℕ) (count : ℕ) → HasLinkText text domain link →
    count ≡ length link → lent ≡ link → OnOk result (after ≡ lent ++ drop (length lent) before) → OnOk result (HoldsLink text domain before after count)
link_held (Ok done) text domain before after link lent count has counted same written =
    has_link text domain link _ has (counted, written ∙ ap (λ (l : List ℕ). l ++ drop (length l) before) same)
link_held (Err e) text domain before after link lent count has counted same written = tt

pub link_refused : (result : Result (Unit {0}) Refusal) (text domain before link lent : List ℕ) (count : ℕ) → HasLinkText text domain link →
    count ≡ length link → lent ≡ link → IfErr result (λ e. e ≡ call.ShortBuffer) → OnErr result (length before < length lent) →
    IfErr result (IsLinkTextRefusal text domain (length before) count)
link_refused (Ok done) text domain before link lent count has counted same short room = tt
link_refused (Err e) text domain before link lent count has counted same short room =
    subst (λ (x : Refusal). IsLinkTextRefusal text domain (length before) count x) (sym short)
    (has_link text domain link _ has (counted, subst (λ (l : List ℕ). length before < length l) same room))
