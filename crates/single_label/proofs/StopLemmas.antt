-- Why there is no label.
use Rattle.std.proofs.Common.{◌≡◌, ◌≢◌, ◌⊎◌, ◌<◌, ◌≤◌, ℕ, Bool, Option, None, Some, List, [], length, inl, inr, true, false, refl, arith}
use Rattle.std.specs.Prelude.{Result, Ok, Err, IfOk, IfErr, OnOk}
use Rattle.programs.specs.declared.Fault.{Fault as FaultOf}
use Rattle.programs.specs.declared.Fault.TheVariants.{Symbol, Read, Write}
use Rattle.qrcode_core.specs.declared.options.SymbolOptions.{SymbolOptions}
use Rattle.qrcode_base.specs.declared.symbols.TheConstants.{LONGEST_DATA}
use Rattle.qrcode_core.specs.declared.types.Color.{Color}
use Rattle.qrcode_core.specs.declared.types.errors.QrError.{QrError}
use Rattle.qrcode_core.specs.declared.types.errors.QrError.TheVariants.{OutOfMemory, DataTooLong, InvalidVersion}
use Rattle.qrcode_core.specs.declared.types.errors.QrError.TheVariants.{UnsupportedCharacterSet, InvalidEciDesignator}
use Rattle.qrcode_core.specs.declared.types.errors.QrError.TheVariants.{InvalidCharacter, InvalidStructuredAppend}
use Rattle.qrcode_core.specs.declared.types.errors.QrError.TheVariants.{InvalidResourceLimits, RenderSizeExceeded}
use Rattle.qrcode_core.specs.declared.types.errors.QrError.TheVariants.{EncodingTimeout, InvalidDataLength}
use Rattle.label_words.specs.declared.command.Content.{Content}
use Rattle.label_words.specs.declared.command.Content.TheVariants.{Auto, Text, Bytes, BytesWithoutKanji, Gs1, UncheckedGs1, Link, Micro, MicroBytes}
use Rattle.label_words.specs.declared.command.Label.{Label}
use Rattle.single_label.specs.declared.stop.{Stop.Stop, Stop.TheVariants.Fault, Stop.TheVariants.Elements, Stop.TheVariants.NotAllowed, Stop.TheVariants.NoLink, Stop.TheVariants.Empty}
use Rattle.single_label.specs.declared.stop.{Stop.TheVariants.NoMicroText, Stop.TheVariants.TooLong, Stop.TheVariants.TooManyParts, Stop.TheVariants.TooManyPages}
use Rattle.single_label.specs.declared.stop.TooLong.{TooLong as TooLongOf}
use Rattle.single_label.specs.{Contents.IsStopAs, Contents.IsSymbolAs, Contents.IsNoUtf8, Contents.is_bracketed, Contents.AreNotWritten, Contents.IsLink, Contents.IsLinkStop}
use Rattle.single_label.specs.{Labels.IsLabelStop, Labels.IsLabelData, Labels.IsContentStop, Labels.IsTextStop, Contents.is_too_long, Contents.most_bytes, Labels.details_label}
use Rattle.single_label.specs.{Parts.IsMessageStop, Parts.IsOtherStop, Rooms.IsTooLongAs, Rooms.IsTooLongForAny}
use Rattle.label_words.specs.Choices.{gs1_content, is_link}
use Rattle.single_label.specs.{Details.IsDetailsStop, Details.HasNoData, Labels.IsSaid}

-- more bytes than a symbol holds
pub many_bytes : (content : Content) (options : SymbolOptions) (bytes : List ℕ) → content ≢ Auto → LONGEST_DATA < length bytes →
    IsStopAs content options bytes (Fault (Symbol DataTooLong))
many_bytes Auto options bytes other many = absurd (other refl)
many_bytes Text options bytes other many = inl (many, refl)
many_bytes Bytes options bytes other many = inl (many, refl)
many_bytes BytesWithoutKanji options bytes other many = inl (many, refl)
many_bytes Gs1 options bytes other many = inl (many, refl)
many_bytes UncheckedGs1 options bytes other many = inl (many, refl)
many_bytes Link options bytes other many = inl (many, refl)
many_bytes Micro options bytes other many = inl (many, refl)
many_bytes MicroBytes options bytes other many = inl (many, refl)

pub neither : (content : Content) (options : SymbolOptions) (bytes : List ℕ) (fault : FaultOf) → (fault ≡ Read) ⊎ (fault ≡ Write) →
    IsStopAs content options bytes (Fault fault) → ⊥
neither Auto options bytes fault is h = grind (arith, is, h)
neither Text options bytes fault is h = grind (arith, is, h)
neither Bytes options bytes fault is h = grind (arith, is, h)
neither BytesWithoutKanji options bytes fault is h = grind (arith, is, h)
neither Gs1 options bytes fault is h = grind (arith, is, h)
neither UncheckedGs1 options bytes fault is h = grind (arith, is, h)
neither Link options bytes fault is h = grind (arith, is, h)
neither Micro options bytes fault is h = grind (arith, is, h)
neither MicroBytes options bytes fault is h = grind (arith, is, h)

link_no_device : (domain text : List ℕ) (fault : FaultOf) → (fault ≡ Read) ⊎ (fault ≡ Write) → IsLinkStop domain text (Fault fault) → ⊥
link_no_device domain text fault is h = grind (arith, is, h)

content_no_device : (label : Label) (content : List ℕ) (fault : FaultOf) → (fault ≡ Read) ⊎ (fault ≡ Write) → IsContentStop label content (Fault fault) → ⊥
content_no_device label content fault is h = grind (arith, is, h, neither label.content label.symbol content fault is)

text_no_device : (label : Label) (text : List ℕ) (fault : FaultOf) → (fault ≡ Read) ⊎ (fault ≡ Write) → IsTextStop label text (Fault fault) → ⊥
text_no_device label text fault is (inl h) = grind (arith, h.0)
text_no_device label text fault is (inr (some, inl h)) = link_no_device label.domain.now text fault is h.1
text_no_device label text fault is (inr (some, inr (content, said, h))) = content_no_device label content fault is h

pub no_device : (label : Label) (bytes : List ℕ) (fault : FaultOf) → (fault ≡ Read) ⊎ (fault ≡ Write) → IsLabelStop label bytes (Fault fault) → ⊥
no_device label bytes fault is (inl h) = grind (arith, is, h.stop_is)
no_device label bytes fault is (inr h) = text_no_device label h.text fault is h.stopped

-- nor that a document has no room
no_page_of : (content : Content) (options : SymbolOptions) (bytes : List ℕ) → IsStopAs content options bytes TooManyPages → ⊥
no_page_of Auto options bytes h = grind (arith, h)
no_page_of Text options bytes h = grind (arith, h)
no_page_of Bytes options bytes h = grind (arith, h)
no_page_of BytesWithoutKanji options bytes h = grind (arith, h)
no_page_of Gs1 options bytes h = grind (arith, h)
no_page_of UncheckedGs1 options bytes h = grind (arith, h)
no_page_of Link options bytes h = grind (arith, h)
no_page_of Micro options bytes h = grind (arith, h)
no_page_of MicroBytes options bytes h = grind (arith, h)

content_no_page : (label : Label) (content : List ℕ) → IsContentStop label content TooManyPages → ⊥
content_no_page label content h = grind (arith, h, no_page_of label.content label.symbol content)

text_no_page : (label : Label) (text : List ℕ) → IsTextStop label text TooManyPages → ⊥
text_no_page label text (inl h) = grind (arith, h.0)
text_no_page label text (inr (some, inl h)) = grind (arith, h.1)
text_no_page label text (inr (some, inr (content, said, h))) = content_no_page label content h

pub no_page : (label : Label) (bytes : List ℕ) → IsLabelStop label bytes TooManyPages → ⊥
no_page label bytes (inl h) = grind (arith, h.stop_is)
no_page label bytes (inr h) = text_no_page label h.text h.stopped

-- ---- There are no details of a content

-- an error of bytes that are no text is not their length
no_utf8_short : (bytes : List ℕ) (e : QrError) → IsNoUtf8 bytes e → is_too_long (Fault (Symbol e)) ≡ false
no_utf8_short bytes (InvalidCharacter position byte) h = refl
no_utf8_short bytes DataTooLong h = absurd h
no_utf8_short bytes (InvalidVersion version level) h = absurd h
no_utf8_short bytes UnsupportedCharacterSet h = absurd h
no_utf8_short bytes (InvalidEciDesignator value) h = absurd h
no_utf8_short bytes (InvalidStructuredAppend value) h = absurd h
no_utf8_short bytes InvalidResourceLimits h = absurd h
no_utf8_short bytes (RenderSizeExceeded w h mw mh) is = absurd is
no_utf8_short bytes EncodingTimeout h = absurd h
no_utf8_short bytes (InvalidDataLength expected actual) h = absurd h
no_utf8_short bytes OutOfMemory h = absurd h

-- no content has this reason and a symbol
abbrev pub IsReason : Content → SymbolOptions → List ℕ → Stop → Type 0
IsReason content options bytes stop =
    (is_too_long stop ≡ false) × IsStopAs content options bytes stop × (stop ≢ Empty) × ((t : TooLongOf) → stop ≢ TooLong t)

not_written : (checks : Bool) (options : SymbolOptions) (bytes : List ℕ) (stop : Stop) → length bytes ≤ LONGEST_DATA → is_bracketed bytes ≡ true →
    AreNotWritten checks bytes stop → IsReason (gs1_content checks) options bytes stop
not_written true options bytes (NotAllowed error) short bracketed h =
    (refl, inr (short, inl (inl (bracketed, inl h))), (λ e. grind (arith, e)), (λ t e. grind (arith, e)))
not_written false options bytes (Elements at) short bracketed h =
    (refl, inr (short, inl (bracketed, inl h)), (λ e. grind (arith, e)), (λ t e. grind (arith, e)))
not_written true options bytes (Fault (Symbol e)) short bracketed h =
    (no_utf8_short bytes e h, inr (short, inl (inl (bracketed, inl h))), (λ e. grind (arith, e)), (λ t e. grind (arith, e)))
not_written false options bytes (Fault (Symbol e)) short bracketed h =
    (no_utf8_short bytes e h, inr (short, inl (bracketed, inl h)), (λ e. grind (arith, e)), (λ t e. grind (arith, e)))
not_written true options bytes (Elements at) short bracketed h = absurd h
not_written true options bytes (NoLink error) short bracketed h = absurd h
not_written false options bytes (NotAllowed error) short bracketed h = absurd h
not_written false options bytes (NoLink error) short bracketed h = absurd h
not_written true options bytes (Fault Read) short bracketed h = absurd h
not_written false options bytes (Fault Read) short bracketed h = absurd h
not_written true options bytes (Fault Write) short bracketed h = absurd h
not_written false options bytes (Fault Write) short bracketed h = absurd h
not_written true options bytes Empty short bracketed h = absurd h
not_written false options bytes Empty short bracketed h = absurd h
not_written true options bytes NoMicroText short bracketed h = absurd h
not_written false options bytes NoMicroText short bracketed h = absurd h
not_written true options bytes (TooLong t) short bracketed h = absurd h
not_written false options bytes (TooLong t) short bracketed h = absurd h
not_written true options bytes TooManyParts short bracketed h = absurd h
not_written true options bytes TooManyPages short bracketed h = absurd h
not_written false options bytes TooManyParts short bracketed h = absurd h
not_written false options bytes TooManyPages short bracketed h = absurd h

has_no_data : (content : Content) (options : SymbolOptions) (bytes : List ℕ) (stop : Stop) → length bytes ≤ most_bytes content → HasNoData content bytes stop →
    IsReason content options bytes stop
has_no_data Gs1 options bytes stop short h = not_written true options bytes stop short h.0 h.1
has_no_data UncheckedGs1 options bytes stop short h = not_written false options bytes stop short h.0 h.1
has_no_data Link options bytes stop short h = absurd h
has_no_data Auto options bytes stop short h = absurd h
has_no_data Text options bytes stop short h = absurd h
has_no_data Bytes options bytes stop short h = absurd h
has_no_data BytesWithoutKanji options bytes stop short h = absurd h
has_no_data Micro options bytes stop short h = absurd h
has_no_data MicroBytes options bytes stop short h = absurd h

content_stop : (label : Label) (content : List ℕ) (stop : Stop) → IsLabelData label content → (is_too_long stop ≡ false) →
    IsStopAs label.content label.symbol content stop → (stop ≢ Empty) → ((t : TooLongOf) → stop ≢ TooLong t) → IsContentStop label content stop
content_stop label content (Fault fault) some short is not_empty not_long = (some, short, inr is)
content_stop label content (Elements at) some short is not_empty not_long = (some, short, inr is)
content_stop label content (NotAllowed error) some short is not_empty not_long = (some, short, inr is)
content_stop label content (NoLink error) some short is not_empty not_long = (some, short, inr is)
content_stop label content NoMicroText some short is not_empty not_long = (some, short, inr is)
content_stop label content TooManyParts some short is not_empty not_long = (some, short, inr is)
content_stop label content TooManyPages some short is not_empty not_long = (some, short, inr is)
content_stop label content Empty some short is not_empty not_long = absurd (not_empty refl)
content_stop label content (TooLong t) some short is not_empty not_long = absurd (not_long t refl)

pub no_details : (label : Label) (content : List ℕ) (stop : Stop) (grid : List Color) → length content ≤ most_bytes label.content → IsLabelData label content →
    IsSymbolAs label.content label.symbol content grid → IsDetailsStop label (Some content) stop → IsContentStop label content stop
no_details label content stop grid short some is (inl h) = rw h (some, refl, inl (refl, (grid, is)))
no_details label content stop grid short some is (inr h) =
    let reason = has_no_data label.content label.symbol content stop short h in
    content_stop label content stop some reason.0 reason.1 reason.2 reason.3

-- the same of a message
pub message_no_details : (label : Label) (content : List ℕ) (stop : Stop) (grid : List Color) → length content ≤ most_bytes label.content →
    IsSymbolAs label.content label.symbol content grid → IsDetailsStop label (Some content) stop → IsOtherStop label content stop
message_no_details label content stop grid short is (inl h) = rw h (refl, inl (refl, (grid, is)))
message_no_details label content stop grid short is (inr h) =
    let reason = has_no_data label.content label.symbol content stop short h in (reason.0, inr reason.1)

-- ---- Details beside a label

-- why a symbol has no details beside its label is why it has no details
pub beside_stop : (label : Label) (content : Option (List ℕ)) (stop : Stop) → IsDetailsStop (details_label label) content stop → IsDetailsStop label content stop
beside_stop label None stop h = h
beside_stop label (Some content) stop h = h

-- ---- A link

-- why there is no label of the link of the elements that a text writes
abbrev pub IsLinkOrContentStop : Label → List ℕ → Stop → Type 0
IsLinkOrContentStop label text stop =
    IsLinkStop label.domain.now text stop
    ⊎ ((link : List ℕ) × IsLink label.upper label.domain.now text link × (link ≢ []) × IsContentStop label link stop)

pub said_stop : (label : Label) (text : List ℕ) (stop : Stop) → is_link label.content ≡ true → IsLinkOrContentStop label text stop →
    ((is_link label.content ≡ true) × IsLinkStop label.domain.now text stop)
    ⊎ ((content : List ℕ) × IsSaid label text content × IsContentStop label content stop)
said_stop label text stop is (inl h) = inl (is, h)
said_stop label text stop is (inr (link, made, some, h)) = inr (link, inr (is, made), h)

-- ---- Results

pub if_err : {A E : Type 0} (P Q : E → Type 0) (r : Result A E) → ((e : E) → P e → Q e) → IfErr r P → IfErr r Q
if_err P Q (Ok a) more h = tt
if_err P Q (Err e) more h = more e h

pub if_ok : {A E : Type 0} (P Q : A → Type 0) (r : Result A E) → ((a : A) → P a → Q a) → IfOk r P → IfOk r Q
if_ok P Q (Ok a) more h = more a h
if_ok P Q (Err e) more h = tt

pub on_ok : {A E : Type 0} (P Q : Type 0) (r : Result A E) → (P → Q) → OnOk r P → OnOk r Q
on_ok P Q (Ok a) more h = more h
on_ok P Q (Err e) more h = tt

pub too_long_is : (content : Content) (options : SymbolOptions) (bytes : List ℕ) (stop : Stop) → is_too_long stop ≡ true → IsStopAs content options bytes stop →
    IsStopAs content options bytes (Fault (Symbol DataTooLong))
too_long_is content options bytes (Fault (Symbol DataTooLong)) is h = h
too_long_is content options bytes (Fault (Symbol (InvalidVersion version level))) is h = grind (arith, is)
too_long_is content options bytes (Fault (Symbol UnsupportedCharacterSet)) is h = grind (arith, is)
too_long_is content options bytes (Fault (Symbol (InvalidEciDesignator value))) is h = grind (arith, is)
too_long_is content options bytes (Fault (Symbol (InvalidCharacter position byte))) is h = grind (arith, is)
too_long_is content options bytes (Fault (Symbol (InvalidStructuredAppend value))) is h = grind (arith, is)
too_long_is content options bytes (Fault (Symbol InvalidResourceLimits)) is h = grind (arith, is)
too_long_is content options bytes (Fault (Symbol (RenderSizeExceeded w l mw ml))) is h = grind (arith, is)
too_long_is content options bytes (Fault (Symbol EncodingTimeout)) is h = grind (arith, is)
too_long_is content options bytes (Fault (Symbol (InvalidDataLength expected actual))) is h = grind (arith, is)
too_long_is content options bytes (Fault (Symbol OutOfMemory)) is h = grind (arith, is)
too_long_is content options bytes (Fault Read) is h = grind (arith, is)
too_long_is content options bytes (Fault Write) is h = grind (arith, is)
too_long_is content options bytes (Elements at) is h = grind (arith, is)
too_long_is content options bytes (NotAllowed error) is h = grind (arith, is)
too_long_is content options bytes (NoLink error) is h = grind (arith, is)
too_long_is content options bytes Empty is h = grind (arith, is)
too_long_is content options bytes NoMicroText is h = grind (arith, is)
too_long_is content options bytes (TooLong t) is h = grind (arith, is)
too_long_is content options bytes TooManyParts is h = grind (arith, is)
too_long_is content options bytes TooManyPages is h = grind (arith, is)
