-- The text below a symbol of elements.
use Rattle.std.proofs.Common.{◌≡◌, ◌⊎◌, ℕ, ◌≤◌, Bool, true, false, List, [], ◌∷◌, ◌++◌, length, refl, sym, subst, inl, inr, ◌∙◌, ap, append-nil, flat_map}
use Rattle.std.proofs.lemmas.Grind.{flat_map-append}
use Rattle.std.specs.Prelude.{Result, Ok, Err, OnOk}
use Rattle.std.specs.Str.{IsUtf8}
use Rattle.gs1.specs.Checked.{AreAllowedElements}
use Rattle.gs1.specs.Elements.{Element, bracketed}
use Rattle.gs1.specs.Read.{WritesFirst}
use Rattle.gs1.specs.Reader.{FindsOnly}
use Rattle.gs1.specs.Strings.{AreFaultless}
use Rattle.gs1.proofs.Allowed.{all_readable as allowed_readable}
use Rattle.gs1.proofs.Faults.{all_readable as faultless_readable}
use Rattle.gs1.proofs.Ascii.{bracketed_utf8}
use Rattle.gs1.proofs.Scans.{writes_all}
use Rattle.qrcode_core.specs.declared.options.SymbolOptions.{SymbolOptions}
use Rattle.qrcode_core.specs.declared.types.Color.{Color}
use Rattle.label_words.specs.Choices.{is_link, has_elements}
use Rattle.label_words.specs.declared.command.Content.{Content}
use Rattle.label_words.specs.declared.command.Content.TheVariants.{Auto, Text, Bytes, BytesWithoutKanji, Gs1, UncheckedGs1, Link, Micro}
use Rattle.label_words.specs.declared.command.Content.TheVariants.{MicroBytes}
use Rattle.single_label.specs.Captions.{after_newline}
use Rattle.single_label.specs.{Captions.IsSoundText, Captions.IsContentOf, Captions.is_written, Contents.IsSymbolAs, Contents.is_bracketed}
use Rattle.single_label.specs.Contents.{IsNoUtf8}
use Rattle.programs.specs.declared.Fault.TheVariants.{Symbol}
use Rattle.qrcode_core.specs.declared.types.errors.QrError.{QrError}
use Rattle.qrcode_core.specs.declared.types.errors.QrError.TheVariants.{DataTooLong, InvalidVersion, UnsupportedCharacterSet}
use Rattle.qrcode_core.specs.declared.types.errors.QrError.TheVariants.{InvalidEciDesignator, InvalidCharacter, InvalidStructuredAppend}
use Rattle.qrcode_core.specs.declared.types.errors.QrError.TheVariants.{InvalidResourceLimits, RenderSizeExceeded, EncodingTimeout}
use Rattle.qrcode_core.specs.declared.types.errors.QrError.TheVariants.{InvalidDataLength, OutOfMemory}
use Rattle.single_label.specs.declared.stop.Stop.TheVariants.{Fault}
use Rattle.single_label.specs.Details.{IsDetailsStopOf}
use Rattle.single_label.specs.declared.stop.Stop.{Stop}

-- The elements of a sound string, their text, and that this is UTF-8.
pub record IsReadText (bytes text : List ℕ) : Type 0 where
  pub elements : List Element
  pub found : FindsOnly bytes elements
  pub text_is : text ≡ bracketed elements
  pub utf8 : IsUtf8 text

pub sound_text : (bytes text : List ℕ) → AreAllowedElements bytes ⊎ AreFaultless bytes → WritesFirst bytes text → IsReadText bytes text
sound_text bytes text (inl allowed) writes =
    let is = writes_all bytes text allowed.elements allowed.found.found writes in
    record {
      elements = allowed.elements;
      found = allowed.found;
      text_is = is;
      utf8 = subst IsUtf8 (sym is) (bracketed_utf8 allowed.elements (allowed_readable 0 allowed.elements allowed.allowed));
    }
sound_text bytes text (inr sound) writes =
    let is = writes_all bytes text sound.elements sound.found.found writes in
    record {
      elements = sound.elements;
      found = sound.found;
      text_is = is;
      utf8 = subst IsUtf8 (sym is) (bracketed_utf8 sound.elements (faultless_readable 0 sound.elements sound.faultless));
    }

not_both : (b : Bool) → b ≡ true → b ≡ false → ⊥
not_both true e h = let k : true ≡ false = h in cc
not_both false e h = let k : false ≡ true = e in cc

-- A text of which there is a symbol is sound.
symbol_text_sound : (content : Content) (options : SymbolOptions) (text : List ℕ) (grid : List Color) → is_link content ≡ false →
    IsSymbolAs content options text grid → IsSoundText content text
symbol_text_sound Auto options text grid none is = tt
symbol_text_sound Text options text grid none is = tt
symbol_text_sound Bytes options text grid none is = tt
symbol_text_sound BytesWithoutKanji options text grid none is = tt
symbol_text_sound Gs1 options text grid none (inl h, together) = λ plain. absurd (not_both (is_bracketed text) h.0 plain)
symbol_text_sound Gs1 options text grid none (inr h, together) = λ plain. h.1.sound
symbol_text_sound UncheckedGs1 options text grid none (inl h) = λ plain. absurd (not_both (is_bracketed text) h.0 plain)
symbol_text_sound UncheckedGs1 options text grid none (inr h) = λ plain. h.1.sound
symbol_text_sound Link options text grid none is = absurd (not_both true refl none)
symbol_text_sound Micro options text grid none is = tt
symbol_text_sound MicroBytes options text grid none is = tt

link_sound : (content : Content) (text : List ℕ) → is_link content ≡ true → IsUtf8 text → IsSoundText content text
link_sound Link text is utf8 = utf8
link_sound Auto text is utf8 = absurd (not_both true refl (sym is))
link_sound Text text is utf8 = absurd (not_both true refl (sym is))
link_sound Bytes text is utf8 = absurd (not_both true refl (sym is))
link_sound BytesWithoutKanji text is utf8 = absurd (not_both true refl (sym is))
link_sound Gs1 text is utf8 = absurd (not_both true refl (sym is))
link_sound UncheckedGs1 text is utf8 = absurd (not_both true refl (sym is))
link_sound Micro text is utf8 = absurd (not_both true refl (sym is))
link_sound MicroBytes text is utf8 = absurd (not_both true refl (sym is))

pub content_sound : (content : Content) (options : SymbolOptions) (text said : List ℕ) (grid : List Color) →
    IsContentOf content text said → IsSymbolAs content options said grid → IsSoundText content text
content_sound content options text said grid (inl same) is =
    symbol_text_sound content options text grid same.0 (subst (λ s. IsSymbolAs content options s grid) same.1 is)
content_sound content options text said grid (inr link) is = link_sound content text link.0 link.1

-- Why a link has no text below it is why it has no details.
link_stop : (content : Content) (text said : List ℕ) (stop : Stop) → is_link content ≡ true → IsDetailsStopOf content text stop →
    IsDetailsStopOf content said stop
link_stop content text said stop is (inl memory) = inl memory
link_stop Link text said stop is (inr none) = absurd none
link_stop Auto text said stop is (inr none) = absurd none
link_stop Text text said stop is (inr none) = absurd none
link_stop Bytes text said stop is (inr none) = absurd none
link_stop BytesWithoutKanji text said stop is (inr none) = absurd none
link_stop Gs1 text said stop is (inr none) = absurd (not_both true refl (sym is))
link_stop UncheckedGs1 text said stop is (inr none) = absurd (not_both true refl (sym is))
link_stop Micro text said stop is (inr none) = absurd none
link_stop MicroBytes text said stop is (inr none) = absurd none

pub content_stop_of : (content : Content) (text said : List ℕ) (stop : Stop) → IsContentOf content text said →
    IsDetailsStopOf content text stop → IsDetailsStopOf content said stop
content_stop_of content text said stop (inl same) h = subst (λ s. IsDetailsStopOf content s stop) (sym same.1) h
content_stop_of content text said stop (inr link) h = link_stop content text said stop link.0 h

-- ---- The text of elements

-- An element string of elements is sound.
pub string_sound : (content : Content) (text : List ℕ) → has_elements content ≡ true → is_written content text ≡ false →
    IsSoundText content text → AreAllowedElements text ⊎ AreFaultless text
string_sound Gs1 text some plain sound = inl (sound plain)
string_sound UncheckedGs1 text some plain sound = inr (sound plain)
string_sound Link text some plain sound = absurd (not_both true refl plain)
string_sound Auto text some plain sound = absurd (not_both true refl (sym some))
string_sound Text text some plain sound = absurd (not_both true refl (sym some))
string_sound Bytes text some plain sound = absurd (not_both true refl (sym some))
string_sound BytesWithoutKanji text some plain sound = absurd (not_both true refl (sym some))
string_sound Micro text some plain sound = absurd (not_both true refl (sym some))
string_sound MicroBytes text some plain sound = absurd (not_both true refl (sym some))

really_no_utf8 : (bytes : List ℕ) (e : QrError) → IsNoUtf8 bytes e → IsUtf8 bytes → ⊥
really_no_utf8 bytes (InvalidCharacter position byte) h utf8 = h.0 utf8
really_no_utf8 bytes DataTooLong h utf8 = h
really_no_utf8 bytes (InvalidVersion version level) h utf8 = h
really_no_utf8 bytes UnsupportedCharacterSet h utf8 = h
really_no_utf8 bytes (InvalidEciDesignator value) h utf8 = h
really_no_utf8 bytes (InvalidStructuredAppend value) h utf8 = h
really_no_utf8 bytes InvalidResourceLimits h utf8 = h
really_no_utf8 bytes (RenderSizeExceeded w h mw mh) is utf8 = is
really_no_utf8 bytes EncodingTimeout h utf8 = h
really_no_utf8 bytes (InvalidDataLength expected actual) h utf8 = h
really_no_utf8 bytes OutOfMemory h utf8 = h

-- Bytes in brackets that are no text have no details.
pub not_utf8 : (content : Content) (text : List ℕ) (e : QrError) → has_elements content ≡ true → is_written content text ≡ true →
    IsSoundText content text → IsNoUtf8 text e → IsDetailsStopOf content text (Fault (Symbol e))
not_utf8 Gs1 text e some written sound = λ wrong. inr (written, wrong)
not_utf8 UncheckedGs1 text e some written sound = λ wrong. inr (written, wrong)
not_utf8 Link text e some written sound = λ wrong. absurd (really_no_utf8 text e wrong sound)
not_utf8 Auto text e some written sound = λ wrong. absurd (not_both true refl (sym some))
not_utf8 Text text e some written sound = λ wrong. absurd (not_both true refl (sym some))
not_utf8 Bytes text e some written sound = λ wrong. absurd (not_both true refl (sym some))
not_utf8 BytesWithoutKanji text e some written sound = λ wrong. absurd (not_both true refl (sym some))
not_utf8 Micro text e some written sound = λ wrong. absurd (not_both true refl (sym some))
not_utf8 MicroBytes text e some written sound = λ wrong. absurd (not_both true refl (sym some))

pub on_ok : {A E : Type 0} (P Q : Type 0) (r : Result A E) → (P → Q) → OnOk r P → OnOk r Q
on_ok P Q (Ok a) more h = more h
on_ok P Q (Err e) more h = tt

-- one character more of a text of elements
pub characters_more : (cs : List ℕ) (c : ℕ) → flat_map after_newline (cs ++ c ∷ []) ≡ flat_map after_newline cs ++ after_newline c
characters_more cs c =
    flat_map-append after_newline cs (c ∷ []) ∙ ap (λ l. flat_map after_newline cs ++ l) (append-nil (after_newline c))
