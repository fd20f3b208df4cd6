-- Data are read as one text, and each text can be written.
use Rattle.std.proofs.Common.{◌≡◌, ℕ, true, false, List, [], refl, ap, sym, ◌∙◌}
use Rattle.std.specs.Prelude.{Option, None, Some, chars, encode_utf8_all}
use Rattle.std.specs.Str.{is_utf8, all_scalars}
use Rattle.std.proofs.lemmas.Str.{chars-encodes, is_utf8-from_IsUtf8}
use Rattle.std.proofs.lemmas.Bool.{cond-true}
use Rattle.std.proofs.lemmas.List.{append-nil}
use Rattle.character_sets.specs.Reading.{joined, has_kanji, has_no_designator, read_bytes}
use Rattle.character_sets.specs.Reading.{read_parts, read_segment}
use Rattle.character_sets.specs.Reading.{each_of, read_kanji, read_shift_jis}
use Rattle.character_sets.specs.Reading.{DataHaveOneText, EachTextIsRead, ReadsExamples}
use Rattle.character_sets.specs.Bytes.{character_of_byte, part_character}
use Rattle.character_sets.specs.Kanji.{character_of, character_in}
use Rattle.qrcode_base.specs.Characters.{is_alphanumeric, kanji_number}

pub one_text : DataHaveOneText
one_text parts first second h k = let e : Some first ≡ Some second = sym h ∙ k in cc

-- UTF-8 after its designator.
utf8_read : (text : List ℕ) → all_scalars text ≡ true → read_bytes false (Some 26) (encode_utf8_all text) ≡ Some text
unfolding read_bytes
utf8_read text good =
    cond-true (is_utf8 (encode_utf8_all text)) (Some (chars (encode_utf8_all text))) None
    (is_utf8-from_IsUtf8 (encode_utf8_all text) (text, (good, refl)))
    ∙ ap (λ (t : List ℕ). Some t) (chars-encodes text good)

pub each_text : EachTextIsRead
unfolding read_parts has_no_designator has_kanji read_segment
each_text text good =
    ap (λ (t : Option (List ℕ)). joined t (Some [])) (utf8_read text good) ∙ ap (λ (t : List ℕ). Some t) (append-nil text)

no_text : (text : List ℕ) → None ≡ Some text → ⊥
no_text text h = cc

pub examples : ReadsExamples
unfolding read_parts has_no_designator has_kanji read_segment read_bytes read_kanji read_shift_jis each_of character_of character_in is_alphanumeric kanji_number character_of_byte part_character
examples = record {
  plain = refl;
  kanji = refl;
  parts = refl;
  shift_jis = refl;
  no_kanji = no_text;
  no_latin = no_text;
}
