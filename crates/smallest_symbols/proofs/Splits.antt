-- The bytes of a segment that are read as the beginning of its text, and as the end.
use Rattle.std.proofs.Common.{◌≡◌, ℕ, ◌+◌, ◌≤◌, Bool, true, false, ◌==◌, ◌||◌, inl, inr, List, []}
use Rattle.std.proofs.Common.{◌∷◌, ◌++◌, length, length-append, refl, sym, ap, subst, ◌∙◌, arith}
use Rattle.std.specs.Prelude.{Option, None, Some, if◌then◌else◌, chars, encode_utf8_all}
use Rattle.std.specs.Str.{is_utf8, all_scalars}
use Rattle.std.proofs.lemmas.Bool.{and_parts, cond-true, cond-false}
use Rattle.std.proofs.lemmas.Grind.{common_steps}
use Rattle.std.proofs.lemmas.Str.{IsUtf8-from_is_utf8, chars-encodes, encodes-append, encodes-chars}
use Rattle.std.proofs.lemmas.Str.{is_utf8-from_IsUtf8, scalars-chars}
use lib.Utf8.{scalar}
use Rattle.qrcode_base.specs.Characters.{is_lead}
use Rattle.qrcode_base.specs.declared.types.Mode.{Mode}
use Rattle.qrcode_base.specs.declared.types.Mode.TheVariants.{Numeric, Alphanumeric, Byte, Kanji}
use Rattle.character_sets.specs.Bytes.{ascii_character, character_of_byte, common_character}
use Rattle.character_sets.specs.Bytes.{shift_jis_character}
use Rattle.character_sets.specs.Reading.{put, each_of, read_bytes, read_kanji, read_segment}
use Rattle.character_sets.specs.Reading.{read_shift_jis, pair_character, is_shift_jis}
use Rattle.character_sets.specs.Reading.{alphanumeric_character, digit_character}
use Rattle.text_plans.proofs.Appends.{put_both}
use Rattle.text_plans.proofs.Begins.{if_list}
use Rattle.text_plans.proofs.Fronts.{each_front, kanji_front, put_is}
use Rattle.text_plans.proofs.Sizes.{lead_cases}

-- Some bytes, no more than a number, are read as a text.
pub record IsRead (read : List ℕ → Option (List ℕ)) (size : ℕ) (text : List ℕ) : Type 0 where
  pub bytes : List ℕ
  pub reads : read bytes ≡ Some text
  pub fewer : length bytes ≤ size

-- ---- By the first character

-- The bytes of the first character, by what can follow them, and the bytes after them.
record HasFirst (read : List ℕ → Option (List ℕ)) (bytes : List ℕ) (c : ℕ) (cs : List ℕ) : Type 0 where
  first : List ℕ
  rest : List ℕ
  size : length first + length rest ≤ length bytes
  reads : read rest ≡ Some cs
  before : (more text : List ℕ) → read more ≡ Some text → read (first ++ more) ≡ Some (c ∷ text)

-- What is read character by character is read as the beginning of its text and as the end.
split_by : (read : List ℕ → Option (List ℕ)) → read [] ≡ Some [] →
    ((bytes : List ℕ) (c : ℕ) (cs : List ℕ) → read bytes ≡ Some (c ∷ cs) → HasFirst read bytes c cs) →
    (front later bytes : List ℕ) → read bytes ≡ Some (front ++ later) → IsRead read (length bytes) front × IsRead read (length bytes) later
split_by read nothing firsts [] later bytes h = (
  record { bytes = []; reads = nothing; fewer = omega arith },
  record { bytes = bytes; reads = h; fewer = omega arith },
)
split_by read nothing firsts (c ∷ front) later bytes h =
    let w = firsts bytes c (front ++ later) h in
    let p = split_by read nothing firsts front later w.rest w.reads in (
      record {
        bytes = w.first ++ p.0.bytes;
        reads = w.before p.0.bytes front p.0.reads;
        fewer = omega (arith, length-append w.first p.0.bytes, w.size, p.0.fewer);
      },
      record { bytes = p.1.bytes; reads = p.1.reads; fewer = omega (arith, w.size, p.1.fewer) },
    )

-- ---- Bytes of which each is a character

each_first : (f : ℕ → Option ℕ) (bytes : List ℕ) (c : ℕ) (cs : List ℕ) → each_of f bytes ≡ Some (c ∷ cs) → HasFirst (each_of f) bytes c cs
unfolding each_of
each_first f bytes c cs h =
    let w = each_front f bytes c cs h in
    record {
      first = w.0 ∷ [];
      rest = w.1;
      size = omega (arith, ap (λ (x : List ℕ). length x) w.2);
      reads = w.4;
      before = λ more text k. put_both (f w.0) (each_of f more) c text w.3 k;
    }

each_none : (f : ℕ → Option ℕ) → each_of f [] ≡ Some []
unfolding each_of
each_none f = refl

each_split : (f : ℕ → Option ℕ) (front later bytes : List ℕ) → each_of f bytes ≡ Some (front ++ later) →
    IsRead (each_of f) (length bytes) front × IsRead (each_of f) (length bytes) later
each_split f = split_by (each_of f) (each_none f) (each_first f)

-- ---- Pairs of the Kanji mode

kanji_first : (bytes : List ℕ) (c : ℕ) (cs : List ℕ) → read_kanji bytes ≡ Some (c ∷ cs) → HasFirst read_kanji bytes c cs
unfolding read_kanji
kanji_first bytes c cs h =
    let w = kanji_front bytes c cs h in
    record {
      first = w.0 ∷ w.1 ∷ [];
      rest = w.2;
      size = omega (arith, ap (λ (x : List ℕ). length x) w.3);
      reads = w.5;
      before = λ more text k. put_both (pair_character w.0 w.1) (read_kanji more) c text w.4 k;
    }

kanji_none : read_kanji [] ≡ Some []
unfolding read_kanji
kanji_none = refl

kanji_split : (front later bytes : List ℕ) → read_kanji bytes ≡ Some (front ++ later) →
    IsRead read_kanji (length bytes) front × IsRead read_kanji (length bytes) later
kanji_split = split_by read_kanji kanji_none kanji_first

-- ---- Shift JIS

no_lead : (byte c : ℕ) → shift_jis_character byte ≡ Some c → is_lead byte ≡ false
no_lead byte c h = grind (arith, common_steps)

pair_leads : (lead trail c : ℕ) → pair_character lead trail ≡ Some c → is_lead lead ≡ true
pair_leads lead trail c h = grind (arith, common_steps)

single_before : (byte c : ℕ) (more text : List ℕ) → shift_jis_character byte ≡ Some c → read_shift_jis more ≡ Some text →
    read_shift_jis (byte ∷ more) ≡ Some (c ∷ text)
unfolding read_shift_jis
single_before byte c [] text h k = put_both (shift_jis_character byte) (Some []) c text h k
single_before byte c (next ∷ more) text h k =
    cond-false (is_lead byte) (put (pair_character byte next) (read_shift_jis more)) _ (no_lead byte c h)
    ∙ put_both (shift_jis_character byte) (read_shift_jis (next ∷ more)) c text h k

pair_before : (lead trail c : ℕ) (more text : List ℕ) → pair_character lead trail ≡ Some c → read_shift_jis more ≡ Some text →
    read_shift_jis (lead ∷ trail ∷ more) ≡ Some (c ∷ text)
unfolding read_shift_jis
pair_before lead trail c more text h k =
    cond-true (is_lead lead) (put (pair_character lead trail) (read_shift_jis more)) _ (pair_leads lead trail c h)
    ∙ put_both (pair_character lead trail) (read_shift_jis more) c text h k

shift_jis_none : read_shift_jis [] ≡ Some []
unfolding read_shift_jis
shift_jis_none = refl

single_first : (byte c : ℕ) (rest cs : List ℕ) → shift_jis_character byte ≡ Some c → read_shift_jis rest ≡ Some cs →
    HasFirst read_shift_jis (byte ∷ rest) c cs
single_first byte c rest cs h k = record {
  first = byte ∷ [];
  rest = rest;
  size = omega arith;
  reads = k;
  before = λ more text r. single_before byte c more text h r;
}

pair_first : (lead trail c : ℕ) (rest cs : List ℕ) → pair_character lead trail ≡ Some c → read_shift_jis rest ≡ Some cs →
    HasFirst read_shift_jis (lead ∷ trail ∷ rest) c cs
pair_first lead trail c rest cs h k = record {
  first = lead ∷ trail ∷ [];
  rest = rest;
  size = omega arith;
  reads = k;
  before = λ more text r. pair_before lead trail c more text h r;
}

shift_jis_first : (bytes : List ℕ) (c : ℕ) (cs : List ℕ) → read_shift_jis bytes ≡ Some (c ∷ cs) → HasFirst read_shift_jis bytes c cs
unfolding read_shift_jis
shift_jis_first [] c cs h = absurd (let e : Some [] ≡ Some (c ∷ cs) = h in cc)
shift_jis_first (byte ∷ []) c cs h =
    let p = put_is (shift_jis_character byte) (Some []) c cs h in single_first byte c [] cs p.0 p.1
shift_jis_first (byte ∷ next ∷ bytes) c cs h =
    elim (lead_cases (is_lead byte) (put (pair_character byte next) (read_shift_jis bytes))
    (put (shift_jis_character byte) (read_shift_jis (next ∷ bytes))) (c ∷ cs) h) [
      | inl w ↦ (let p = put_is (pair_character byte next) (read_shift_jis bytes) c cs w.1 in pair_first byte next c bytes cs p.0 p.1)
      | inr w ↦ (let p = put_is (shift_jis_character byte) (read_shift_jis (next ∷ bytes)) c cs w.1 in single_first byte c (next ∷ bytes) cs p.0 p.1)
    ]

shift_jis_split : (front later bytes : List ℕ) → read_shift_jis bytes ≡ Some (front ++ later) →
    IsRead read_shift_jis (length bytes) front × IsRead read_shift_jis (length bytes) later
shift_jis_split = split_by read_shift_jis shift_jis_none shift_jis_first

-- ---- UTF-8

abbrev read_utf8 : List ℕ → Option (List ℕ)
read_utf8 bytes = if is_utf8 bytes then Some (chars bytes) else None

scalars_both : (front later : List ℕ) → all_scalars (front ++ later) ≡ true → (all_scalars front ≡ true) × (all_scalars later ≡ true)
scalars_both [] later h = (refl, h)
scalars_both (c ∷ front) later h =
    let p : (scalar c ≡ true) × (all_scalars (front ++ later) ≡ true) = and_parts _ _ h in
    let w = scalars_both front later p.1 in (grind (arith, common_steps, p.0, w.0), w.1)

utf8_read : (cs : List ℕ) → all_scalars cs ≡ true → read_utf8 (encode_utf8_all cs) ≡ Some cs
utf8_read cs good =
    cond-true (is_utf8 (encode_utf8_all cs)) (Some (chars (encode_utf8_all cs))) None
    (is_utf8-from_IsUtf8 (encode_utf8_all cs) (cs, (good, refl)))
    ∙ ap (λ (t : List ℕ). Some t) (chars-encodes cs good)

utf8_split : (front later bytes : List ℕ) → read_utf8 bytes ≡ Some (front ++ later) →
    IsRead read_utf8 (length bytes) front × IsRead read_utf8 (length bytes) later
utf8_split front later bytes h =
    let p = if_list (is_utf8 bytes) (Some (chars bytes)) (front ++ later) h in
    let e : chars bytes ≡ front ++ later = cc in
    let good = IsUtf8-from_is_utf8 bytes p.0 in
    let scalars = scalars_both front later (subst (λ (x : List ℕ). all_scalars x ≡ true) e (scalars-chars bytes good)) in
    let whole : encode_utf8_all (front ++ later) ≡ bytes = subst (λ (x : List ℕ). encode_utf8_all x ≡ bytes) e (encodes-chars bytes good) in
    let size : length (encode_utf8_all front) + length (encode_utf8_all later) ≡ length bytes =
    sym (length-append (encode_utf8_all front) (encode_utf8_all later))
    ∙ (ap (λ (x : List ℕ). length x) (sym (encodes-append front later)) ∙ ap (λ (x : List ℕ). length x) whole) in (
      record { bytes = encode_utf8_all front; reads = utf8_read front scalars.0; fewer = omega (arith, size) },
      record { bytes = encode_utf8_all later; reads = utf8_read later scalars.1; fewer = omega (arith, size) },
    )

-- ---- Segments

-- What is read in one way is read in another.
another : (read other : List ℕ → Option (List ℕ)) (size : ℕ) (text : List ℕ) →
    ((bytes : List ℕ) → read bytes ≡ other bytes) → IsRead read size text → IsRead other size text
another read other size text same w = record { bytes = w.bytes; reads = sym (same w.bytes) ∙ w.reads; fewer = w.fewer }

both_others : (read other : List ℕ → Option (List ℕ)) (size : ℕ) (front later : List ℕ) → ((bytes : List ℕ) → read bytes ≡ other bytes) →
    IsRead read size front × IsRead read size later → IsRead other size front × IsRead other size later
both_others read other size front later same w = (another read other size front same w.0, another read other size later same w.1)

-- How bytes are read by a designator.
record IsReader (read : List ℕ → Option (List ℕ)) : Type 0 where
  split : (front later bytes : List ℕ) → read bytes ≡ Some (front ++ later) → IsRead read (length bytes) front × IsRead read (length bytes) later

same_reader : (read other : List ℕ → Option (List ℕ)) → ((bytes : List ℕ) → read bytes ≡ other bytes) → IsReader read → IsReader other
same_reader read other same w = record {
  split = λ front later bytes h. both_others read other (length bytes) front later same (w.split front later bytes (same bytes ∙ h));
}

one_of : (test : Bool) (one other : List ℕ → Option (List ℕ)) → IsReader one → IsReader other →
    IsReader (λ bytes. if test then one bytes else other bytes)
one_of true one other a b = a
one_of false one other a b = b

bytes_reader : (mixed : Bool) (force : Option ℕ) → IsReader (read_bytes mixed force)
unfolding read_bytes
bytes_reader mixed None = record { split = each_split (if mixed then common_character else ascii_character) }
bytes_reader mixed (Some number) =
    one_of (number == 20) read_shift_jis _ (record { split = shift_jis_split })
    (one_of (number == 26) read_utf8 (each_of (character_of_byte (Some number))) (record { split = utf8_split })
    (record { split = each_split (character_of_byte (Some number)) }))

none_reader : IsReader (λ bytes. None)
none_reader = record { split = λ front later bytes h. absurd (let e : None ≡ Some (front ++ later) = h in cc) }

-- The bytes of a segment that is read as two texts, one after the other.
pub segment_split : (plain mixed : Bool) (force : Option ℕ) (mode : Mode) (front later bytes : List ℕ) →
    read_segment plain mixed force mode bytes ≡ Some (front ++ later) →
    IsRead (read_segment plain mixed force mode) (length bytes) front × IsRead (read_segment plain mixed force mode) (length bytes) later
unfolding read_segment
segment_split plain mixed force Numeric front later bytes h = each_split digit_character front later bytes h
segment_split plain mixed force Alphanumeric front later bytes h = each_split alphanumeric_character front later bytes h
segment_split plain mixed force Byte front later bytes h = (bytes_reader mixed force).split front later bytes h
segment_split plain mixed force Kanji front later bytes h =
    (one_of (plain || is_shift_jis force) read_kanji (λ (b : List ℕ). None) (record { split = kanji_split }) none_reader).split front later bytes h
