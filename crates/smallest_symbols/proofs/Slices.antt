-- Parts of a text by the places of their bytes: their characters, and when they are too long.
use Rattle.std.proofs.Common.{◌≡◌, ℕ, zero, suc, ◌+◌, ◌*◌, ◌-◌, ◌<◌, ◌≤◌, inl, inr, List, [], ◌∷◌}
use Rattle.std.proofs.Common.{◌++◌, length}
use Rattle.std.proofs.Common.{length-append, Err, Ok, Result, take, drop, refl, sym, ap, subst, ◌∙◌}
use Rattle.std.proofs.Common.{arith}
use Rattle.std.specs.Prelude.{◌/◌, MatchOption, None, Option, Some, chars, encode_utf8_all, min}
use Rattle.std.specs.Prelude.{slice_index_or, slice_range}
use Rattle.std.specs.Str.{IsCharBoundary, IsUtf8}
use Rattle.std.specs.String.Boundary.{IsSplitPoint}
use Rattle.std.proofs.lemmas.Bool.{cases_lt}
use Rattle.std.proofs.lemmas.List.Elements.{All-nil}
use Rattle.std.proofs.lemmas.Str.{IsCharBoundary-start, IsUtf8-between, chars-append, chars-nil}
use Rattle.std.proofs.lemmas.Str.{encodes-chars}
use Rattle.qrcode_base.specs.Symbols.{capacity}
use Rattle.qrcode_base.specs.declared.types.EcLevel.{EcLevel}
use Rattle.qrcode_base.specs.declared.types.errors.QrError.{QrError}
use Rattle.qrcode_bits.specs.Places.{AreCutPlaces}
use Rattle.qrcode_bits.specs.Plans.{normal}
use Rattle.qrcode_bits.specs.declared.bits.front.Content.TheVariants.{Text}
use Rattle.qrcode_bits.proofs.{Choices.capacity-grows, Cutting.least_room, Texts.length-slice}
use Rattle.qrcode_bits.proofs.{Texts.slice-join}
use Rattle.qrcode_core.proofs.BestCuts.{is_place, places_order}
use Rattle.character_sets.specs.Reading.{has_kanji, has_no_designator, read_parts}
use Rattle.text_plans.specs.Costs.{HasPart}
use Rattle.text_plans.specs.Manners.{ArePartsIn, BeginsAsIn, begins_with_designator}
use Rattle.text_plans.specs.declared.rules.Manner.{Manner}
use Rattle.text_plans.specs.declared.rules.Manner.TheVariants.{Ascii, Paired, Designated}
use Rattle.text_plans.proofs.Starts.{text_in}
use Rattle.smallest_symbols.specs.TextParts.{IsTextPartTooLong, PartsFitAfterHeader}
use Rattle.smallest_symbols.proofs.{TextFrames.parts_dense, Valid.parts_sound}
use Rattle.smallest_symbols.proofs.{TextVersions.long_unfit}
use Rattle.smallest_symbols.specs.TextCuts.{IsPartFromTooLong}
use Rattle.smallest_symbols.proofs.Shorter.{shorter_parts}

-- ---- Texts that are too long

-- No version holds more than 7089 characters.
pub many_too_long : (manner : Manner) (text : List ℕ) (level : EcLevel) (limit : ℕ) → 7089 < length text → IsTextPartTooLong manner text level limit
many_too_long manner text level limit long n few parts w =
    long_unfit n level text long parts
    (record { written = text_in manner (normal n) text parts w.written; limit = w.limit; has_level = w.has_level; within = omega (arith, w.within) })

-- No mode takes fewer than ten bits for three characters.
pub dense_too_long : (level : EcLevel) (limit d : ℕ) → capacity (normal limit) level ≡ Some d → (manner : Manner) (text : List ℕ) →
    (d / 10 + 1) * 3 ≤ length text → IsTextPartTooLong manner text level limit
dense_too_long level limit d known manner text long n few parts w =
    let grows = capacity-grows level n limit w.limit d few w.has_level known in
    let read = (text_in manner (normal n) text parts w.written).read in
    let short = (parts_sound (has_no_designator parts) (has_kanji parts) None parts text read).1 in
    let dense = parts_dense (normal n) parts in
    omega (arith, grows, short, dense, long, w.within)

pub far_too_long : (level : EcLevel) (limit size : ℕ) →
    ((manner : Manner) (text : List ℕ) → size ≤ length text → IsTextPartTooLong manner text level limit) →
    (manner : Manner) (text : List ℕ) → min size 7090 ≤ length text → IsTextPartTooLong manner text level limit
far_too_long level limit size far manner text long = elim (cases_lt 7089 (length text)) [
  | inl more ↦ many_too_long manner text level limit more
  | inr few ↦ far manner text (omega (arith, long, few))
]

-- The capacity of a version that has the level is no error.
pub has_limit : (o : Option ℕ) (c : ℕ) (f e : QrError) → o ≡ Some c →
    MatchOption o (◌≡◌ {A = Result ℕ QrError} (Err f) (Err e)) (λ l. ◌≡◌ {A = Result ℕ QrError} (Err f) (Ok l)) → ⊥
has_limit None c f e h k = absurd (cc)
has_limit (Some d) c f e h k = cc

none_begins : (manner : Manner) → BeginsAsIn manner []
unfolding begins_with_designator
none_begins Ascii = tt
none_begins Paired = tt
none_begins Designated = refl

no_text : (manner : Manner) (level : EcLevel) → (d : ℕ) × (capacity (normal 1) level ≡ Some d) × (72 ≤ d) →
    PartsFitAfterHeader manner (normal 1) level [] []
unfolding read_parts has_no_designator has_kanji
no_text manner level room = record {
  written = record {
    read = refl;
    had = All-nil (HasPart (normal 1));
    plain = λ h. refl;
    mixed = λ h. absurd (cc);
    begins = none_begins manner;
  };
  limit = room.0;
  has_level = room.1;
  within = omega (arith, room.2);
}

-- A part of no characters fits.
pub nothing_fits_one : (manner : Manner) (message : List ℕ) (level : EcLevel) (limit p : ℕ) → 1 ≤ limit →
    IsPartFromTooLong manner message level limit p p → ⊥
nothing_fits_one manner message level limit p some long =
    let none : p - p ≡ 0 = omega arith in
    let empty : chars (slice_range message p p) ≡ [] = ap (λ (n : ℕ). chars (take n (drop p message))) none ∙ chars-nil in
    long 1 some []
    (subst (λ (text : List ℕ). PartsFitAfterHeader manner (normal 1) level text []) (sym empty) (no_text manner level (least_room level)))

-- ---- Characters of parts

boundary : (message : List ℕ) (p : ℕ) → IsUtf8 message → IsSplitPoint message p → IsCharBoundary message p
boundary message zero utf8 h = IsCharBoundary-start message utf8
boundary message (suc p) utf8 h = (h.0, λ inside high. h.1 (omega arith) inside high)

pub place_boundary : (message : List ℕ) (p : ℕ) → IsUtf8 message → IsSplitPoint message p → IsCharBoundary message p
place_boundary = boundary

module _ (message : List ℕ) (utf8 : IsUtf8 message) where
  part_utf8 : (p q : ℕ) → p ≤ q → IsSplitPoint message p → IsSplitPoint message q → IsUtf8 (slice_range message p q)
  part_utf8 p q h a b = IsUtf8-between message p q utf8 h (boundary message p utf8 a) (boundary message q utf8 b)

  -- The characters of a part are those of its beginning and its end.
  pub chars_join : (p q r : ℕ) → p ≤ q → q ≤ r → IsSplitPoint message p → IsSplitPoint message q →
      chars (slice_range message p r) ≡ chars (slice_range message p q) ++ chars (slice_range message q r)
  chars_join p q r h k a b =
      ap (λ (x : List ℕ). chars x) (sym (slice-join message p q r h k))
      ∙ chars-append (slice_range message p q) (slice_range message q r) (part_utf8 p q h a b)

  -- A part that is not empty has a character.
  one_char : (p q : ℕ) → p < q → IsSplitPoint message p → IsSplitPoint message q → 1 ≤ length (chars (slice_range message p q))
  one_char p q h a b =
      some (chars (slice_range message p q)) (encodes-chars (slice_range message p q) (part_utf8 p q (omega arith) a b))
    where
      some : (cs : List ℕ) → encode_utf8_all cs ≡ slice_range message p q → 1 ≤ length cs
      some [] e = absurd (omega (arith, ap (λ (x : List ℕ). length x) e, length-slice message p q (omega arith) b.0))
      some (c ∷ cs) e = omega arith

  -- A part within a part that fits, fits too.
  pub text_within : (manner : Manner) (level : EcLevel) (limit p q r s : ℕ) → p ≤ q → q ≤ r → r ≤ s → IsSplitPoint message p →
      IsSplitPoint message q → IsSplitPoint message r → IsPartFromTooLong manner message level limit q r →
      IsPartFromTooLong manner message level limit p s
  text_within manner level limit p q r s h k l a b d none n few parts w =
      let e : chars (slice_range message p s)
      ≡ chars (slice_range message p q) ++ (chars (slice_range message q r) ++ chars (slice_range message r s)) =
      chars_join p q s h (omega arith) a b
      ∙ ap (λ (x : List ℕ). chars (slice_range message p q) ++ x) (chars_join q r s k l b d) in
      let written = subst (λ (x : List ℕ). ArePartsIn manner (normal n) x parts) e w.written in
      let end = (shorter_parts manner (normal n) (chars (slice_range message p q)) (chars (slice_range message q r) ++ chars (slice_range message r s)) parts
      written).1 in
      let part = (shorter_parts manner (normal n) (chars (slice_range message q r)) (chars (slice_range message r s)) end.some end.written).0 in
      none n few part.some
      (record { written = part.written; limit = w.limit; has_level = w.has_level; within = omega (arith, w.within, end.fewer, part.fewer) })

  -- From a place to a later one there is a character at least for each place between.
  pub many_chars : (places : List ℕ) → AreCutPlaces Text message places → (i k : ℕ) → i + k < length places →
      k ≤ length (chars (slice_range message (slice_index_or places i 0) (slice_index_or places (i + k) 0)))
  many_chars places are i zero h = omega arith
  many_chars places are i (suc k) h =
      let next : i + suc k ≡ suc (i + k) = omega arith in
      let inside : i + k < length places = omega (arith, h) in
      let after : suc (i + k) < length places = omega (arith, h) in
      let p = slice_index_or places i 0 in
      let q = slice_index_or places (i + k) 0 in
      let r = slice_index_or places (suc (i + k)) 0 in
      let more = are.increasing (i + k) (suc (i + k)) (omega arith) after in
      let up = places_order Text message places are i (i + k) (omega arith) inside in
      let start = is_place Text message places are i (omega (arith, h)) in
      let middle = is_place Text message places are (i + k) inside in
      let end = is_place Text message places are (suc (i + k)) after in
      let both = chars_join p q r up (omega (arith, more)) start middle in
      let before = many_chars places are i k inside in
      let last = one_char q r more middle end in
      subst (λ (j : ℕ). suc k ≤ length (chars (slice_range message p (slice_index_or places j 0)))) (sym next)
      (omega (arith, ap (λ (x : List ℕ). length x) both, length-append (chars (slice_range message p q)) (chars (slice_range message q r)), before, last))

  -- So a part up to a place that is far enough is too long.
  pub far_place : (places : List ℕ) → AreCutPlaces Text message places → (level : EcLevel) (limit size : ℕ) →
      ((manner : Manner) (text : List ℕ) → size ≤ length text → IsTextPartTooLong manner text level limit) → (manner : Manner) (first i : ℕ) →
      first + size ≤ i → i < length places →
      IsPartFromTooLong manner message level limit (slice_index_or places first 0) (slice_index_or places i 0)
  far_place places are level limit size far manner first i past inside =
      let e : first + (i - first) ≡ i = omega arith in
      let many = many_chars places are first (i - first) (omega arith) in
      subst (λ (j : ℕ). IsPartFromTooLong manner message level limit (slice_index_or places first 0) (slice_index_or places j 0)) e
      (far manner (chars (slice_range message (slice_index_or places first 0) (slice_index_or places (first + (i - first)) 0))) (omega (arith, many)))
