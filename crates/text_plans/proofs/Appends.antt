-- Bytes of a segment after others, and parts after others.
use Rattle.std.proofs.Common.{◌≡◌, ℕ, Bool, true, false, ◌==◌, ◌||◌, inl, inr, List, [], ◌∷◌, ◌++◌}
use Rattle.std.proofs.Common.{refl, ap, ◌∙◌, arith}
use Rattle.std.specs.Prelude.{Option, None, Some, if◌then◌else◌, chars}
use Rattle.std.specs.Str.{is_utf8}
use Rattle.std.proofs.lemmas.Bool.{cond-true, cond-false}
use Rattle.std.proofs.lemmas.Str.{IsUtf8-append, IsUtf8-from_is_utf8, is_utf8-from_IsUtf8}
use Rattle.std.proofs.lemmas.Str.{chars-append}
use Rattle.std.proofs.lemmas.Grind.{common_steps}
use Rattle.qrcode_base.specs.Characters.{is_lead}
use Rattle.qrcode_base.specs.declared.types.Mode.{Mode}
use Rattle.qrcode_base.specs.declared.types.Mode.TheVariants.{Numeric, Alphanumeric, Byte, Kanji}
use Rattle.character_sets.specs.Bytes.{ascii_character, common_character, shift_jis_character}
use Rattle.character_sets.specs.Bytes.{character_of_byte}
use Rattle.character_sets.specs.Reading.{put, each_of, read_bytes, read_kanji, read_shift_jis}
use Rattle.character_sets.specs.Reading.{read_segment, pair_character, is_shift_jis}
use Rattle.character_sets.specs.Reading.{digit_character, alphanumeric_character}
use Rattle.text_plans.proofs.Begins.{if_list}
use Rattle.text_plans.proofs.Sizes.{lead_cases}

-- ---- Two texts read one after the other

pub put_split : (x : Option ℕ) (y : Option (List ℕ)) (s : List ℕ) → put x y ≡ Some s →
    (c : ℕ) × (cs : List ℕ) × (x ≡ Some c) × (y ≡ Some cs) × (s ≡ c ∷ cs)
put_split (Some c) (Some cs) s h = (c, cs, refl, refl, cc)
put_split (Some c) None s h = absurd (let e : None ≡ Some s = h in cc)
put_split None y s h = absurd (let e : None ≡ Some s = h in cc)

pub put_both : (x : Option ℕ) (y : Option (List ℕ)) (c : ℕ) (cs : List ℕ) → x ≡ Some c → y ≡ Some cs → put x y ≡ Some (c ∷ cs)
put_both x y c cs h k = grind (arith, h, k)

each_append : (f : ℕ → Option ℕ) (a b s t : List ℕ) → each_of f a ≡ Some s → each_of f b ≡ Some t → each_of f (a ++ b) ≡ Some (s ++ t)
unfolding each_of
each_append f [] b s t h k = let e : s ≡ [] = cc in rw e k
each_append f (byte ∷ a) b s t h k =
    let w = put_split (f byte) (each_of f a) s h in
    rw w.4 (put_both (f byte) (each_of f (a ++ b)) w.0 (w.1 ++ t) w.2 (each_append f a b w.1 t w.3 k))

kanji_append : (a b s t : List ℕ) → read_kanji a ≡ Some s → read_kanji b ≡ Some t → read_kanji (a ++ b) ≡ Some (s ++ t)
unfolding read_kanji
kanji_append [] b s t h k = let e : s ≡ [] = cc in rw e k
kanji_append (lead ∷ []) b s t h k = absurd (let e : None ≡ Some s = h in cc)
kanji_append (lead ∷ trail ∷ a) b s t h k =
    let w = put_split (pair_character lead trail) (read_kanji a) s h in
    rw w.4 (put_both (pair_character lead trail) (read_kanji (a ++ b)) w.0 (w.1 ++ t) w.2 (kanji_append a b w.1 t w.3 k))

no_lead : (byte c : ℕ) → shift_jis_character byte ≡ Some c → is_lead byte ≡ false
no_lead byte c h = grind (arith, common_steps)

-- A single byte before others.
single_before : (byte c : ℕ) (b t : List ℕ) → shift_jis_character byte ≡ Some c → read_shift_jis b ≡ Some t →
    read_shift_jis (byte ∷ b) ≡ Some (c ∷ t)
unfolding read_shift_jis
single_before byte c [] t h k = put_both (shift_jis_character byte) (Some []) c t h k
single_before byte c (next ∷ b) t h k =
    cond-false (is_lead byte) (put (pair_character byte next) (read_shift_jis b)) _ (no_lead byte c h)
    ∙ put_both (shift_jis_character byte) (read_shift_jis (next ∷ b)) c t h k

shift_jis_append : (a b s t : List ℕ) → read_shift_jis a ≡ Some s → read_shift_jis b ≡ Some t → read_shift_jis (a ++ b) ≡ Some (s ++ t)
unfolding read_shift_jis
shift_jis_append [] b s t h k = let e : s ≡ [] = cc in rw e k
shift_jis_append (byte ∷ []) b s t h k =
    let w = put_split (shift_jis_character byte) (Some []) s h in
    let e : w.1 ≡ [] = cc in
    rw w.4 (rw e (single_before byte w.0 b t w.2 k))
shift_jis_append (byte ∷ next ∷ a) b s t h k =
    elim (lead_cases (is_lead byte) (put (pair_character byte next) (read_shift_jis a))
    (put (shift_jis_character byte) (read_shift_jis (next ∷ a))) s h) [
      | inl u ↦
          let w = put_split (pair_character byte next) (read_shift_jis a) s u.1 in
          rw w.4 (cond-true (is_lead byte) (put (pair_character byte next) (read_shift_jis (a ++ b))) _ u.0
          ∙ put_both (pair_character byte next) (read_shift_jis (a ++ b)) w.0 (w.1 ++ t) w.2 (shift_jis_append a b w.1 t w.3 k))
      | inr u ↦
          let w = put_split (shift_jis_character byte) (read_shift_jis (next ∷ a)) s u.1 in
          rw w.4 (single_before byte w.0 (next ∷ (a ++ b)) (w.1 ++ t) w.2 (shift_jis_append (next ∷ a) b w.1 t w.3 k))
    ]

utf8_append : (a b s t : List ℕ) → (if is_utf8 a then Some (chars a) else None) ≡ Some s → (if is_utf8 b then Some (chars b) else None) ≡ Some t →
    (if is_utf8 (a ++ b) then Some (chars (a ++ b)) else None) ≡ Some (s ++ t)
utf8_append a b s t h k =
    let p = if_list (is_utf8 a) (Some (chars a)) s h in
    let q = if_list (is_utf8 b) (Some (chars b)) t k in
    let u = IsUtf8-from_is_utf8 a p.0 in
    let v = IsUtf8-from_is_utf8 b q.0 in
    let e : chars a ≡ s = cc in
    let f : chars b ≡ t = cc in
    cond-true (is_utf8 (a ++ b)) (Some (chars (a ++ b))) None (is_utf8-from_IsUtf8 (a ++ b) (IsUtf8-append a b u v))
    ∙ ap (λ (x : List ℕ). Some x) (chars-append a b u ∙ ap (λ (x : List ℕ). x ++ chars b) e ∙ ap (λ (x : List ℕ). s ++ x) f)

bytes_append : (mixed : Bool) (force : Option ℕ) (a b s t : List ℕ) → read_bytes mixed force a ≡ Some s → read_bytes mixed force b ≡ Some t →
    read_bytes mixed force (a ++ b) ≡ Some (s ++ t)
unfolding read_bytes
bytes_append mixed None a b s t h k = each_append (if mixed then common_character else ascii_character) a b s t h k
bytes_append mixed (Some number) a b s t h k =
    elim (number == 20) as (λ x. (if x then read_shift_jis a else (if number == 26 then (if is_utf8 a then Some (chars a) else None) else each_of (character_of_byte (Some number)) a)) ≡ Some s →
    (if x then read_shift_jis b else (if number == 26 then (if is_utf8 b then Some (chars b) else None) else each_of (character_of_byte (Some number)) b)) ≡ Some t →
    (if x then read_shift_jis (a ++ b) else (if number == 26 then (if is_utf8 (a ++ b) then Some (chars (a ++ b)) else None) else each_of (character_of_byte (Some number)) (a ++ b))) ≡ Some (s ++ t)) [
      | true ↦ λ x y. shift_jis_append a b s t x y
      | false ↦
          elim (number == 26) as (λ z. (if z then (if is_utf8 a then Some (chars a) else None) else each_of (character_of_byte (Some number)) a) ≡ Some s →
          (if z then (if is_utf8 b then Some (chars b) else None) else each_of (character_of_byte (Some number)) b) ≡ Some t →
          (if z then (if is_utf8 (a ++ b) then Some (chars (a ++ b)) else None) else each_of (character_of_byte (Some number)) (a ++ b)) ≡ Some (s ++ t)) [
            | true ↦ λ x y. utf8_append a b s t x y
            | false ↦ λ x y. each_append (character_of_byte (Some number)) a b s t x y
          ]
    ] h k

pub segment_append : (plain mixed : Bool) (force : Option ℕ) (mode : Mode) (a b s t : List ℕ) →
    read_segment plain mixed force mode a ≡ Some s → read_segment plain mixed force mode b ≡ Some t →
    read_segment plain mixed force mode (a ++ b) ≡ Some (s ++ t)
unfolding read_segment
segment_append plain mixed force Numeric a b s t h k = each_append digit_character a b s t h k
segment_append plain mixed force Alphanumeric a b s t h k = each_append alphanumeric_character a b s t h k
segment_append plain mixed force Byte a b s t h k = bytes_append mixed force a b s t h k
segment_append plain mixed force Kanji a b s t h k =
    let p = if_list (plain || is_shift_jis force) (read_kanji a) s h in
    let q = if_list (plain || is_shift_jis force) (read_kanji b) t k in
    cond-true (plain || is_shift_jis force) (read_kanji (a ++ b)) None p.0 ∙ kanji_append a b s t p.1 q.1
