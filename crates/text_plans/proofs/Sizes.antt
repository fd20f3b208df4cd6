-- How many bytes a character has in a lane.
use Rattle.std.proofs.Common.{◌≡◌, ◌≢◌, ℕ, ◌+◌, ◌≤◌, ◌<◌, Bool, true, false, ◌==◌, ◌⊎◌, inl, inr}
use Rattle.std.proofs.Common.{List, [], ◌∷◌, ◌++◌, length, get_or, replicate}
use Rattle.std.proofs.Common.{refl, ap, sym, ◌∙◌, subst, arith, length-append, ne_eqb, ltb-true}
use Rattle.std.proofs.Common.{nat_lt}
use Rattle.std.specs.List.{list_all}
use Rattle.std.specs.Prelude.{position, Option, None, Some, if◌then◌else◌, chars, encode_utf8}
use Rattle.std.specs.Prelude.{encode_utf8_all}
use Rattle.std.specs.Char.{IsScalar, len_utf8}
use Rattle.std.specs.Str.{is_utf8, IsUtf8, all_scalars}
use Rattle.std.proofs.lemmas.Bool.{cond-true, cond-false, and_parts, cases_eq, cases_lt}
use Rattle.std.proofs.lemmas.Str.{encodes-chars, scalars-chars, chars-encodes, IsUtf8-from_is_utf8}
use Rattle.std.proofs.lemmas.Str.{is_utf8-from_IsUtf8, length-encode, IsUtf8-encode}
use Rattle.std.proofs.lemmas.Str.{chars_past_char, chars-nil, len_utf8_ascii, len_utf8_bounds}
use Rattle.std.proofs.lemmas.List.{append-nil}
use Rattle.std.proofs.lemmas.Grind.{common_steps}
use Rattle.qrcode_base.specs.Characters.{alphabet, is_alphanumeric, is_lead, is_between}
use Rattle.character_sets.specs.Bytes.{ascii_character, common_character, shift_jis_character}
use Rattle.character_sets.specs.Bytes.{character_of_byte, is_part, part_character}
use Rattle.character_sets.specs.Reading.{put, each_of, read_bytes, read_shift_jis, pair_character}
use Rattle.text_plans.specs.Lanes.{IsSize, SuitsMixed, force_of, single_character}
use Rattle.text_plans.proofs.Begins.{if_list}
use Rattle.text_plans.proofs.Fronts.{each_front, put_is}

-- ---- Lanes in which each byte is a character

-- The bytes of a lane are read one by one.
abbrev pub IsSingle : ℕ → (ℕ → Option ℕ) → Type 0
IsSingle lane f = (mixed : Bool) → SuitsMixed mixed lane → (bytes : List ℕ) → read_bytes mixed (force_of lane) bytes ≡ each_of f bytes

one_read : (f : ℕ → Option ℕ) (byte c : ℕ) → f byte ≡ Some c → each_of f (byte ∷ []) ≡ Some (c ∷ [])
unfolding each_of
one_read f byte c h = ap (λ (x : Option ℕ). put x (Some [])) h

pub single_read : (lane : ℕ) (f : ℕ → Option ℕ) (c byte : ℕ) → IsSingle lane f → f byte ≡ Some c → (mixed : Bool) → SuitsMixed mixed lane →
    read_bytes mixed (force_of lane) (byte ∷ []) ≡ Some (c ∷ [])
single_read lane f c byte single h mixed suits = single mixed suits (byte ∷ []) ∙ one_read f byte c h

pub one_size : (lane : ℕ) (f : ℕ → Option ℕ) (c byte : ℕ) → IsSingle lane f → f byte ≡ Some c → IsSize lane c 1
one_size lane f c byte single h = record {
  some = λ e mixed suits. (byte ∷ [], refl, single_read lane f c byte single h mixed suits);
  front = λ mixed suits bytes cs read.
      let w = each_front f bytes c cs (sym (single mixed suits bytes) ∙ read) in (
        w.1,
        single mixed suits w.1 ∙ w.4,
        omega (arith, ap (λ (x : List ℕ). length x) w.2),
        λ e. omega arith,
      );
}

pub no_size : (lane : ℕ) (f : ℕ → Option ℕ) (c : ℕ) → IsSingle lane f → ((byte : ℕ) → f byte ≡ Some c → ⊥) → IsSize lane c 0
no_size lane f c single none = record {
  some = λ e mixed suits. absurd (e refl);
  front = λ mixed suits bytes cs read.
      let w = each_front f bytes c cs (sym (single mixed suits bytes) ∙ read) in absurd (none w.0 w.3);
}

-- ---- Shift JIS

record IsPairFront (bytes : List ℕ) (c : ℕ) (cs : List ℕ) : Type 0 where
  lead : ℕ
  trail : ℕ
  rest : List ℕ
  bytes_are : bytes ≡ lead ∷ trail ∷ rest
  pair : pair_character lead trail ≡ Some c
  read : read_shift_jis rest ≡ Some cs

record IsByteFront (bytes : List ℕ) (c : ℕ) (cs : List ℕ) : Type 0 where
  byte : ℕ
  rest : List ℕ
  bytes_are : bytes ≡ byte ∷ rest
  single : shift_jis_character byte ≡ Some c
  read : read_shift_jis rest ≡ Some cs

shift_jis_nil : read_shift_jis [] ≡ Some []
unfolding read_shift_jis
shift_jis_nil = refl

pub lead_cases : (b : Bool) (x y : Option (List ℕ)) (cs : List ℕ) → (if b then x else y) ≡ Some cs →
    ((b ≡ true) × (x ≡ Some cs)) ⊎ ((b ≡ false) × (y ≡ Some cs))
lead_cases true x y cs h = inl (refl, h)
lead_cases false x y cs h = inr (refl, h)

shift_jis_front : (bytes : List ℕ) (c : ℕ) (cs : List ℕ) → read_shift_jis bytes ≡ Some (c ∷ cs) → IsPairFront bytes c cs ⊎ IsByteFront bytes c cs
unfolding read_shift_jis
shift_jis_front [] c cs h = absurd (let e : Some [] ≡ Some (c ∷ cs) = h in cc)
shift_jis_front (byte ∷ []) c cs h =
    let p = put_is (shift_jis_character byte) (Some []) c cs h in
    inr (record { byte = byte; rest = []; bytes_are = refl; single = p.0; read = p.1 })
shift_jis_front (byte ∷ next ∷ bytes) c cs h =
    elim (lead_cases (is_lead byte) (put (pair_character byte next) (read_shift_jis bytes))
    (put (shift_jis_character byte) (read_shift_jis (next ∷ bytes))) (c ∷ cs) h) [
      | inl w ↦
          let p = put_is (pair_character byte next) (read_shift_jis bytes) c cs w.1 in
          inl (record { lead = byte; trail = next; rest = bytes; bytes_are = refl; pair = p.0; read = p.1 })
      | inr w ↦
          let p = put_is (shift_jis_character byte) (read_shift_jis (next ∷ bytes)) c cs w.1 in
          inr (record { byte = byte; rest = next ∷ bytes; bytes_are = refl; single = p.0; read = p.1 })
    ]

by_shift_jis : (mixed : Bool) (bytes : List ℕ) → read_bytes mixed (force_of 14) bytes ≡ read_shift_jis bytes
unfolding read_bytes force_of
by_shift_jis mixed bytes = refl

kana_read : (byte c : ℕ) → shift_jis_character byte ≡ Some c → read_shift_jis (byte ∷ []) ≡ Some (c ∷ [])
unfolding read_shift_jis
kana_read byte c h = ap (λ (x : Option ℕ). put x (Some [])) h

pair_leads : (lead trail c : ℕ) → pair_character lead trail ≡ Some c → is_lead lead ≡ true
pair_leads lead trail c h = grind (arith, common_steps)

pair_read : (lead trail c : ℕ) → pair_character lead trail ≡ Some c → read_shift_jis (lead ∷ trail ∷ []) ≡ Some (c ∷ [])
unfolding read_shift_jis
pair_read lead trail c h =
    cond-true (is_lead lead) (put (pair_character lead trail) (Some [])) _ (pair_leads lead trail c h)
    ∙ ap (λ (x : Option ℕ). put x (Some [])) h

pub kana_reads : (c byte : ℕ) → shift_jis_character byte ≡ Some c → (mixed : Bool) → read_bytes mixed (force_of 14) (byte ∷ []) ≡ Some (c ∷ [])
kana_reads c byte h mixed = by_shift_jis mixed (byte ∷ []) ∙ kana_read byte c h

pub pair_reads : (c lead trail : ℕ) → pair_character lead trail ≡ Some c → (mixed : Bool) →
    read_bytes mixed (force_of 14) (lead ∷ trail ∷ []) ≡ Some (c ∷ [])
pair_reads c lead trail h mixed = by_shift_jis mixed (lead ∷ trail ∷ []) ∙ pair_read lead trail c h

pub kana_size : (c byte : ℕ) → shift_jis_character byte ≡ Some c → IsSize 14 c 1
kana_size c byte h = record {
  some = λ e mixed suits. (byte ∷ [], refl, kana_reads c byte h mixed);
  front = λ mixed suits bytes cs read.
      elim (shift_jis_front bytes c cs (sym (by_shift_jis mixed bytes) ∙ read)) [
        | inl w ↦ (w.rest, by_shift_jis mixed w.rest ∙ w.read, omega (arith, ap (λ (x : List ℕ). length x) w.bytes_are), λ e. omega arith)
        | inr w ↦ (w.rest, by_shift_jis mixed w.rest ∙ w.read, omega (arith, ap (λ (x : List ℕ). length x) w.bytes_are), λ e. omega arith)
      ];
}

pub pair_size : (c lead trail : ℕ) → ((byte : ℕ) → shift_jis_character byte ≡ Some c → ⊥) → pair_character lead trail ≡ Some c → IsSize 14 c 2
pair_size c lead trail none h = record {
  some = λ e mixed suits. (lead ∷ trail ∷ [], refl, pair_reads c lead trail h mixed);
  front = λ mixed suits bytes cs read.
      elim (shift_jis_front bytes c cs (sym (by_shift_jis mixed bytes) ∙ read)) [
        | inl w ↦ (w.rest, by_shift_jis mixed w.rest ∙ w.read, omega (arith, ap (λ (x : List ℕ). length x) w.bytes_are), λ e. omega arith)
        | inr w ↦ absurd (none w.byte w.single)
      ];
}

pub no_shift_jis : (c : ℕ) → ((byte : ℕ) → shift_jis_character byte ≡ Some c → ⊥) →
    ((lead trail : ℕ) → pair_character lead trail ≡ Some c → ⊥) → IsSize 14 c 0
no_shift_jis c none no_pair = record {
  some = λ e mixed suits. absurd (e refl);
  front = λ mixed suits bytes cs read.
      elim (shift_jis_front bytes c cs (sym (by_shift_jis mixed bytes) ∙ read)) [
        | inl w ↦ absurd (no_pair w.lead w.trail w.pair)
        | inr w ↦ absurd (none w.byte w.single)
      ];
}

-- ---- UTF-8

by_utf8 : (mixed : Bool) (bytes : List ℕ) → read_bytes mixed (force_of 15) bytes ≡ (if is_utf8 bytes then Some (chars bytes) else None)
unfolding read_bytes force_of
by_utf8 mixed bytes = refl

utf8_read : (cs : List ℕ) → all_scalars cs ≡ true → (if is_utf8 (encode_utf8_all cs) then Some (chars (encode_utf8_all cs)) else None) ≡ Some cs
utf8_read cs good =
    cond-true (is_utf8 (encode_utf8_all cs)) (Some (chars (encode_utf8_all cs))) None
    (is_utf8-from_IsUtf8 (encode_utf8_all cs) (cs, (good, refl)))
    ∙ ap (λ (t : List ℕ). Some t) (chars-encodes cs good)

one_scalar : (c : ℕ) → IsScalar c → (bytes : List ℕ) → bytes ≡ encode_utf8 c → (if is_utf8 bytes then Some (chars bytes) else None) ≡ Some (c ∷ [])
one_scalar c h bytes e =
    let good : IsUtf8 bytes = subst (λ (x : List ℕ). IsUtf8 x) (sym e) (IsUtf8-encode c h) in
    cond-true (is_utf8 bytes) (Some (chars bytes)) None (is_utf8-from_IsUtf8 bytes good)
    ∙ ap (λ (x : List ℕ). Some x) (chars_past_char bytes [] c good (e ∙ sym (append-nil (encode_utf8 c))) ∙ ap (λ (x : List ℕ). c ∷ x) chars-nil)

pub utf8_reads : (c : ℕ) → IsScalar c → (mixed : Bool) → read_bytes mixed (force_of 15) (encode_utf8 c) ≡ Some (c ∷ [])
utf8_reads c h mixed = by_utf8 mixed (encode_utf8 c) ∙ one_scalar c h (encode_utf8 c) refl

utf8_front : (bytes : List ℕ) (c : ℕ) (cs : List ℕ) → (if is_utf8 bytes then Some (chars bytes) else None) ≡ Some (c ∷ cs) →
    (bytes ≡ encode_utf8 c ++ encode_utf8_all cs) × (all_scalars cs ≡ true)
utf8_front bytes c cs h =
    let p = if_list (is_utf8 bytes) (Some (chars bytes)) (c ∷ cs) h in
    let e : chars bytes ≡ c ∷ cs = cc in
    let good = IsUtf8-from_is_utf8 bytes p.0 in
    let scalars = subst (λ (x : List ℕ). all_scalars x ≡ true) e (scalars-chars bytes good) in
    (sym (encodes-chars bytes good) ∙ ap (λ (x : List ℕ). encode_utf8_all x) e, (and_parts _ _ scalars).1)

pub utf8_size : (c : ℕ) → IsScalar c → IsSize 15 c (len_utf8 c)
utf8_size c h = record {
  some = λ e mixed suits. (encode_utf8 c, length-encode c, utf8_reads c h mixed);
  front = λ mixed suits bytes cs read.
      let w = utf8_front bytes c cs (sym (by_utf8 mixed bytes) ∙ read) in (
        encode_utf8_all cs,
        by_utf8 mixed (encode_utf8_all cs) ∙ utf8_read cs w.1,
        omega (arith, ap (λ (x : List ℕ). length x) w.0, length-append (encode_utf8 c) (encode_utf8_all cs), length-encode c),
        λ e. omega (arith, len_utf8_bounds c),
      );
}

-- ---- The lanes with single bytes

part_single : (lane number : ℕ) → force_of lane ≡ Some number → (number == 20) ≡ false → (number == 26) ≡ false →
    IsSingle lane (character_of_byte (force_of lane))
unfolding read_bytes
part_single lane number is not_shift_jis not_utf8 mixed suits bytes =
    subst (λ (force : Option ℕ). read_bytes mixed force bytes ≡ each_of (character_of_byte force) bytes) (sym is)
    (cond-false (number == 20) (read_shift_jis bytes) _ not_shift_jis
    ∙ cond-false (number == 26) (if is_utf8 bytes then Some (chars bytes) else None) (each_of (character_of_byte (Some number)) bytes) not_utf8)

first_single : IsSingle 0 (character_of_byte None)
unfolding read_bytes force_of character_of_byte
first_single mixed suits bytes = rw (suits.0 refl) refl

last_single : IsSingle 16 common_character
unfolding read_bytes force_of
last_single mixed suits bytes = rw (suits.1 refl) refl

part_lane : (lane : ℕ) → 1 ≤ lane → lane ≤ 13 → (number : ℕ) × (force_of lane ≡ Some number) × ((number == 20) ≡ false) × ((number == 26) ≡ false)
unfolding force_of
part_lane lane low high = (
  if is_between 1 9 lane then lane + 2 else (if lane == 10 then 13 else (if lane == 11 then 15 else lane + 5)),
  grind (arith, common_steps),
  grind (arith, common_steps),
  grind (arith, common_steps),
)

is_last : (lane : ℕ) → lane ≡ 16 → single_character lane ≡ common_character
unfolding single_character
is_last lane h = rw h refl

pub is_other : (lane : ℕ) → (lane == 16) ≡ false → single_character lane ≡ character_of_byte (force_of lane)
unfolding single_character
is_other lane h = cond-false (lane == 16) common_character (character_of_byte (force_of lane)) h

first_force : force_of 0 ≡ None
unfolding force_of
first_force = refl

pub single_lane : (lane : ℕ) → lane < 17 → lane ≢ 14 → lane ≢ 15 → IsSingle lane (single_character lane)
single_lane lane inside a b =
    elim (cases_eq lane 16) [
      | inl last ↦
          subst (λ (f : ℕ → Option ℕ). IsSingle lane f) (sym (is_last lane last))
          (subst (λ (k : ℕ). IsSingle k common_character) (sym last) last_single)
      | inr differs ↦
          let no : (lane == 16) ≡ false = ne_eqb lane 16 differs in
          subst (λ (f : ℕ → Option ℕ). IsSingle lane f) (sym (is_other lane no))
          (elim (cases_lt lane 1) [
            | inl low ↦
                let e : 0 ≡ lane = omega arith in
                subst (λ (k : ℕ). IsSingle k (character_of_byte (force_of k))) e
                (subst (λ (force : Option ℕ). IsSingle 0 (character_of_byte force)) (sym first_force) first_single)
            | inr high ↦
                let w = part_lane lane high (within lane inside a b no) in
                part_single lane w.0 w.1 w.2 w.3
          ])
    ]
  where
    within : (k : ℕ) → k < 17 → k ≢ 14 → k ≢ 15 → (k == 16) ≡ false → k ≤ 13
    within k inside a b other = grind (arith, common_steps)

-- ---- The Alphanumeric mode has ASCII alone

beyond : (xs : List ℕ) (c : ℕ) → list_all (λ x. nat_lt x 128) xs ≡ true → 128 ≤ c → position (λ x. x == c) xs ≡ None
beyond [] c h far = refl
beyond (x ∷ xs) c h far =
    let later = beyond xs c (and_parts _ _ h).1 far in
    let small : x < 128 = ltb-true x 128 (and_parts _ _ h).0 in
    let differs : (x == c) ≡ false = ne_eqb x c (λ e. omega arith) in
    grind (arith, common_steps, later, differs)

pub no_sign : (c : ℕ) → 128 ≤ c → is_alphanumeric c ≡ false
unfolding is_alphanumeric
no_sign c far = rw (beyond alphabet c refl far) refl

-- ---- The characters that all lanes have as one byte

common_ascii : (byte c : ℕ) → common_character byte ≡ Some c → (byte ≡ c) × (c < 128) × (ascii_character c ≡ Some c)
common_ascii byte c h = (grind (arith, common_steps), grind (arith, common_steps), grind (arith, common_steps))

common_part : (number c : ℕ) → is_part number ≡ true → c < 128 → ascii_character c ≡ Some c → character_of_byte (Some number) c ≡ Some c
unfolding character_of_byte part_character
common_part number c part low h =
    let none : is_between 0xa0 0xff c ≡ false = grind (arith, common_steps) in
    cond-true (is_part number) (if is_between 0xa0 0xff c then _ else ascii_character c) _ part
    ∙ cond-false (is_between 0xa0 0xff c) _ (ascii_character c) none ∙ h

lane_part : (lane : ℕ) → 1 ≤ lane → lane ≤ 13 → (number : ℕ) × (force_of lane ≡ Some number) × (is_part number ≡ true)
unfolding force_of
lane_part lane low high = (
  if is_between 1 9 lane then lane + 2 else (if lane == 10 then 13 else (if lane == 11 then 15 else lane + 5)),
  grind (arith, common_steps),
  grind (arith, common_steps),
)

common_forced : (lane c : ℕ) → lane ≤ 13 → c < 128 → ascii_character c ≡ Some c → character_of_byte (force_of lane) c ≡ Some c
unfolding character_of_byte
common_forced lane c high low h =
    elim (cases_lt lane 1) [
      | inl first ↦
          let e : 0 ≡ lane = omega arith in
          subst (λ (k : ℕ). character_of_byte (force_of k) c ≡ Some c) e
          (subst (λ (force : Option ℕ). character_of_byte force c ≡ Some c) (sym first_force) h)
      | inr part ↦
          let w = lane_part lane part high in
          subst (λ (force : Option ℕ). character_of_byte force c ≡ Some c) (sym w.1) (common_part w.0 c w.2 low h)
    ]

pub common_size : (byte c : ℕ) → IsScalar c → common_character byte ≡ Some c → (lane : ℕ) → lane < 17 → IsSize lane c 1
common_size byte c scalar h lane inside =
    let w = common_ascii byte c h in
    let same = subst (λ (b : ℕ). common_character b ≡ Some c) w.0 h in
    elim (cases_eq lane 14) [
      | inl kana ↦ subst (λ (k : ℕ). IsSize k c 1) (sym kana) (kana_size c c (grind (arith, common_steps, same, w.1)))
      | inr a ↦
          elim (cases_eq lane 15) [
            | inl utf8 ↦
                subst (λ (k : ℕ). IsSize k c 1) (sym utf8) (subst (λ (n : ℕ). IsSize 15 c n) (len_utf8_ascii c w.1) (utf8_size c scalar))
            | inr b ↦ one_size lane (single_character lane) c c (single_lane lane inside a b) (read a b)
          ]
    ]
  where
    read : lane ≢ 14 → lane ≢ 15 → single_character lane c ≡ Some c
    read a b =
        let w = common_ascii byte c h in
        elim (cases_eq lane 16) [
          | inl last ↦ ap (λ (f : ℕ → Option ℕ). f c) (is_last lane last) ∙ subst (λ (x : ℕ). common_character x ≡ Some c) w.0 h
          | inr differs ↦
              ap (λ (f : ℕ → Option ℕ). f c) (is_other lane (ne_eqb lane 16 differs)) ∙ common_forced lane c (within inside a b differs) w.1 w.2
        ]
      where
        within : lane < 17 → lane ≢ 14 → lane ≢ 15 → lane ≢ 16 → lane ≤ 13
        within inside a b other = grind (arith, common_steps)

pub ones : (one lane : ℕ) → lane < 17 → get_or (replicate 17 one) lane 0 ≡ one
ones one lane inside = grind (arith, common_steps)

-- ---- One size

a_symbol : (lane : ℕ) → (mixed : Bool) × SuitsMixed mixed lane
a_symbol lane = ((lane == 16), (λ e. grind (arith, common_steps), λ e. grind (arith, common_steps)))

pub one_size_only : (lane c n m : ℕ) → IsSize lane c n → IsSize lane c m → n ≢ 0 → n ≡ m
one_size_only lane c n m h k some =
    let s = a_symbol lane in
    let a = h.some some s.0 s.1 in
    let b = k.front s.0 s.1 a.0 [] a.2 in
    let d = k.some b.3 s.0 s.1 in
    let e = h.front s.0 s.1 d.0 [] d.2 in
    omega (arith, a.1, b.2, d.1, e.2)

pub some_size : (lane c n : ℕ) → IsSize lane c n → n ≢ 0 → IsSize lane c 0 → ⊥
some_size lane c n h some none = some (one_size_only lane c n 0 h none some)
