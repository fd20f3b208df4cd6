-- Which texts a Micro symbol can be read as: those of ASCII, and those of which each character is
-- read beside Kanji segments.
use Rattle.std.proofs.Common.{◌≡◌, ◌≢◌, ℕ, pos, ◌<◌, ◌≤◌, Bool, true, false, ◌||◌, ◌&&◌, List, []}
use Rattle.std.proofs.Common.{◌∷◌, ◌++◌}
use Rattle.std.proofs.Common.{◌⊎◌, inl, inr, refl, sym, ap, append-nil, subst, ◌∙◌, arith}
use Rattle.std.specs.Prelude.{◌↔◌, All, IsTrue, Option, None, Some}
use Rattle.std.specs.List.{list_all}
use Rattle.std.proofs.lemmas.Grind.{common_steps}
use Rattle.std.proofs.lemmas.List.Elements.{All-append, All-cons, All-contains, All-head, All-nil}
use Rattle.std.proofs.lemmas.List.Elements.{All-push, All-tail}
use Rattle.std.proofs.lemmas.List.Sums.{AllPass-from_list_all}
use Rattle.std.proofs.lemmas.Option.{same_Some}
use Rattle.qrcode_base.proofs.Alphabet.{is_alphanumeric-inside}
use Rattle.qrcode_base.specs.Characters.{alphabet, is_alphanumeric, is_between}
use Rattle.qrcode_base.specs.declared.types.Mode.{Mode}
use Rattle.qrcode_base.specs.declared.types.Mode.TheVariants.{Numeric, Alphanumeric, Byte, Kanji}
use Rattle.qrcode_base.specs.declared.types.Version.TheVariants.{Micro}
use Rattle.character_sets.specs.Bytes.{ascii_character, common_character}
use Rattle.character_sets.specs.Reading.{Part, designator, segment, joined, each_of, read_kanji}
use Rattle.character_sets.specs.Reading.{read_bytes, read_segment, read_parts}
use Rattle.character_sets.specs.Reading.{alphanumeric_character, digit_character, has_kanji}
use Rattle.character_sets.specs.Reading.{has_no_designator, pair_character}
use Rattle.text_plans.specs.Costs.{HasPart}
use Rattle.smallest_symbols.specs.MicroTexts.{IsAsciiCharacter, HasMicroParts, IsMixedCharacter}
use Rattle.smallest_symbols.proofs.Valid.{joined_says, put_says, if_some, no_one, within}

-- ---- What is read is of these characters

module _ (P : ℕ → Type 0) (character : ℕ → Option ℕ) (right : (byte c : ℕ) → character byte ≡ Some c → P c) where
  each_is : (bytes text : List ℕ) → each_of character bytes ≡ Some text → All P text
  unfolding each_of
  each_is [] text h = subst (All P) (same_Some [] text h) (All-nil P)
  each_is (byte ∷ bytes) text h =
      let w = put_says (character byte) (each_of character bytes) text h in
      rw w.4 (All-cons P w.0 w.1 (right byte w.0 w.2) (each_is bytes w.1 w.3))

ascii_is : (byte c : ℕ) → ascii_character byte ≡ Some c → IsAsciiCharacter c
ascii_is byte c h = grind (arith, common_steps)

common_is : (byte c : ℕ) → common_character byte ≡ Some c → (c ≡ byte) × (c < 128)
common_is byte c h = grind (arith, common_steps)

mixed_is : (byte c : ℕ) → common_character byte ≡ Some c → IsMixedCharacter c
mixed_is byte c h = inl (subst (λ (b : ℕ). common_character b ≡ Some c) (sym (common_is byte c h).0) h)

common_from : (c : ℕ) → c ≤ 0x5b → common_character c ≡ Some c
common_from c h = grind (arith, common_steps)

-- The test of a common character.
pub common_from_test : (c : ℕ) → (common_character c ≡ Some c → (c < 128) × (c ≢ 92) × (c ≢ 126))
    × (c < 128 → c ≢ 92 → c ≢ 126 → common_character c ≡ Some c)
common_from_test c = (common_to c, λ h k l. grind (arith, common_steps))
  where
    common_to : (c : ℕ) → common_character c ≡ Some c → (c < 128) × (c ≢ 92) × (c ≢ 126)
    common_to c h = grind (arith, common_steps)

-- the characters of the Alphanumeric mode are below 5C (hex)
low_alphabet : list_all (λ c. is_between 0 0x5b c) alphabet ≡ true
low_alphabet = refl

pub letter_low : (c : ℕ) → is_alphanumeric c ≡ true → c ≤ 0x5b
letter_low c h =
    (within 0 0x5b c (All-contains (λ (x : ℕ). is_between 0 0x5b x ≡ true) alphabet c (AllPass-from_list_all (is_between 0 0x5b) alphabet low_alphabet)
    (is_alphanumeric-inside c h))).1

letter_common : (byte c : ℕ) → alphanumeric_character byte ≡ Some c → common_character c ≡ Some c
letter_common byte c h =
    let w = if_some (is_alphanumeric byte) byte c h in
    subst (λ (x : ℕ). common_character x ≡ Some x) (same_Some byte c w.1) (common_from byte (letter_low byte w.0))

digit_common : (byte c : ℕ) → digit_character byte ≡ Some c → common_character c ≡ Some c
digit_common byte c h =
    let w = if_some (is_between 48 57 byte) byte c h in
    let k = (within 48 57 byte w.0).1 in
    subst (λ (x : ℕ). common_character x ≡ Some x) (same_Some byte c w.1) (common_from byte (omega (arith, k)))

-- Each of these is of ASCII too.
common_ascii : (c : ℕ) → common_character c ≡ Some c → IsAsciiCharacter c
common_ascii c h = (common_is c c h).1

kanji_is : (bytes text : List ℕ) → read_kanji bytes ≡ Some text → All IsMixedCharacter text
unfolding read_kanji
kanji_is [] text h = subst (All IsMixedCharacter) (same_Some [] text h) (All-nil IsMixedCharacter)
kanji_is (lead ∷ []) text h = absurd (no_one text h)
kanji_is (lead ∷ trail ∷ bytes) text h =
    let w = put_says (pair_character lead trail) (read_kanji bytes) text h in
    rw w.4 (All-cons IsMixedCharacter w.0 w.1 (inr (lead, trail, w.2)) (kanji_is bytes w.1 w.3))

-- The parts of a Micro symbol beside Kanji segments,
mixed_parts : (parts : List Part) (text : List ℕ) → All (HasPart (Micro (pos 4))) parts → read_parts true true None parts ≡ Some text →
    All IsMixedCharacter text
unfolding read_parts read_segment read_bytes
mixed_parts [] text has h = subst (All IsMixedCharacter) (same_Some [] text h) (All-nil IsMixedCharacter)
mixed_parts (designator number ∷ parts) text has h = absurd (All-head (HasPart (Micro (pos 4))) (designator number) parts has)
mixed_parts (segment mode bytes ∷ parts) text has h =
    let w = joined_says (read_segment true true None mode bytes) (read_parts true true None parts) text h in
    let rest = mixed_parts parts w.1 (All-tail (HasPart (Micro (pos 4))) (segment mode bytes) parts has) w.3 in
    rw w.4 (All-append IsMixedCharacter w.0 w.1 (here mode w.2) rest)
  where
    here : (mode : Mode) {xs : List ℕ} → read_segment true true None mode bytes ≡ Some xs → All IsMixedCharacter xs
    here Numeric {xs = xs} h = each_is IsMixedCharacter digit_character (λ byte c e. inl (digit_common byte c e)) bytes xs h
    here Alphanumeric {xs = xs} h = each_is IsMixedCharacter alphanumeric_character (λ byte c e. inl (letter_common byte c e)) bytes xs h
    here Byte {xs = xs} h = each_is IsMixedCharacter common_character mixed_is bytes xs h
    here Kanji {xs = xs} h = kanji_is bytes xs h

-- and without them.
ascii_parts : (parts : List Part) (text : List ℕ) → All (HasPart (Micro (pos 4))) parts → has_kanji parts ≡ false →
    read_parts true false None parts ≡ Some text → All IsAsciiCharacter text
unfolding read_parts read_segment read_bytes has_kanji
ascii_parts [] text has none h = subst (All IsAsciiCharacter) (same_Some [] text h) (All-nil IsAsciiCharacter)
ascii_parts (designator number ∷ parts) text has none h = absurd (All-head (HasPart (Micro (pos 4))) (designator number) parts has)
ascii_parts (segment Numeric bytes ∷ parts) text has none h =
    let w = joined_says (each_of digit_character bytes) (read_parts true false None parts) text h in
    let rest = ascii_parts parts w.1 (All-tail (HasPart (Micro (pos 4))) (segment Numeric bytes) parts has) none w.3 in
    rw w.4 (All-append IsAsciiCharacter w.0 w.1
    (each_is IsAsciiCharacter digit_character (λ byte c e. common_ascii c (digit_common byte c e)) bytes w.0 w.2) rest)
ascii_parts (segment Alphanumeric bytes ∷ parts) text has none h =
    let w = joined_says (each_of alphanumeric_character bytes) (read_parts true false None parts) text h in
    let rest = ascii_parts parts w.1 (All-tail (HasPart (Micro (pos 4))) (segment Alphanumeric bytes) parts has) none w.3 in
    rw w.4 (All-append IsAsciiCharacter w.0 w.1
    (each_is IsAsciiCharacter alphanumeric_character (λ byte c e. common_ascii c (letter_common byte c e)) bytes w.0 w.2) rest)
ascii_parts (segment Byte bytes ∷ parts) text has none h =
    let w = joined_says (each_of ascii_character bytes) (read_parts true false None parts) text h in
    let rest = ascii_parts parts w.1 (All-tail (HasPart (Micro (pos 4))) (segment Byte bytes) parts has) none w.3 in
    rw w.4 (All-append IsAsciiCharacter w.0 w.1 (each_is IsAsciiCharacter ascii_character ascii_is bytes w.0 w.2) rest)
ascii_parts (segment Kanji bytes ∷ parts) text has none h = absurd (let e : true ≡ false = none in cc)

-- A Micro symbol has no designators.
plain_parts : (parts : List Part) → All (HasPart (Micro (pos 4))) parts → has_no_designator parts ≡ true
unfolding has_no_designator
plain_parts [] has = refl
plain_parts (designator number ∷ parts) has = absurd (All-head (HasPart (Micro (pos 4))) (designator number) parts has)
plain_parts (segment mode bytes ∷ parts) has = plain_parts parts (All-tail (HasPart (Micro (pos 4))) (segment mode bytes) parts has)

of_kanji : (b : Bool) → (b ≡ true) ⊎ (b ≡ false)
of_kanji true = inl refl
of_kanji false = inr refl

-- The texts that are read.
micro_is : (text : List ℕ) → HasMicroParts text → All IsAsciiCharacter text ⊎ All IsMixedCharacter text
micro_is text (parts, w) =
    let plain = plain_parts parts w.had in
    let read = subst (λ (b : Bool). read_parts b (has_kanji parts) None parts ≡ Some text) plain w.read in
    elim (of_kanji (has_kanji parts)) [
      | inl e ↦ inr (mixed_parts parts text w.had (subst (λ (b : Bool). read_parts true b None parts ≡ Some text) e read))
      | inr e ↦ inl (ascii_parts parts text w.had e (subst (λ (b : Bool). read_parts true b None parts ≡ Some text) e read))
    ]

-- ---- Texts of these characters are read

each_ascii : (text : List ℕ) → All IsAsciiCharacter text → each_of ascii_character text ≡ Some text
unfolding each_of
each_ascii [] h = refl
each_ascii (c ∷ text) h =
    let here : ascii_character c ≡ Some c = ascii_from c (All-head IsAsciiCharacter c text h) in
    rw here (rw (each_ascii text (All-tail IsAsciiCharacter c text h)) refl)
  where
    ascii_from : (c : ℕ) → c < 128 → ascii_character c ≡ Some c
    ascii_from c h = grind (arith, common_steps)

ascii_micro : (text : List ℕ) → All IsAsciiCharacter text → HasMicroParts text
unfolding read_parts has_no_designator has_kanji read_segment read_bytes
ascii_micro [] h = ([], record { read = refl; had = All-nil (HasPart (Micro (pos 4))) })
ascii_micro (c ∷ text) h =
    let bytes = c ∷ text in (
      segment Byte bytes ∷ [],
      record {
        read = ap (λ (t : Option (List ℕ)). joined t (Some [])) (each_ascii bytes h) ∙ ap (λ (t : List ℕ). Some t) (append-nil bytes);
        had = All-cons (HasPart (Micro (pos 4))) (segment Byte bytes) [] (omega arith, λ e. cc) (All-nil (HasPart (Micro (pos 4))));
      },
    )

-- Parts of single characters, which are read alike with Kanji segments and without.
record AreSingle (parts : List Part) (text : List ℕ) : Type 0 where
  plain : has_no_designator parts ≡ true
  read : (mixed : Bool) → read_parts true mixed None parts ≡ Some text
  had : All (HasPart (Micro (pos 4))) parts

single_common : (c : ℕ) (text : List ℕ) (parts : List Part) → common_character c ≡ Some c → AreSingle parts text →
    AreSingle (segment Byte (c ∷ []) ∷ parts) (c ∷ text)
unfolding read_parts has_no_designator read_segment read_bytes each_of
single_common c text parts h s = record {
  plain = s.plain;
  read = read_both;
  had = All-cons (HasPart (Micro (pos 4))) (segment Byte (c ∷ [])) parts (omega arith, λ e. cc) s.had;
}
  where
    ascii : ascii_character c ≡ Some c
    ascii = let k = (common_is c c h).1 in grind (arith, common_steps)

    read_both : (mixed : Bool) → read_parts true mixed None (segment Byte (c ∷ []) ∷ parts) ≡ Some (c ∷ text)
    read_both true = rw h (rw (s.read true) refl)
    read_both false = rw ascii (rw (s.read false) refl)

single_pair : (c lead trail : ℕ) (text : List ℕ) (parts : List Part) → pair_character lead trail ≡ Some c → AreSingle parts text →
    AreSingle (segment Kanji (lead ∷ trail ∷ []) ∷ parts) (c ∷ text)
unfolding read_parts has_no_designator read_segment read_kanji
single_pair c lead trail text parts h s = record {
  plain = s.plain;
  read = λ mixed. rw h (rw (s.read mixed) refl);
  had = All-cons (HasPart (Micro (pos 4))) (segment Kanji (lead ∷ trail ∷ [])) parts (omega arith, λ e. cc) s.had;
}

singles : (text : List ℕ) → All IsMixedCharacter text → (parts : List Part) × AreSingle parts text
unfolding read_parts has_no_designator
singles [] h = ([], record { plain = refl; read = λ mixed. refl; had = All-nil (HasPart (Micro (pos 4))) })
singles (c ∷ text) h =
    let rest = singles text (All-tail IsMixedCharacter c text h) in
    elim (All-head IsMixedCharacter c text h) [
      | inl common ↦ (segment Byte (c ∷ []) ∷ rest.0, single_common c text rest.0 common rest.1)
      | inr pair ↦ (segment Kanji (pair.0 ∷ pair.1 ∷ []) ∷ rest.0, single_pair c pair.0 pair.1 text rest.0 pair.2 rest.1)
    ]

mixed_micro : (text : List ℕ) → All IsMixedCharacter text → HasMicroParts text
mixed_micro text h =
    let w = singles text h in
    (w.0, record { read = subst (λ (b : Bool). read_parts b (has_kanji w.0) None w.0 ≡ Some text) (sym w.1.plain) (w.1.read (has_kanji w.0)); had = w.1.had })

-- ---- The test

no_true : IsTrue false → ⊥
no_true h = cc

pub micro_test : (text : List ℕ) (ascii mixed : Bool) → IsTrue ascii ↔ All IsAsciiCharacter text → IsTrue mixed ↔ All IsMixedCharacter text →
    IsTrue (ascii || mixed) ↔ HasMicroParts text
micro_test text true mixed a m = (λ t. ascii_micro text (a.0 refl), λ w. refl)
micro_test text false true a m = (λ t. mixed_micro text (m.0 refl), λ w. refl)
micro_test text false false a m = (λ t. absurd (no_true t), λ w. elim (micro_is text w) [ inl e ↦ a.1 e | inr e ↦ m.1 e ])

-- One character more.
module _ (P : ℕ → Type 0) where
  pub test_more : (before : List ℕ) (c : ℕ) (b here : Bool) → IsTrue b ↔ All P before → IsTrue here ↔ P c → IsTrue (b && here) ↔ All P (before ++ c ∷ [])
  test_more before c true here h k = (λ t. All-push P before c (h.0 refl) (k.0 t), λ w. k.1 (last_all before c w).1)
    where
      last_all : (xs : List ℕ) (x : ℕ) → All P (xs ++ x ∷ []) → All P xs × P x
      last_all [] x w = (All-nil P, All-head P x [] w)
      last_all (y ∷ xs) x w =
          let rest = last_all xs x (All-tail P y (xs ++ x ∷ []) w) in
          (All-cons P y xs (All-head P y (xs ++ x ∷ []) w) rest.0, rest.1)
  test_more before c false here h k = (λ t. absurd (no_true t), λ w. h.1 (front_all before c w))
    where
      front_all : (xs : List ℕ) (x : ℕ) → All P (xs ++ x ∷ []) → All P xs
      front_all [] x w = All-nil P
      front_all (y ∷ xs) x w = All-cons P y xs (All-head P y (xs ++ x ∷ []) w) (front_all xs x (All-tail P y (xs ++ x ∷ []) w))
