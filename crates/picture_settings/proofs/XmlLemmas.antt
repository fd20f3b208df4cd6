-- The characters of a text in XML, and what a reader finds.
use Rattle.std.proofs.Common.{◌≡◌, ℕ, zero, suc, ◌<◌, ◌≤◌, Bool, true, false, List, [], ◌∷◌, ◌++◌, length, length-append, refl, ◌∙◌, ap}
use Rattle.std.proofs.Common.{arith, inl, inr, append-nil}
use Rattle.std.specs.Prelude.{Some, option_map, ◌==◌, ◌&&◌, chars, encode_utf8_all, flat_map}
use Rattle.std.specs.List.{list_all}
use Rattle.std.proofs.lemmas.{Bool.cases_eq, Bool.ne_eqb, Grind.flat_map-append, Str.encodes-append}
use Rattle.picture_settings.specs.Xml.{is_xml_character, escape, escaped, read_character, read_characters, TextsAreRead}

pub escaped_none : encode_utf8_all (escaped []) ≡ []
unfolding escaped
escaped_none = refl

-- one character more
pub escaped_more : (cs : List ℕ) (c : ℕ) → encode_utf8_all (escaped (cs ++ c ∷ [])) ≡ encode_utf8_all (escaped cs) ++ encode_utf8_all (escape c)
unfolding escaped
escaped_more cs c =
    ap encode_utf8_all (flat_map-append escape cs (c ∷ []) ∙ ap (λ l. flat_map escape cs ++ l) (append-nil (escape c)))
    ∙ encodes-append (flat_map escape cs) (escape c)

pub ruleset characters = (escaped_none, escaped_more)

-- a reader finds a character that is no reference
plain_read : (c : ℕ) (rest : List ℕ) → is_xml_character c ≡ true → (c == 38) ≡ false → (c == 60) ≡ false → (c == 62) ≡ false →
    (c == 34) ≡ false → (c == 13) ≡ false → read_character (escape c ++ rest) ≡ Some (c, rest)
plain_read c rest allowed a b d e f =
    let kept : escape c ≡ c ∷ [] = rw (a, b, d, e, f) refl in
    rw (kept, a, allowed, b, f) refl

-- a reader finds a character
character_read : (c : ℕ) (rest : List ℕ) → is_xml_character c ≡ true → read_character (escape c ++ rest) ≡ Some (c, rest)
character_read c rest allowed =
    elim (cases_eq c 38) [
      | inl is ↦ rw is refl
      | inr a ↦
          elim (cases_eq c 60) [
            | inl is ↦ rw is refl
            | inr b ↦
                elim (cases_eq c 62) [
                  | inl is ↦ rw is refl
                  | inr d ↦
                      elim (cases_eq c 34) [
                        | inl is ↦ rw is refl
                        | inr e ↦
                            elim (cases_eq c 13) [
                              | inl is ↦ rw is refl
                              | inr f ↦
                                  plain_read c rest allowed (ne_eqb c 38 a) (ne_eqb c 60 b) (ne_eqb c 62 d) (ne_eqb c 34 e) (ne_eqb c 13 f)
                            ]
                      ]
                ]
          ]
    ]

-- a character is written as at least one
some_written : (c : ℕ) → 0 < length (escape c)
some_written c =
    elim (cases_eq c 38) [
      | inl is ↦ rw is (omega arith)
      | inr a ↦
          elim (cases_eq c 60) [
            | inl is ↦ rw is (omega arith)
            | inr b ↦
                elim (cases_eq c 62) [
                  | inl is ↦ rw is (omega arith)
                  | inr d ↦
                      elim (cases_eq c 34) [
                        | inl is ↦ rw is (omega arith)
                        | inr e ↦
                            elim (cases_eq c 13) [
                              | inl is ↦ rw is (omega arith)
                              | inr f ↦
                                  (let kept : escape c ≡ c ∷ [] = rw
                                  (ne_eqb c 38 a, ne_eqb c 60 b, ne_eqb c 62 d, ne_eqb c 34 e, ne_eqb c 13 f) refl in rw kept (omega arith))
                            ]
                      ]
                ]
          ]
    ]

-- a reader that has found a character goes on after it
goes_on : (n : ℕ) (text : List ℕ) (r : ℕ × List ℕ) → read_character text ≡ Some r →
    read_characters (suc n) text ≡ option_map (λ found. r.0 ∷ found) (read_characters n r.1)
unfolding read_characters
goes_on n [] r found = cc
goes_on n (c ∷ text) r found = rw (found, read_characters) refl

both : (a b : Bool) → (a && b) ≡ true → (a ≡ true) × (b ≡ true)
both true b holds = (refl, holds)
both false b holds = cc

-- a reader finds some characters
characters_read : (cs : List ℕ) (n : ℕ) → list_all is_xml_character cs ≡ true → length (escaped cs) ≤ n → read_characters n (escaped cs) ≡ Some cs
unfolding escaped read_characters
characters_read [] zero allowed few = refl
characters_read [] (suc n) allowed few = refl
characters_read (c ∷ cs) zero allowed few = absurd (omega (arith, some_written c, length-append (escape c) (escaped cs)))
characters_read (c ∷ cs) (suc n) allowed few =
    let each = both (is_xml_character c) (list_all is_xml_character cs) allowed in
    let left : length (escaped cs) ≤ n = omega (arith, some_written c, length-append (escape c) (escaped cs)) in
    goes_on n (escape c ++ escaped cs) (c, escaped cs) (character_read c (escaped cs) each.0)
    ∙ ap (option_map (λ found. c ∷ found)) (characters_read cs n each.1 left)

pub texts_are_read : TextsAreRead
texts_are_read text allowed = characters_read (chars text) (length (escaped (chars text))) allowed (omega arith)
