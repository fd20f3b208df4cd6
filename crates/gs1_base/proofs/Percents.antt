-- Percent-escapes: what is written is read, and no text is read as two.
use Rattle.std.proofs.Common.{◌≡◌, ℕ, ◌+◌, ◌*◌, ◌/◌, ◌%◌, ◌<◌, true, false, cond, List, [], ◌∷◌, ◌++◌}
use Rattle.std.proofs.Common.{length, drop, refl, arith, ap, sym, subst, ◌∙◌, length-drop}
use Rattle.std.specs.Prelude.{◌≢◌, All, slice_index}
use Rattle.std.proofs.lemmas.Grind.{common_steps}
use Rattle.std.proofs.lemmas.List.Elements.{All-head, All-tail}
use Rattle.gs1_base.specs.Characters.{is_hexadecimal}
use Rattle.gs1_base.specs.Percent.{is_unreserved, capital_digit, byte_escape, percent_text, stands_for_itself}
use Rattle.gs1_base.specs.Percent.{hexadecimal_value, is_percent, begins_with_byte, first_byte, after_byte}
use Rattle.gs1_base.specs.Percent.{ReadsAs, ReadsBefore, HaveOneText}

-- ---- The writer and the reader

-- A text is read as a byte, and what is left.
pub record IsByteThen (text : List ℕ) (byte : ℕ) (rest : List ℕ) : Type 0 where
  pub begins : begins_with_byte text ≡ true
  pub is : first_byte text ≡ byte
  pub after : after_byte text ≡ rest

no_percent : (c : ℕ) → is_unreserved c ≡ true → is_percent c ≡ false
no_percent c e = grind (arith, common_steps)

itself : (c : ℕ) → is_unreserved c ≡ true → stands_for_itself c ≡ true
itself c e = grind (arith, common_steps)

capital_is_digit : (n : ℕ) → n < 16 → is_hexadecimal (capital_digit n) ≡ true
capital_is_digit n e = grind (arith, common_steps)

capital_value : (n : ℕ) → n < 16 → hexadecimal_value (capital_digit n) ≡ n
capital_value n e = grind (arith, common_steps)

plain_then : (c : ℕ) (rest : List ℕ) → is_unreserved c ≡ true → IsByteThen (c ∷ rest) c rest
unfolding begins_with_byte first_byte after_byte
plain_then c rest e = record {
  begins = rw (no_percent c e) (itself c e);
  is = rw (no_percent c e) refl;
  after = rw (no_percent c e) refl;
}

escape_then : (high low : ℕ) (rest : List ℕ) → high < 16 → low < 16 →
    IsByteThen (0x25 ∷ capital_digit high ∷ capital_digit low ∷ rest) (16 * high + low) rest
unfolding begins_with_byte first_byte after_byte
escape_then high low rest h l = record {
  begins = rw (capital_is_digit high h, capital_is_digit low l) refl;
  is = rw (capital_value high h, capital_value low l) refl;
  after = refl;
}

pub escape_read : (c : ℕ) (rest : List ℕ) → c < 256 → IsByteThen (byte_escape c ++ rest) c rest
unfolding byte_escape
escape_read c rest small =
    elim (is_unreserved c) as (λ b. is_unreserved c ≡ b →
    IsByteThen (cond b (c ∷ []) (0x25 ∷ capital_digit (c / 16) ∷ capital_digit (c % 16) ∷ []) ++ rest) c rest) [
      | true ↦ λ e. plain_then c rest e
      | false ↦ λ e.
          (let P : ℕ → Type 0 = λ n. IsByteThen (0x25 ∷ capital_digit (c / 16) ∷ capital_digit (c % 16) ∷ rest) n rest in
          let whole : 16 * (c / 16) + c % 16 ≡ c = omega arith in
          subst P whole (escape_then (c / 16) (c % 16) rest (omega arith) (omega arith)))
    ] refl

pub escaped_read : (bytes : List ℕ) → All (λ byte. byte < 256) bytes → ReadsAs (percent_text bytes) bytes
escaped_read [] all = refl
escaped_read (c ∷ bytes) all =
    let here = escape_read c (percent_text bytes) (All-head (λ byte. byte < 256) c bytes all) in
    let P : List ℕ → Type 0 = λ text. ReadsAs text bytes in
    (here.begins, here.is, subst P (sym here.after) (escaped_read bytes (All-tail (λ byte. byte < 256) c bytes all)))

pub no_byte : (text : List ℕ) → text ≡ [] → begins_with_byte text ≡ true → ⊥
unfolding begins_with_byte
no_byte [] none e = let h : false ≡ true = e in cc
no_byte (c ∷ text) none e = let h : c ∷ text ≡ [] = none in cc

pub one_text : (text first second : List ℕ) → ReadsAs text first → ReadsAs text second → first ≡ second
one_text text [] [] one other = refl
one_text text [] (y ∷ ys) one other = absurd (no_byte text one other.0)
one_text text (x ∷ xs) [] one other = absurd (no_byte text other one.0)
one_text text (x ∷ xs) (y ∷ ys) one other =
    let heads : x ≡ y = sym one.1 ∙ other.1 in
    let tails : xs ≡ ys = one_text (after_byte text) xs ys one.2 other.2 in
    ap (λ c. c ∷ xs) heads ∙ ap (λ bytes. y ∷ bytes) tails

pub have_one_text : HaveOneText
have_one_text = record { back = escaped_read; alone = one_text }

-- ---- The loops

-- One byte more.
pub read_more : (text before rest : List ℕ) (byte : ℕ) → ReadsBefore text before rest → begins_with_byte rest ≡ true →
    first_byte rest ≡ byte → ReadsBefore text (before ++ byte ∷ []) (after_byte rest)
read_more text [] rest byte read begins is =
    let P : List ℕ → Type 0 = λ t. ReadsBefore t (byte ∷ []) (after_byte rest) in
    subst P (sym read) (begins, is, refl)
read_more text (x ∷ before) rest byte read begins is =
    (read.0, read.1, read_more (after_byte text) before rest byte read.2 begins is)

-- Nothing is left.
pub read_all : (text bytes rest : List ℕ) → ReadsBefore text bytes rest → rest ≡ [] → ReadsAs text bytes
read_all text [] rest read none = read ∙ none
read_all text (x ∷ bytes) rest read none = (read.0, read.1, read_all (after_byte text) bytes rest read.2 none)

-- Where a reader finds bytes in the whole, what is left begins with one.
pub never_stuck : (text all before rest : List ℕ) → ReadsAs text all → ReadsBefore text before rest → rest ≢ [] →
    begins_with_byte rest ≡ false → ⊥
never_stuck text [] [] rest found here more none = more (sym here ∙ found)
never_stuck text (x ∷ all) [] rest found here more none =
    let yes : begins_with_byte rest ≡ true = subst (λ t. begins_with_byte t ≡ true) here found.0 in
    let h : true ≡ false = sym yes ∙ none in cc
never_stuck text [] (y ∷ before) rest found here more none = no_byte text found here.0
never_stuck text (x ∷ all) (y ∷ before) rest found here more none =
    never_stuck (after_byte text) all before rest found.2 here.2 more none

pub after_shorter : (text : List ℕ) → 0 < length text → length (after_byte text) < length text
unfolding after_byte
after_shorter text some =
    elim (is_percent (slice_index text 0)) as (λ b. length (cond b (drop 3 text) (drop 1 text)) < length text) [
      | true ↦ omega (arith, length-drop 3 text)
      | false ↦ omega (arith, length-drop 1 text)
    ]
