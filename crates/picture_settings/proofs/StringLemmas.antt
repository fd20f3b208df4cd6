-- The bytes of a string of PostScript, and what a reader finds.
use Rattle.std.proofs.Common.{◌≡◌, ℕ, zero, suc, ◌+◌, ◌-◌, ◌*◌, ◌/◌, ◌%◌, ◌<◌, ◌≤◌, Bool, true, false, List, [], ◌∷◌, ◌++◌, length, length-append, refl, ◌∙◌, ap}
use Rattle.std.proofs.Common.{arith, append-nil, take, get_or}
use Rattle.std.specs.Prelude.{Some, option_map, ◌==◌, ◌&&◌, ◌||◌, flat_map, nat_lt, nat_le, if◌then◌else◌}
use Rattle.std.specs.List.{list_all}
use Rattle.std.proofs.lemmas.{Bool.ne_eqb, Grind.flat_map-append}
use Rattle.std.proofs.lemmas.Bool.Decides.{nat_tests}
use Rattle.std.proofs.lemmas.Bool.{le-leb}
use Rattle.std.proofs.lemmas.List.{take_more}
use Rattle.picture_settings.specs.PostScript.{string_escape, string_text, is_string_mark, is_octal, read_octal, read_byte, read_string_bytes, StringsAreRead}

pub text_none : string_text [] ≡ []
unfolding string_text
text_none = refl

-- one byte more
pub text_more : (bytes : List ℕ) (i : ℕ) → i < length bytes → string_text (take (i + 1) bytes) ≡ string_text (take i bytes) ++ string_escape (get_or bytes i 0)
unfolding string_text
text_more bytes i below =
    ap (flat_map string_escape) (take_more bytes i 0 below)
    ∙ flat_map-append string_escape (take i bytes) (get_or bytes i 0 ∷ [])
    ∙ ap (λ l. flat_map string_escape (take i bytes) ++ l) (append-nil (string_escape (get_or bytes i 0)))

pub ruleset strings = (text_none, text_more)

-- each way of writing takes one
written : (mark printed : Bool) (b : ℕ) → 0 < length (if mark then 92 ∷ b ∷ [] else (if printed then b ∷ [] else
    92 ∷ (48 + b / 64) ∷ (48 + b / 8 % 8) ∷ (48 + b % 8) ∷ []))
written true printed b = omega arith
written false true b = omega arith
written false false b = omega arith

-- a byte takes a character at least
some_written : (b : ℕ) → 0 < length (string_escape b)
some_written b = written (is_string_mark b) (nat_le 32 b && nat_le b 126) b

-- bytes take as many characters at least
pub text_long : (bytes : List ℕ) → length bytes ≤ length (string_text bytes)
unfolding string_text
text_long [] = omega arith
text_long (b ∷ bytes) = omega (arith, some_written b, text_long bytes, length-append (string_escape b) (string_text bytes))

-- ---- A reader finds the bytes

-- the digits of a byte are octal
octal_digits : (a b c : ℕ) → a < 8 → b < 8 → c < 8 → (is_octal (48 + a) && (is_octal (48 + b) && is_octal (48 + c))) ≡ true
octal_digits a b c first second third =
    rw (
      le-leb 48 (48 + a) (omega arith),
      le-leb (48 + a) 55 (omega arith),
      le-leb 48 (48 + b) (omega arith),
      le-leb (48 + b) 55 (omega arith),
      le-leb 48 (48 + c) (omega arith),
      le-leb (48 + c) 55 (omega arith),
    ) refl

octal_read : (b : ℕ) (rest : List ℕ) → b < 256 → read_octal ((48 + b / 64) ∷ (48 + b / 8 % 8) ∷ (48 + b % 8) ∷ rest) ≡ Some (b, rest)
octal_read b rest byte =
    let value : (48 + b / 64 - 48) * 64 + (48 + b / 8 % 8 - 48) * 8 + (48 + b % 8 - 48) ≡ b = omega arith in
    rw (octal_digits (b / 64) (b / 8 % 8) (b % 8) (omega arith) (omega arith) (omega arith), value) refl

both_false : (a b : Bool) → (a || b) ≡ false → (a ≡ false) × (b ≡ false)
both_false false b holds = (refl, holds)
both_false true b holds = cc

-- a digit is no mark
digit_no_mark : (a : ℕ) → a < 8 → is_string_mark (48 + a) ≡ false
digit_no_mark a small = rw (ne_eqb (48 + a) 40 (λ e. omega arith), ne_eqb (48 + a) 41 (λ e. omega arith), ne_eqb (48 + a) 92 (λ e. omega arith)) refl

-- a reader finds a byte, whichever way it is written
one_read : (b : ℕ) (rest : List ℕ) → b < 256 → (mark printed : Bool) → is_string_mark b ≡ mark → (nat_le 32 b && nat_le b 126) ≡ printed →
    read_byte (string_escape b ++ rest) ≡ Some (b, rest)
one_read b rest byte true printed marked how = rw (marked, marked) refl
one_read b rest byte false true marked how =
    let first = both_false (b == 40) ((b == 41) || (b == 92)) marked in
    let second = both_false (b == 41) (b == 92) first.1 in
    rw (first.0, second.0, second.1, how) (rw (first.0, second.0, second.1) refl)
one_read b rest byte false false marked how =
    rw (marked, how) (rw (digit_no_mark (b / 64) (omega arith)) (octal_read b rest byte))

byte_read : (b : ℕ) (rest : List ℕ) → nat_lt b 256 ≡ true → read_byte (string_escape b ++ rest) ≡ Some (b, rest)
byte_read b rest byte = one_read b rest (grind (arith, nat_tests)) (is_string_mark b) (nat_le 32 b && nat_le b 126) refl refl

-- a reader that has found a byte goes on after it
goes_on : (n : ℕ) (text : List ℕ) (r : ℕ × List ℕ) → read_byte text ≡ Some r →
    read_string_bytes (suc n) text ≡ option_map (λ found. r.0 ∷ found) (read_string_bytes n r.1)
unfolding read_string_bytes
goes_on n [] r found = cc
goes_on n (c ∷ text) r found = rw (found, read_string_bytes) refl

both : (a b : Bool) → (a && b) ≡ true → (a ≡ true) × (b ≡ true)
both true b holds = (refl, holds)
both false b holds = cc

-- a reader finds some bytes
bytes_read : (bytes : List ℕ) (n : ℕ) → list_all (λ b. nat_lt b 256) bytes ≡ true → length (string_text bytes) ≤ n →
    read_string_bytes n (string_text bytes) ≡ Some bytes
unfolding string_text read_string_bytes
bytes_read [] zero allowed few = refl
bytes_read [] (suc n) allowed few = refl
bytes_read (b ∷ bytes) zero allowed few = absurd (omega (arith, some_written b, length-append (string_escape b) (string_text bytes)))
bytes_read (b ∷ bytes) (suc n) allowed few =
    let each = both (nat_lt b 256) (list_all (λ x. nat_lt x 256) bytes) allowed in
    let left : length (string_text bytes) ≤ n = omega (arith, some_written b, length-append (string_escape b) (string_text bytes)) in
    goes_on n (string_escape b ++ string_text bytes) (b, string_text bytes) (byte_read b (string_text bytes) each.0)
    ∙ ap (option_map (λ found. b ∷ found)) (bytes_read bytes n each.1 left)

pub strings_are_read : StringsAreRead
strings_are_read bytes allowed = bytes_read bytes (length (string_text bytes)) allowed (omega arith)
