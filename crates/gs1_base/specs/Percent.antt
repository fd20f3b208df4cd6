-- Bytes written with percent-escapes, and what a reader finds in such a text (RFC 3986, sections
-- 2.1 to 2.3).
use Rattle.std.specs.Prelude.{◌≡◌, ℕ, ◌+◌, ◌-◌, ◌*◌, ◌/◌, ◌%◌, ◌<◌, Bool, true, ◌==◌, ◌&&◌, ◌||◌}
use Rattle.std.specs.Prelude.{nat_lt, if◌then◌else◌, List, [], ◌∷◌, drop, slice_index, All}
use Rattle.std.specs.List.{flat_map}
use Rattle.gs1_base.specs.Characters.{is_within, is_decimal_digit}
use Rattle.gs1_base.specs.Characters.{is_hexadecimal}
use Rattle.gs1_base.specs.declared.percent.PercentError.{PercentError}
use Rattle.gs1_base.specs.declared.percent.PercentError.TheVariants.{WrongCharacter, OutOfMemory}

-- ---- The writer

-- Letters, digits and four signs, which need no escape anywhere (RFC 3986, section 2.3).
abbrev pub is_unreserved : ℕ → Bool
is_unreserved c =
    (c == 0x2d) || (c == 0x2e) || is_decimal_digit c || is_within 0x41 0x5a c || (c == 0x5f)
    || is_within 0x61 0x7a c || (c == 0x7e)

-- The hexadecimal digit of a number, with capital letters.
abbrev pub capital_digit : ℕ → ℕ
capital_digit n = if nat_lt n 10 then 0x30 + n else 0x37 + n

-- A byte as it is written: itself, or a percent sign and two digits (RFC 3986, section 2.1).
unfoldable pub byte_escape : ℕ → List ℕ
byte_escape c =
    if is_unreserved c then c ∷ []
    else 0x25 ∷ capital_digit (c / 16) ∷ capital_digit (c % 16) ∷ []

-- Bytes with percent-escapes: letters, digits and `-._~` as they are, others as a percent sign and
-- two capital hexadecimal digits (RFC 3986, section 2).
abbrev pub percent_text : List ℕ → List ℕ
percent_text bytes = flat_map byte_escape bytes

-- ---- The reader

-- A character of a path or of a query that stands for itself (RFC 3986, sections 3.3 and 3.4).
abbrev pub stands_for_itself : ℕ → Bool
stands_for_itself c =
    (c == 0x21) || (c == 0x24) || is_within 0x26 0x3b c || (c == 0x3d) || is_within 0x3f 0x5a c
    || (c == 0x5f) || is_within 0x61 0x7a c || (c == 0x7e)

-- The number of a hexadecimal digit, whose letter may be small.
abbrev pub hexadecimal_value : ℕ → ℕ
hexadecimal_value c =
    if is_decimal_digit c then c - 0x30 else (if is_within 0x41 0x46 c then c - 0x37 else c - 0x57)

abbrev pub is_percent : ℕ → Bool
is_percent c = c == 0x25

-- A text begins with a byte: an escape, or a character that stands for itself.
unfoldable pub begins_with_byte : List ℕ → Bool
begins_with_byte text =
    if is_percent (slice_index text 0)
    then is_hexadecimal (slice_index text 1) && is_hexadecimal (slice_index text 2)
    else stands_for_itself (slice_index text 0)

-- The byte with which a text begins.
unfoldable pub first_byte : List ℕ → ℕ
first_byte text =
    if is_percent (slice_index text 0)
    then 16 * hexadecimal_value (slice_index text 1) + hexadecimal_value (slice_index text 2)
    else slice_index text 0

-- The text after this byte.
unfoldable pub after_byte : List ℕ → List ℕ
after_byte text = if is_percent (slice_index text 0) then drop 3 text else drop 1 text

-- A reader finds these bytes in the text. Example: `a%2fb` is read as `a/b`.
abbrev pub ReadsAs : List ℕ → List ℕ → Type 0
ReadsAs text [] = text ≡ []
ReadsAs text (byte ∷ bytes) =
    (begins_with_byte text ≡ true) × (first_byte text ≡ byte) × ReadsAs (after_byte text) bytes

-- A reader finds these bytes first, and has the rest of the text still to read.
abbrev pub ReadsBefore : List ℕ → List ℕ → List ℕ → Type 0
ReadsBefore text [] rest = text ≡ rest
ReadsBefore text (byte ∷ bytes) rest =
    (begins_with_byte text ≡ true) × (first_byte text ≡ byte)
    × ReadsBefore (after_byte text) bytes rest

-- A reader finds some bytes in the text, or none.
abbrev pub IsReadableText : List ℕ → Type 0
IsReadableText text = (bytes : List ℕ) × ReadsAs text bytes

abbrev pub IsUnreadableText : List ℕ → Type 0
IsUnreadableText text = (bytes : List ℕ) → ReadsAs text bytes → ⊥

-- When each error is returned: out of memory only where a reader finds bytes.
abbrev pub IsRefusedEscapes : List ℕ → PercentError → Type 0
IsRefusedEscapes text WrongCharacter = IsUnreadableText text
IsRefusedEscapes text OutOfMemory = IsReadableText text

-- What is written is read as the same bytes, and no text is read as two.
pub record HaveOneText : Type 0 where
  pub back : (bytes : List ℕ) → All (λ byte. byte < 256) bytes → ReadsAs (percent_text bytes) bytes
  pub alone : (text first second : List ℕ) → ReadsAs text first → ReadsAs text second →
      first ≡ second
