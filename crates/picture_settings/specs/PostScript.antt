-- Strings of PostScript (Adobe, "PostScript Language Reference", third edition, 3.2.2): how bytes
-- are written in them, and how a reader finds the bytes.
use Rattle.std.specs.Prelude.{◌≡◌, ℕ, zero, suc, ◌+◌, ◌-◌, ◌*◌, ◌/◌, ◌%◌, ◌==◌}
use Rattle.std.specs.Prelude.{Bool, true, ◌&&◌, ◌||◌}
use Rattle.std.specs.Prelude.{nat_le, nat_lt, if◌then◌else◌, List, [], ◌∷◌, length, flat_map}
use Rattle.std.specs.Prelude.{Option, None, Some, option_map}
use Rattle.std.specs.List.{list_all}

-- A byte that ends a string, begins another in it, or begins an escape: a parenthesis, or
-- a backslash.
abbrev pub is_string_mark : ℕ → Bool
is_string_mark b = (b == 40) || ((b == 41) || (b == 92))

-- A byte as it is written: after a backslash, where it is such a mark, and by three octal digits,
-- where it is no character of ASCII that is printed.
abbrev pub string_escape : ℕ → List ℕ
string_escape b =
    if is_string_mark b then 92 ∷ b ∷ [] else
    (if nat_le 32 b && nat_le b 126 then b ∷ [] else
    92 ∷ (48 + b / 64) ∷ (48 + b / 8 % 8) ∷ (48 + b % 8) ∷ [])

-- The bytes of a text as they are written.
unfoldable pub string_text : List ℕ → List ℕ
string_text bytes = flat_map string_escape bytes

-- An octal digit.
abbrev pub is_octal : ℕ → Bool
is_octal d = nat_le 48 d && nat_le d 55

-- What three octal digits mean at the beginning of a text, and what follows them.
abbrev pub read_octal : List ℕ → Option (ℕ × List ℕ)
read_octal (a ∷ b ∷ c ∷ text) =
    if is_octal a && (is_octal b && is_octal c)
    then Some ((a - 48) * 64 + (b - 48) * 8 + (c - 48), text) else None
read_octal _ = None

-- What an escape means, by what follows the backslash, and what follows it.
abbrev pub read_escape : List ℕ → Option (ℕ × List ℕ)
read_escape [] = None
read_escape (c ∷ text) = if is_string_mark c then Some (c, text) else read_octal (c ∷ text)

-- The first byte of a text in a string, and what follows it.
abbrev pub read_byte : List ℕ → Option (ℕ × List ℕ)
read_byte [] = None
read_byte (c ∷ text) =
    if c == 92 then read_escape text else (if is_string_mark c then None else Some (c, text))

-- The bytes of a text in a string, at most n of them.
unfoldable pub read_string_bytes : ℕ → List ℕ → Option (List ℕ)
read_string_bytes _ [] = Some []
read_string_bytes zero (c ∷ text) = None
read_string_bytes (suc n) (c ∷ text) =
    elim (read_byte (c ∷ text)) [
      | None ↦ None
      | Some r ↦ option_map (λ found. r.0 ∷ found) (read_string_bytes n r.1)
    ]

-- The bytes that a reader finds in a string.
abbrev pub read_string : List ℕ → Option (List ℕ)
read_string text = read_string_bytes (length text) text

-- A law of titles: a reader finds exactly these bytes.
abbrev pub StringsAreRead : Type 0
StringsAreRead = (bytes : List ℕ) → list_all (λ b. nat_lt b 256) bytes ≡ true →
    read_string (string_text bytes) ≡ Some bytes
