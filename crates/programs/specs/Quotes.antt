-- Words in messages: where one has a control character it is quoted as a shell reads it, so that no
-- control character reaches a terminal.
use Rattle.std.specs.Prelude.{ℕ, ◌+◌, ◌/◌, ◌%◌, nat_le, nat_lt, ◌==◌, Bool, false, ◌&&◌, ◌||◌, not}
use Rattle.std.specs.Prelude.{if◌then◌else◌, Option, None, Some, List, [], ◌∷◌, ◌++◌, codes, flat_map, slice_index}

-- ---- Control characters

-- A character of ASCII that is printed, a space among them.
abbrev pub is_shown : ℕ → Bool
is_shown c = nat_le 32 c && nat_le c 126

-- A control character of ASCII.
abbrev pub is_ascii_control : ℕ → Bool
is_ascii_control c = nat_lt c 32 || (c == 127)

-- Whether a byte and the next one are a control character from U+0080 to U+009F in UTF-8, which is
-- C2 hex, and 80 to 9F, or the first is one of ASCII.
abbrev pub is_control : ℕ → ℕ → Bool
is_control first second =
    is_ascii_control first || ((first == 194) && (nat_le 128 second && nat_le second 159))

-- Whether a text in UTF-8 has a control character.
abbrev pub has_control : List ℕ → Bool
has_control [] = false
has_control (c ∷ rest) = is_control c (slice_index rest 0) || has_control rest

-- ---- Quotes

-- The letter of a control character in `$'..'` of a shell, as in C: `\a`, `\b`, `\t`, `\n`, `\v`,
-- `\f` and `\r`.
abbrev pub control_letter : ℕ → Option ℕ
control_letter c =
    if c == 7 then Some 97 else
    (if c == 8 then Some 98 else
    (if c == 9 then Some 116 else
    (if c == 10 then Some 110 else
    (if c == 11 then Some 118 else
    (if c == 12 then Some 102 else
    (if c == 13 then Some 114 else None))))))

-- A byte that is not printed, in `$'..'`: by its letter, or by three octal digits.
abbrev pub escape_text : ℕ → List ℕ
escape_text c =
    elim (control_letter c) [
      | Some letter ↦ 92 ∷ letter ∷ []
      | None ↦ 92 ∷ (48 + c / 64) ∷ (48 + (c / 8) % 8) ∷ (48 + c % 8) ∷ []
    ]

-- A byte within quotes, after one that was escaped or was not. `$'..'` stands around those that
-- are escaped, and a quote is `'\''`.
abbrev pub quoted_byte : (escaped : Bool) → ℕ → List ℕ
quoted_byte escaped c =
    if c == 39 then 39 ∷ 92 ∷ 39 ∷ 39 ∷ [] else
    (if is_shown c then (if escaped then codes "''" else []) ++ c ∷ []
    else (if escaped then [] else codes "'$'") ++ escape_text c)

-- The bytes that are left of a word, and the quote at its end.
abbrev pub quoted_from : (escaped : Bool) → List ℕ → List ℕ
quoted_from escaped [] = codes "'"
quoted_from escaped (c ∷ rest) = quoted_byte escaped c ++ quoted_from (not (is_shown c)) rest

-- A word in quotes, as `printf %q` of GNU writes one with a control character where the locale is C.
-- Example: `'a'$'\n''b'`.
unfoldable pub quoted_word : List ℕ → List ℕ
quoted_word word = codes "'" ++ quoted_from false word

-- ---- Lines

-- A word in a message: in quotes, if it has a control character or is to be in quotes.
unfoldable pub shown_word : (in_quotes : Bool) → List ℕ → List ℕ
shown_word in_quotes word = if in_quotes || has_control word then quoted_word word else word

-- The line of a program with a word, as it is shown, between the pieces of a text.
abbrev pub word_line : List ℕ → List (List ℕ) → List ℕ → List (List ℕ) → List ℕ
word_line program before shown after =
    program ++ (codes ": " ++ (flat_map (λ piece. piece) before ++ (shown
    ++ (flat_map (λ piece. piece) after ++ 10 ∷ []))))
