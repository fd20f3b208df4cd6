-- The text of an XML element (Extensible Markup Language 1.0, fifth edition): which characters it
-- may have, how they are written, and how a reader finds them.
use Rattle.std.specs.Prelude.{◌≡◌, ℕ, zero, suc, Bool, true, false, ◌&&◌, ◌||◌, not, nat_le}
use Rattle.std.specs.Prelude.{◌==◌, if◌then◌else◌, List, [], ◌∷◌, length, flat_map, codes, chars}
use Rattle.std.specs.Prelude.{Option, None, Some, option_map, encode_utf8_all}
use Rattle.std.specs.List.{list_all}

-- The characters that XML allows (2.2, "Characters").
abbrev pub is_xml_character : ℕ → Bool
is_xml_character c =
    (c == 9) || (c == 10) || (c == 13) || (nat_le 0x20 c && nat_le c 0xD7FF)
    || (nat_le 0xE000 c && nat_le c 0xFFFD) || (nat_le 0x10000 c && nat_le c 0x10FFFF)

-- A text, as UTF-8, has only characters that XML allows.
abbrev pub is_xml_text : List ℕ → Bool
is_xml_text text = list_all is_xml_character (chars text)

-- A character as it is written: as a reference, where a reader would take it for something else.
abbrev pub escape : ℕ → List ℕ
escape c =
    if c == 38 then codes "&amp;" else (if c == 60 then codes "&lt;" else
    (if c == 62 then codes "&gt;" else (if c == 34 then codes "&quot;" else
    (if c == 13 then codes "&#13;" else c ∷ []))))

-- The characters of a text as they are written.
unfoldable pub escaped : List ℕ → List ℕ
escaped cs = flat_map escape cs

-- A text, as UTF-8, as it is written.
unfoldable pub xml_text : List ℕ → List ℕ
xml_text text = encode_utf8_all (escaped (chars text))

-- The references, each with its character (4.6, "Predefined Entities", and that of a carriage
-- return, 2.11, "End-of-Line Handling").
abbrev pub references : List (List ℕ × ℕ)
references =
    (codes "amp;", 38) ∷ (codes "lt;", 60) ∷ (codes "gt;", 62) ∷ (codes "quot;", 34)
    ∷ (codes "apos;", 39) ∷ (codes "#13;", 13) ∷ []

-- What follows this beginning of a text.
abbrev pub after : (beginning text : List ℕ) → Option (List ℕ)
after [] text = Some text
after (a ∷ more) [] = None
after (a ∷ more) (b ∷ text) = elim (a == b) [ true ↦ after more text | false ↦ None ]

-- The character of the reference with which a text begins, and what follows it.
abbrev pub read_reference : List (List ℕ × ℕ) → List ℕ → Option (ℕ × List ℕ)
read_reference [] text = None
read_reference (r ∷ more) text =
    elim (after r.0 text) [ Some rest ↦ Some (r.1, rest) | None ↦ read_reference more text ]

-- A character that stands for itself. A tag begins with `<`, and a reader takes a carriage return
-- for a line feed.
abbrev pub is_plain : ℕ → Bool
is_plain c = is_xml_character c && not ((c == 60) || (c == 13))

-- The first character of a text, and what follows it.
abbrev pub read_character : List ℕ → Option (ℕ × List ℕ)
read_character [] = None
read_character (c ∷ text) =
    if c == 38 then read_reference references text else
    (if is_plain c then Some (c, text) else None)

-- The characters of a text of an element, at most n of them.
unfoldable pub read_characters : ℕ → List ℕ → Option (List ℕ)
read_characters _ [] = Some []
read_characters zero (c ∷ text) = None
read_characters (suc n) (c ∷ text) =
    elim (read_character (c ∷ text)) [
      | None ↦ None
      | Some r ↦ option_map (λ found. r.0 ∷ found) (read_characters n r.1)
    ]

-- The characters that a reader finds in the text of an element.
abbrev pub read_text : List ℕ → Option (List ℕ)
read_text text = read_characters (length text) text

-- A law of titles: a reader finds exactly the characters of any text that XML allows.
abbrev pub TextsAreRead : Type 0
TextsAreRead = (text : List ℕ) → is_xml_text text ≡ true →
    read_text (escaped (chars text)) ≡ Some (chars text)
