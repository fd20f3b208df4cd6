-- The text below the symbol of GS1 elements, or of a link of them.
use Rattle.std.specs.Prelude.{◌≡◌, ◌⊎◌, ℕ, Bool, true, false, ◌&&◌, ◌||◌, ◌==◌, not, if◌then◌else◌}
use Rattle.std.specs.Prelude.{List, [], ◌∷◌, flat_map, chars, encode_utf8, Option, None, Some}
use Rattle.std.specs.Str.{IsUtf8}
use Rattle.gs1.specs.Checked.{AreAllowedElements}
use Rattle.gs1.specs.Elements.{Element, bracketed}
use Rattle.gs1.specs.Reader.{FindsOnly}
use Rattle.gs1.specs.Strings.{AreFaultless}
use Rattle.label_words.specs.Choices.{is_link, has_elements}
use Rattle.label_words.specs.declared.command.Content.{Content}
use Rattle.label_words.specs.declared.command.Content.TheVariants.{Gs1, UncheckedGs1, Link}
use Rattle.label_words.specs.declared.command.Label.{Label}
use Rattle.single_label.specs.Contents.{has_bracket, is_bracketed}

-- A text is written in brackets, as that of a link always is.
abbrev pub is_written : Content → List ℕ → Bool
is_written content text = is_link content || is_bracketed text

-- The elements of a text, each identifier in brackets: the text itself if it is written so, else
-- those that a reader finds in it. Example: of `010950600013435210ABC` it is
-- `(01)09506000134352(10)ABC`.
abbrev pub AreBracketed : Content → List ℕ → List ℕ → Type 0
AreBracketed content text written =
    ((is_written content text ≡ true) × (written ≡ text))
    ⊎ ((is_written content text ≡ false) × ((elements : List Element) × FindsOnly text elements
    × (written ≡ bracketed elements)))

-- A character, an opening bracket after a newline.
abbrev pub after_newline : ℕ → List ℕ
after_newline c = if c == 0x28 then 10 ∷ 0x28 ∷ [] else encode_utf8 c

-- A text with a newline before each opening bracket.
unfoldable pub element_lines : List ℕ → List ℕ
element_lines text = flat_map after_newline (chars text)

-- Each opening bracket begins an element: the text is written in brackets, or no value has one.
abbrev pub begin_elements : Content → List ℕ → Bool
begin_elements content text = is_written content text || not (has_bracket text)

-- Elements with a newline before each, unless a value of an element string has an opening bracket.
abbrev pub at_elements : Content → (text written : List ℕ) → List ℕ
at_elements content text written =
    if begin_elements content text then element_lines written else written

-- The text below the symbol: the elements, if they are asked for and it is one of elements, with
-- such newlines.
abbrev pub IsCaption : Label → List ℕ → Option (List ℕ) → Type 0
IsCaption label text caption =
    (((label.hri && has_elements label.content) ≡ false) × (caption ≡ None))
    ⊎ (((label.hri && has_elements label.content) ≡ true) × ((written : List ℕ)
    × AreBracketed label.content text written
    × (caption ≡ Some (at_elements label.content text written))))

-- A text of which there is a symbol: an element string is sound, and that of a link is UTF-8.
abbrev pub IsSoundText : Content → List ℕ → Type 0
IsSoundText Gs1 text = is_bracketed text ≡ false → AreAllowedElements text
IsSoundText UncheckedGs1 text = is_bracketed text ≡ false → AreFaultless text
IsSoundText Link text = IsUtf8 text
IsSoundText content text = Unit {0}

-- The content is the text, or the text is in UTF-8 and the content a link of its elements.
abbrev pub IsContentOf : Content → (text content : List ℕ) → Type 0
IsContentOf kind text content =
    ((is_link kind ≡ false) × (content ≡ text)) ⊎ ((is_link kind ≡ true) × IsUtf8 text)
