-- The numbers of columns and rows as text, from a table of words.
use Rattle.std.specs.Prelude.{ℕ, ◌/◌, ◌%◌, List, [], ◌∷◌, take}

-- The text in a word: its bytes, the lowest first, as many of them as the highest one says.
abbrev pub word_text : ℕ → List ℕ
word_text w =
    take (w / 16777216) (w % 256 ∷ w / 256 % 256 ∷ w / 65536 % 256 ∷ w / 16777216 ∷ [])
