-- How the number of a character is looked for. No promise rests on it.
use Rattle.std.specs.Prelude.{ℕ, ◌+◌, ◌/◌, ◌%◌, List, get_or}
use Rattle.character_sets.specs.declared.kanji_numbers.TheConstants.{NUMBERS}
use Rattle.character_sets.specs.declared.kanji_places.TheConstants.{PLACES}

-- The number at the place of a code point: as far from the place of its group of 16 as the code
-- point is from the first of the group.
abbrev pub number_in : List ℕ → List ℕ → ℕ → ℕ
number_in places numbers c = get_or numbers (get_or places (c / 16) 0 + c % 16) 0

-- The only number that a code point may have.
unfoldable pub candidate_of : ℕ → ℕ
candidate_of c = number_in PLACES NUMBERS c
