-- How the byte of a character is looked for. No promise rests on it.
use Rattle.std.specs.Prelude.{ℕ, ◌+◌, ◌-◌, ◌*◌, ◌/◌, ◌%◌, ◌==◌, nat_lt, List, get_or}
use Rattle.std.specs.Prelude.{Option, None, Some, if◌then◌else◌}
use Rattle.character_sets.specs.declared.byte_codes.TheConstants.{CODES}
use Rattle.character_sets.specs.declared.byte_places.TheConstants.{PLACES}

-- The byte of a code point and a designator: 16 bytes stand at each place, and a code point stands
-- as far from the place of its group of 16 as it is from the first of the group.
abbrev pub byte_in : List ℕ → List ℕ → ℕ → ℕ → ℕ
byte_in places codes designator c =
    get_or codes (16 * (get_or places (c / 16) 0 + c % 16) + (designator - 3)) 0

-- The only byte that a code point may have by the designator in force.
unfoldable pub byte_candidate_of : Option ℕ → ℕ → ℕ
byte_candidate_of None c = c % 256
byte_candidate_of (Some designator) c =
    if nat_lt c 0x80 then c
    else (if designator == 20 then (c - 0xfec0) % 256 else byte_in PLACES CODES designator c)
