-- The characters of JIS X 0208 in the Kanji mode (ISO/IEC 18004:2006, "Kanji mode").
use Rattle.std.specs.Prelude.{◌≡◌, ℕ, ◌+◌, ◌-◌, ◌*◌, ◌/◌, ◌%◌, Bool, ◌==◌, ◌&&◌, ◌||◌}
use Rattle.std.specs.Prelude.{nat_lt, nat_le, Option, None, Some, List, get_or, if◌then◌else◌}
use Rattle.character_sets.specs.declared.kanji_table.TheConstants.{CHARACTERS}

abbrev pub is_in_range : ℕ → ℕ → ℕ → Bool
is_in_range low high c = nat_le low c && nat_le c high

-- Two bytes of Shift JIS that the Kanji mode takes: from 8140 to 9FFC, or from E040 to EBBF.
abbrev pub is_shift_jis_pair : ℕ → ℕ → Bool
is_shift_jis_pair lead trail =
    (is_in_range 0x81 0x9f lead || is_in_range 0xe0 0xeb lead) &&
    (is_in_range 0x40 0x7e trail || is_in_range 0x80 (if lead == 0xeb then 0xbf else 0xfc) trail)

-- The 13-bit number of a pair: subtract 8140 (hex), or C140 from E040 on, from its two bytes as one
-- number; then multiply the high byte of the difference by C0 and add its low byte. Example: 93 5F
-- (hex) is D9F.
unfoldable pub pair_number : ℕ → ℕ → ℕ
pair_number lead trail =
    let code = 256 * lead + trail in
    let offset = if nat_lt code 0xe040 then code - 0x8140 else code - 0xc140 in
    offset / 256 * 0xc0 + offset % 256

-- ---- The table

-- The element of a table, in which a space stands where there is none.
unfoldable pub character_in : List ℕ → ℕ → Option ℕ
character_in table number =
    let c = get_or table number 0x20 in
    if c == 0x20 then None else Some c

-- The character with a number, if there is one: its code point in Unicode, by the table. Example:
-- 59F (hex) is `亜`, U+4E9C.
unfoldable pub character_of : ℕ → Option ℕ
character_of number = character_in CHARACTERS number

-- No character has two numbers.
abbrev pub HaveOneNumber : Type 0
HaveOneNumber =
    (c first second : ℕ) → character_of first ≡ Some c → character_of second ≡ Some c →
    first ≡ second
