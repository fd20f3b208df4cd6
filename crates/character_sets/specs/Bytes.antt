-- What bytes mean as characters, by the ECI designator that is in force (AIM ECI assignments).
use Rattle.std.specs.Prelude.{◌≡◌, ◌≢◌, ℕ, ◌+◌, ◌-◌, ◌*◌, Bool, ◌==◌, ◌||◌, nat_lt, Option, None}
use Rattle.std.specs.Prelude.{Some}
use Rattle.std.specs.Prelude.{if◌then◌else◌}
use Rattle.qrcode_base.specs.Characters.{is_between}
use Rattle.character_sets.specs.Kanji.{character_in}
use Rattle.character_sets.specs.declared.iso8859.TheConstants.{PARTS}

-- ---- A byte

-- The character of a byte in ASCII.
abbrev pub ascii_character : ℕ → Option ℕ
ascii_character byte = if nat_lt byte 0x80 then Some byte else None

-- A designator of a part of ISO/IEC 8859 that every reader knows: of the parts 1 to 9, 11, 13, 15
-- and 16. The designators 12 and 16, of the parts 10 and 14, are left out: a reader in most
-- telephones does not know them.
abbrev pub is_part : ℕ → Bool
is_part designator =
    is_between 3 11 designator || (designator == 13) || (designator == 15)
    || is_between 17 18 designator

-- The character of a byte in a part of ISO/IEC 8859: ASCII, and 96 characters from A0 by the table.
unfoldable pub part_character : ℕ → ℕ → Option ℕ
part_character designator byte =
    if is_between 0xa0 0xff byte
    then character_in PARTS (96 * (designator - 3) + (byte - 0xa0))
    else ascii_character byte

-- A byte is that of a character in the part of a designator, or 0 if the character has none there.
pub record IsPartByte (designator c byte : ℕ) : Type 0 where
  pub right : byte ≢ 0 → part_character designator byte ≡ Some c
  pub found : (other : ℕ) → part_character designator other ≡ Some c →
      (byte ≡ other) × (other ≢ 0)

-- The character of a byte in ASCII and in JIS X 0201, where two bytes are a yen sign and
-- an overline.
abbrev pub common_character : ℕ → Option ℕ
common_character byte =
    if (byte == 0x5c) || (byte == 0x7e) then None else ascii_character byte

-- The character of a single byte in Shift JIS: katakana of half width, and the common ones.
abbrev pub shift_jis_character : ℕ → Option ℕ
shift_jis_character byte =
    if is_between 0xa1 0xdf byte then Some (0xff61 + (byte - 0xa1)) else common_character byte

-- The character of a single byte by the designator in force. Without one it is ASCII, so that no
-- reader has to guess; so it is in UTF-8, which is designator 26. Shift JIS is designator 20.
-- Example: E9 (hex) after designator 3 is `é`.
unfoldable pub character_of_byte : Option ℕ → ℕ → Option ℕ
character_of_byte None byte = ascii_character byte
character_of_byte (Some designator) byte =
    if is_part designator then part_character designator byte
    else (if designator == 20 then shift_jis_character byte
    else (if designator == 26 then ascii_character byte else None))

-- No character has two bytes by one designator.
abbrev pub HaveOneByte : Type 0
HaveOneByte =
    (designator : Option ℕ) (c first second : ℕ) → character_of_byte designator first ≡ Some c →
    character_of_byte designator second ≡ Some c → first ≡ second
