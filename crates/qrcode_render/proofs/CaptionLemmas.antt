-- The bytes of a text in a field of ZPL II.
use Rattle.std.proofs.Common.{◌≡◌, ℕ, zero, suc, ◌+◌, ◌*◌, ◌/◌, ◌%◌, ◌<◌, ◌≤◌, Bool, true, false, List, [], ◌∷◌, ◌++◌, length}
use Rattle.std.proofs.Common.{length-append, refl, arith, ◌∙◌, ap, append-nil, take, get_or}
use Rattle.std.specs.Prelude.{flat_map, Some, option_map, ◌==◌, ◌&&◌, ◌||◌, nat_lt, if◌then◌else◌}
use Rattle.std.specs.List.{list_all}
use Rattle.std.proofs.lemmas.Bool.Decides.{nat_tests}
use Rattle.std.proofs.lemmas.Grind.{common_steps}
use Rattle.std.proofs.lemmas.Grind.{flat_map-append}
use Rattle.std.proofs.lemmas.List.{take_more}
use Rattle.qrcode_render.specs.Zpl.{block_byte, block_data, field_byte, field_data, hex_digit, hex_pair, field_hex_value, read_digits, read_field_byte}
use Rattle.qrcode_render.specs.Zpl.{read_field_bytes, FieldsAreRead}

pub data_none : field_data [] ≡ []
unfolding field_data
data_none = refl

-- one byte more
pub data_more : (bytes : List ℕ) (i : ℕ) → i < length bytes → field_data (take (i + 1) bytes) ≡ field_data (take i bytes) ++ field_byte (get_or bytes i 0)
unfolding field_data
data_more bytes i below =
    ap (flat_map field_byte) (take_more bytes i 0 below)
    ∙ flat_map-append field_byte (take i bytes) (get_or bytes i 0 ∷ [])
    ∙ ap (λ l. flat_map field_byte (take i bytes) ++ l) (append-nil (field_byte (get_or bytes i 0)))

pub ruleset field_texts = (data_none, data_more)

pub block_none : block_data [] ≡ []
unfolding block_data
block_none = refl

-- one byte more in a block
pub block_more : (bytes : List ℕ) (i : ℕ) → i < length bytes → block_data (take (i + 1) bytes) ≡ block_data (take i bytes) ++ block_byte (get_or bytes i 0)
unfolding block_data
block_more bytes i below =
    ap (flat_map block_byte) (take_more bytes i 0 below)
    ∙ flat_map-append block_byte (take i bytes) (get_or bytes i 0 ∷ [])
    ∙ ap (λ l. flat_map block_byte (take i bytes) ++ l) (append-nil (block_byte (get_or bytes i 0)))

pub ruleset block_texts = (block_none, block_more)

-- ---- A printer finds the bytes

-- a digit is read
digit_read : (d : ℕ) → d < 16 → field_hex_value (hex_digit d) ≡ Some d
digit_read d small = grind (arith, common_steps)

pair_read : (b : ℕ) (rest : List ℕ) → b < 256 → read_digits (hex_pair b ++ rest) ≡ Some (b, rest)
pair_read b rest byte =
    let first = digit_read (b / 16) (omega arith) in
    let second = digit_read (b % 16) (omega arith) in
    let value : 16 * (b / 16) + b % 16 ≡ b = omega arith in
    rw (first, second, value) refl

both_false : (a b : Bool) → (a || b) ≡ false → (a ≡ false) × (b ≡ false)
both_false false b holds = (refl, holds)
both_false true b holds = cc

-- a byte is read, whichever way it is written
one_read : (b : ℕ) (rest : List ℕ) → b < 256 → (mark : Bool) → ((b == 0x5e) || ((b == 0x7e) || (b == 0x5f))) ≡ mark →
    read_field_byte (field_byte b ++ rest) ≡ Some (b, rest)
one_read b rest byte true marked = rw marked (pair_read b rest byte)
one_read b rest byte false marked =
    let first = both_false (b == 0x5e) ((b == 0x7e) || (b == 0x5f)) marked in
    let second = both_false (b == 0x7e) (b == 0x5f) first.1 in
    rw (first.0, second.0, second.1) (rw (second.1, first.0, second.0) refl)

byte_read : (b : ℕ) (rest : List ℕ) → nat_lt b 256 ≡ true → read_field_byte (field_byte b ++ rest) ≡ Some (b, rest)
byte_read b rest byte = one_read b rest (grind (arith, nat_tests)) ((b == 0x5e) || ((b == 0x7e) || (b == 0x5f))) refl

goes_on : (n : ℕ) (text : List ℕ) (r : ℕ × List ℕ) → read_field_byte text ≡ Some r →
    read_field_bytes (suc n) text ≡ option_map (λ found. r.0 ∷ found) (read_field_bytes n r.1)
unfolding read_field_bytes
goes_on n [] r found = cc
goes_on n (c ∷ text) r found = rw (found, read_field_bytes) refl

both : (a b : Bool) → (a && b) ≡ true → (a ≡ true) × (b ≡ true)
both true b holds = (refl, holds)
both false b holds = cc

written : (mark : Bool) (b : ℕ) → 0 < length (if mark then 0x5f ∷ hex_pair b else b ∷ [])
written true b = omega arith
written false b = omega arith

some_written : (b : ℕ) → 0 < length (field_byte b)
some_written b = written ((b == 0x5e) || ((b == 0x7e) || (b == 0x5f))) b

bytes_read : (bytes : List ℕ) (n : ℕ) → list_all (λ b. nat_lt b 256) bytes ≡ true → length (field_data bytes) ≤ n →
    read_field_bytes n (field_data bytes) ≡ Some bytes
unfolding field_data read_field_bytes
bytes_read [] zero allowed few = refl
bytes_read [] (suc n) allowed few = refl
bytes_read (b ∷ bytes) zero allowed few = absurd (omega (arith, some_written b, length-append (field_byte b) (field_data bytes)))
bytes_read (b ∷ bytes) (suc n) allowed few =
    let each = both (nat_lt b 256) (list_all (λ x. nat_lt x 256) bytes) allowed in
    let left : length (field_data bytes) ≤ n = omega (arith, some_written b, length-append (field_byte b) (field_data bytes)) in
    goes_on n (field_byte b ++ field_data bytes) (b, field_data bytes) (byte_read b (field_data bytes) each.0)
    ∙ ap (option_map (λ found. b ∷ found)) (bytes_read bytes n each.1 left)

pub fields_are_read : FieldsAreRead
fields_are_read bytes allowed = bytes_read bytes (length (field_data bytes)) allowed (omega arith)
