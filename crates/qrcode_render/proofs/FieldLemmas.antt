-- The digits of rows, and the fields of a label, for compressed data.
use Rattle.std.proofs.Common.{◌≡◌, ◌≢◌, ℕ, suc, ◌+◌, ◌-◌, ◌*◌, ◌/◌, ◌%◌, ◌<◌, ◌≤◌, true, List, [], ◌∷◌, ◌++◌, length, get_or, refl, sym, ap, subst, ◌∙◌, arith}
use Rattle.std.proofs.Common.{length-append}
use Rattle.std.specs.Prelude.{All, flat_map}
use Rattle.std.proofs.lemmas.Bool.Decides.{nat_tests}
use Rattle.std.proofs.lemmas.List.Elements.{All-append, All-cons, All-nil}
use Rattle.std.specs.List.{range_with_len}
use Rattle.std.specs.Prelude.{map}
use Rattle.std.proofs.lemmas.List.FromFn.{get_or-map-range_with_len, length-map-range_with_len}
use Rattle.grid_pictures.specs.Bitmaps.{bitmap_row, pixel_byte, row_length}
use Rattle.grid_pictures.specs.Pictures.{Picture, is_dark_pixel}
use Rattle.grid_pictures.proofs.BitmapLemmas.{spelled_below, row_long, row_next, rows_none}
use Rattle.qrcode_render.specs.Compressed.{Compresses, is_hex_digit}
use Rattle.qrcode_render.specs.CompressedData.{ArePieces, SaysRow, SaysRows}
use Rattle.qrcode_render.specs.Zpl.{hex_digit, hex_pair, row_digits}
use Rattle.qrcode_render.proofs.BandLemmas.{digits_row}
use Rattle.qrcode_render.proofs.ReadingLemmas.{compresses, no_rows, one_row, says_row_above}

hex : (d : ℕ) → d < 16 → is_hex_digit (hex_digit d) ≡ true
hex d small = grind (arith, nat_tests)

-- a hexadecimal digit
abbrev IsHex : ℕ → Type 0
IsHex d = is_hex_digit d ≡ true

hex_two : (b : ℕ) → b < 256 → All IsHex (hex_pair b)
hex_two b small =
    All-cons IsHex (hex_digit (b / 16)) (hex_digit (b % 16) ∷ []) (hex (b / 16) (omega arith))
    (All-cons IsHex (hex_digit (b % 16)) [] (hex (b % 16) (omega arith)) (All-nil IsHex))

-- the digits of bytes are hexadecimal digits
pub hexes : (bytes : List ℕ) → ((k : ℕ) → k < length bytes → get_or bytes k 0 < 256) → All (λ digit. is_hex_digit digit ≡ true) (flat_map hex_pair bytes)
hexes [] small = All-nil IsHex
hexes (b ∷ bytes) small =
    All-append IsHex (hex_pair b) (flat_map hex_pair bytes) (hex_two b (small 0 (omega arith)))
    (hexes bytes (λ k inside. small (suc k) (omega arith)))

-- a byte of a row
byte_small : (p : Picture) (y place : ℕ) → pixel_byte p y place < 256
unfolding pixel_byte
byte_small p y place = omega (arith, spelled_below (λ x. is_dark_pixel p x y) (8 * place) 8)

-- the digits of a row of pixels are hexadecimal digits
pub row_hexes : (p : Picture) (y : ℕ) → All (λ digit. is_hex_digit digit ≡ true) (flat_map hex_pair (bitmap_row p y))
unfolding bitmap_row
row_hexes p y =
    hexes (map (pixel_byte p y) (range_with_len 0 (row_length p))) (λ k inside.
    let few : k < row_length p = omega (arith, length-map-range_with_len (pixel_byte p y) 0 (row_length p), inside) in
    let here : 0 + k ≡ k = omega arith in
    let is : get_or (map (pixel_byte p y) (range_with_len 0 (row_length p))) k 0 ≡ pixel_byte p y k =
    get_or-map-range_with_len (pixel_byte p y) 0 (row_length p) k k 0 few here in
    rw is (byte_small p y k))

-- no piece
pub no_piece : (P : ℕ → List ℕ → Type 0) → ArePieces P 0 []
no_piece P = refl

-- one piece more
pub one_piece : (P : ℕ → List ℕ → Type 0) (n : ℕ) (before piece : List ℕ) → ArePieces P n before → P n piece → ArePieces P (n + 1) (before ++ piece)
one_piece P n before piece are holds =
    let next : suc n ≡ n + 1 = omega arith in
    subst (λ m. ArePieces P m (before ++ piece)) next (before, are, record { added = piece; is = refl; holds = holds })

-- ---- The rows of a field

-- the digits of row y
abbrev pub digits_of : Picture → ℕ → List ℕ
digits_of p y = flat_map hex_pair (bitmap_row p y)

-- the digits of bytes, two of each
twice_long : (bytes : List ℕ) → length (flat_map hex_pair bytes) ≡ 2 * length bytes
twice_long [] = refl
twice_long (b ∷ bytes) = omega (arith, length-append (hex_pair b) (flat_map hex_pair bytes), twice_long bytes)

-- the digits of a row
pub digits_long : (p : Picture) (y : ℕ) → length (digits_of p y) ≡ 2 * row_length p
digits_long p y = omega (arith, twice_long (bitmap_row p y), row_long p y)

-- The characters say the rows of a field before y, the last of which is the row above, if there
-- is one.
pub record SaysField (p : Picture) (first y : ℕ) (characters : List ℕ) : Type 0 where
  pub above : List ℕ
  pub last : first < y → above ≡ digits_of p (y - 1)
  pub says : SaysRows (2 * row_length p) (row_digits p first (y - first)) above characters

-- no row
pub field_none : (p : Picture) (first : ℕ) → SaysField p first first []
field_none p first =
    let none : 0 ≡ first - first = omega arith in
    record {
      above = [];
      last = λ more. absurd (omega (arith, more));
      says = subst (λ rows. SaysRows (2 * row_length p) rows [] []) (ap (flat_map hex_pair) (sym (rows_none p first)) ∙ ap (row_digits p first) none)
          (no_rows (2 * row_length p));
    }

-- one row more
pub field_row : (p : Picture) (first y : ℕ) (before row : List ℕ) → first ≤ y → SaysField p first y before →
    ((above : List ℕ) → SaysRow above (digits_of p y) row) → SaysField p first (y + 1) (before ++ row)
field_row p first y before row after says new =
    let here : y ≡ (y + 1) - 1 = omega arith in
    record {
      above = digits_of p y;
      last = λ more. ap (digits_of p) here;
      says = subst (λ rows. SaysRows (2 * row_length p) rows (digits_of p y) (before ++ row)) (sym (digits_row p first y after))
          (one_row (2 * row_length p) (row_digits p first (y - first)) says.above (digits_of p y) before row says.says (new says.above) (digits_long p y));
    }

-- one row more, which is the one above
pub field_again : (p : Picture) (first y : ℕ) (before : List ℕ) → first ≤ y → y ≢ first → 0 < p.scale → 0 < row_length p → y % p.scale ≢ 0 →
    SaysField p first y before → SaysField p first (y + 1) (before ++ 58 ∷ [])
field_again p first y before after other scaled some within says =
    let more : first < y = omega arith in
    let here : (y - 1) + 1 ≡ y = omega arith in
    let same : bitmap_row p y ≡ bitmap_row p (y - 1) =
    ap (bitmap_row p) (sym here) ∙ row_next p (y - 1) scaled (rw here within) in
    let above : digits_of p y ≡ says.above = ap (flat_map hex_pair) same ∙ sym (says.last more) in
    let row : SaysRow says.above (digits_of p y) (58 ∷ []) =
    subst (λ a. SaysRow a (digits_of p y) (58 ∷ [])) above (says_row_above (digits_of p y) (omega (arith, digits_long p y))) in
    let next : y ≡ (y + 1) - 1 = omega arith in
    record {
      above = digits_of p y;
      last = λ more. ap (digits_of p) next;
      says = subst (λ rows. SaysRows (2 * row_length p) rows (digits_of p y) (before ++ 58 ∷ [])) (sym (digits_row p first y after))
          (one_row (2 * row_length p) (row_digits p first (y - first)) says.above (digits_of p y) before (58 ∷ []) says.says row (digits_long p y));
    }

-- all rows of a field
pub field_whole : (p : Picture) (first count y : ℕ) (characters : List ℕ) → y ≡ first + count → SaysField p first y characters →
    Compresses (2 * row_length p) (row_digits p first count) characters
field_whole p first count y characters end says =
    let rows : y - first ≡ count = omega arith in
    subst (λ n. Compresses (2 * row_length p) (row_digits p first n) characters) rows
    (compresses (2 * row_length p) (row_digits p first (y - first)) says.above characters says.says)
