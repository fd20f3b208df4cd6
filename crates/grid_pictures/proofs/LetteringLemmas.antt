-- The bytes and rows of lines of text, one after the other.
use Rattle.std.proofs.Common.{◌≡◌, ℕ, ◌+◌, ◌*◌, ◌/◌, ◌<◌, ◌≤◌, ◌^◌, ◌++◌, Bool, true, false, List, [], ◌∷◌, length, map, take, refl, sym, ◌∙◌, ap, arith}
use mir.Val.{bool_byte}
use Rattle.std.specs.Prelude.{if◌then◌else◌}
use Rattle.std.proofs.Math.ListN.{set}
use Rattle.std.specs.List.{range_with_len}
use Rattle.std.proofs.Math.Pow.{pow_mono}
use Rattle.std.proofs.lemmas.List.{take_all, take_more_set}
use Rattle.std.proofs.lemmas.List.FromFn.{length-map-range_with_len, map-range_with_len_more}
use Rattle.picture_settings.proofs.Ranges.{flat_map_range}
use Rattle.grid_pictures.proofs.BitmapLemmas.{spelled, spelled_below, spelled_more}
use Rattle.grid_pictures.specs.Texts.{Text, repeated, text_byte, text_bytes, text_row}

-- there is room for one bit more in a byte
pub spelled_room : (f : ℕ → Bool) (x n : ℕ) → n < 8 → 2 * spelled f x n + 1 < 256
spelled_room f x n few =
    let most : 2 ^ n ≤ 2 ^ 7 = pow_mono {i = n} {j = 7} (omega (arith, few)) in
    omega (arith, spelled_below f x n, most)

-- the bit of a pixel
pub bit_small : (dark : Bool) → bool_byte dark ≤ 1
bit_small true = omega arith
bit_small false = omega arith

bit_is : (dark : Bool) → bool_byte dark ≡ (if dark then 1 else 0)
bit_is true = refl
bit_is false = refl

-- one pixel more
pub pixel_more : (f : ℕ → Bool) (x n byte : ℕ) (dark : Bool) (bit : ℕ) → byte ≡ spelled f x n → dark ≡ f (x + n) → bit ≡ bool_byte dark →
    2 * byte + bit ≡ spelled f x (n + 1)
pixel_more f x n byte dark bit was is made =
    let one : bit ≡ (if f (x + n) then 1 else 0) = made ∙ (bit_is dark ∙ ap (λ (d : Bool). if d then 1 else 0) is) in
    omega (arith, was, one, spelled_more f x n)

-- one byte more
pub byte_more : (f : ℕ → ℕ) (place byte : ℕ) (line : List ℕ) → place < length line → take place line ≡ map f (range_with_len 0 place) → byte ≡ f place →
    take (place + 1) (set line place byte) ≡ map f (range_with_len 0 (place + 1))
byte_more f place byte line inside was is =
    take_more_set line place byte inside
    ∙ (ap (λ l. l ++ byte ∷ []) was
    ∙ (ap (λ b. map f (range_with_len 0 place) ++ b ∷ []) is
    ∙ sym (map-range_with_len_more f 0 place place (omega arith))))

-- the first bytes are all
pub bytes_all : (f : ℕ → ℕ) (n m : ℕ) (line : List ℕ) → n ≡ m → length line ≡ m → take n line ≡ map f (range_with_len 0 n) → line ≡ map f (range_with_len 0 m)
bytes_all f n m line all long was =
    sym (take_all n line (omega (arith, all, long))) ∙ (was ∙ ap (λ k. map f (range_with_len 0 k)) all)

-- the bytes of a row
pub row_bytes : (t : Text) (row : ℕ) → length (text_row t row) ≡ (t.width + 7) / 8
unfolding text_row
row_bytes t row = length-map-range_with_len (text_byte t row) 0 ((t.width + 7) / 8)

pub rows_none : (t : Text) → text_bytes t 0 ≡ []
unfolding text_bytes
rows_none t = refl

-- one row more
pub rows_next : (t : Text) (n : ℕ) → text_bytes t (n + 1) ≡ text_bytes t n ++ repeated t.size (text_row t n)
unfolding text_bytes
rows_next t n = flat_map_range (λ row. repeated t.size (text_row t row)) n

pub ruleset text_rows = (rows_none)
