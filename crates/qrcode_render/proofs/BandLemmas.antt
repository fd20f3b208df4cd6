-- The bands and the fields of a picture for a printer, one after the other.
use Rattle.std.proofs.Common.{◌≡◌, ℕ, ◌+◌, ◌-◌, ◌*◌, ◌/◌, ◌<◌, ◌≤◌, ◌++◌, List, [], ◌∷◌, take, length, get_or, refl, sym, ap, arith, append-nil}
use Rattle.std.proofs.Common.{◌%◌, ◌∙◌, inl, inr}
use Rattle.std.specs.Prelude.{flat_map, min}
use Rattle.std.proofs.lemmas.{Nat.div-mul-add, Nat.div-add-mod', Bool.cases_lt}
use Rattle.std.proofs.Math.Nat.{div-mul-le_self}
use Rattle.std.proofs.lemmas.{Nat.le-div, Grind.common_steps, Grind.flat_map-append}
use Rattle.picture_settings.proofs.Ranges.{flat_map_range}
use Rattle.grid_pictures.specs.Bitmaps.{bitmap_row, rows_from}
use Rattle.grid_pictures.specs.Pictures.{Picture}
use Rattle.grid_pictures.proofs.BitmapLemmas.{rows_none, rows_one}
use Rattle.qrcode_render.specs.EscPos.{band, first_bands}
use Rattle.qrcode_render.specs.Zpl.{hex_pair, nth_field, first_fields}

pub bands_none : (p : Picture) → first_bands p 0 ≡ []
unfolding first_bands
bands_none p = refl

pub bands_more : (p : Picture) (n : ℕ) → first_bands p (n + 1) ≡ first_bands p n ++ band p n
unfolding first_bands
bands_more p n = flat_map_range (band p) n

pub fields_none : (p : Picture) (at : ℕ × ℕ) → first_fields p at 0 ≡ []
unfolding first_fields
fields_none p at = refl

pub fields_more : (p : Picture) (at : ℕ × ℕ) (n : ℕ) → first_fields p at (n + 1) ≡ first_fields p at n ++ nth_field p at n
unfolding first_fields
fields_more p at n = flat_map_range (nth_field p at) n

-- the digits of one byte more
pub digits_more : (bytes : List ℕ) (n : ℕ) → n < length bytes →
    flat_map hex_pair (take (n + 1) bytes) ≡ flat_map hex_pair (take n bytes) ++ hex_pair (get_or bytes n 0)
digits_more bytes n inside = grind (arith, common_steps, flat_map-append hex_pair (take n bytes) (get_or bytes n 0 ∷ []), append-nil)

-- the digits of no row
pub digits_none : (p : Picture) (first : ℕ) (bytes : List ℕ) → bytes ≡ bytes ++ flat_map hex_pair (rows_from p first (first - first))
digits_none p first bytes =
    let none : first - first ≡ 0 = omega arith in
    rw (none, rows_none p first) (sym (append-nil bytes))

-- the digits of one row more
pub digits_row : (p : Picture) (first y : ℕ) → first ≤ y →
    flat_map hex_pair (rows_from p first (y + 1 - first)) ≡ flat_map hex_pair (rows_from p first (y - first)) ++ flat_map hex_pair (bitmap_row p y)
digits_row p first y after =
    ap (flat_map hex_pair) (rows_one p first y after) ∙ flat_map-append hex_pair (rows_from p first (y - first)) (bitmap_row p y)

-- a part begins within the whole
pub part_begins : (n whole part : ℕ) → 0 < part → n < (whole + (part - 1)) / part → n * part < whole
part_begins n whole part some below = grind (arith, div-mul-le_self (whole + (part - 1)) part)

-- a field has a row
pub some_rows : (row : ℕ) → 0 < row → row ≤ 99999 → 0 < 99999 / row
some_rows row some few = omega (arith, le-div 1 99999 row some (omega arith))

-- a quotient rounded up
pub rounded_up : (whole part : ℕ) → 0 < part → whole / part + min 1 (whole % part) ≡ (whole + (part - 1)) / part
rounded_up whole part some =
    let here : whole / part * part + whole % part ≡ whole = div-add-mod' whole part in
    elim (cases_lt 0 (whole % part)) [
      | inl more ↦ (
          let up : whole + (part - 1) ≡ (whole / part + 1) * part + (whole % part - 1) = grind arith in
          let below : whole % part - 1 < part = omega arith in
          rw (up, div-mul-add (whole / part + 1) part (whole % part - 1) below) (omega arith))
      | inr none ↦ (
          let up : whole + (part - 1) ≡ whole / part * part + (part - 1) = omega arith in
          rw (up, div-mul-add (whole / part) part (part - 1) (omega arith)) (omega arith))
    ]

pub ruleset bands = (bands_none, bands_more)

pub ruleset fields = (fields_none, fields_more, part_begins, some_rows)

pub ruleset digits = (digits_more)

pub ruleset digits_after = (digits_none)
