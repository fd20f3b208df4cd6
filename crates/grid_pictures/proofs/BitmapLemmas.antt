-- The bytes and rows of a bitmap, one after the other.
use Rattle.std.proofs.Common.{◌≡◌, ℕ, zero, suc, ◌+◌, ◌*◌, ◌/◌, ◌<◌, ◌≤◌, ◌^◌, ◌++◌, Bool, true, false, replicate, List, [], ◌∷◌, length, map, refl, sym}
use Rattle.std.proofs.Common.{◌∙◌, arith, add-one}
use Rattle.std.proofs.Common.{append-nil}
use Rattle.std.specs.Prelude.{if◌then◌else◌}
use Rattle.std.{specs.List.range_with_len, proofs.lemmas.Grind.pow_more, proofs.lemmas.List.FromFn.map-range_with_len_more}
use Rattle.std.{proofs.lemmas.List.FromFn.length-map-range_with_len}
use Rattle.std.proofs.Common.{◌-◌, ◌%◌, ◌≢◌, ap, inl, inr}
use Rattle.std.{proofs.lemmas.Nat.div-add-mod', proofs.Math.Nat.mod-eq-sub-div-mul, proofs.lemmas.Bool.cases_lt}
use Rattle.std.{proofs.lemmas.Nat.div-mul-add, proofs.lemmas.List.Sums.fold-append}
use Rattle.picture_settings.proofs.Ranges.{flat_map_from, equal_values}
use Rattle.grid_pictures.specs.Bitmaps.{bits_number, pixel_byte, bitmap_row, row_length, first_rows, rows_from}
use Rattle.grid_pictures.{specs.Pictures.Picture, specs.Pictures.pixel_width, specs.Pictures.columns_of, specs.Pictures.is_dark_module}
use Rattle.grid_pictures.specs.Rows.{dark_byte, is_dark_at}
use Rattle.grid_pictures.specs.declared.picture.Row.{Row}
use Rattle.grid_pictures.proofs.RunLemmas.{map_same}

-- the number that the tests of n places from x on spell
abbrev pub spelled : (ℕ → Bool) → ℕ → ℕ → ℕ
spelled f x n = bits_number (map f (range_with_len x n))

-- one bit more
pub spelled_more : (f : ℕ → Bool) (x n : ℕ) → spelled f x (n + 1) ≡ spelled f x n * 2 + (if f (x + n) then 1 else 0)
spelled_more f x n = grind (arith, map-range_with_len_more f x n (x + n) refl, fold-append)

-- n bits spell less than 2 to the n
pub spelled_below : (f : ℕ → Bool) (x n : ℕ) → spelled f x n + 1 ≤ 2 ^ n
spelled_below f x zero = omega arith
spelled_below f x (suc n) = grind (arith, add-one, spelled_more f x n, pow_more 2 n, spelled_below f x n)

pub twice_power : (a k : ℕ) → a * 2 ^ suc k ≡ (a * 2 ^ k) * 2
twice_power a k =
    let next : suc k ≡ k + 1 = omega arith in
    ap (λ n. a * 2 ^ n) next ∙ grind (arith, pow_more 2 k)

-- several bits more, all the same
pub spelled_run : (f : ℕ → Bool) (x n k : ℕ) (d : Bool) → ((i : ℕ) → i < k → f (x + (n + i)) ≡ d) →
    spelled f x (n + k) + (if d then 1 else 0) ≡ (spelled f x n + (if d then 1 else 0)) * 2 ^ k
spelled_run f x n zero d same =
    let none : n + 0 ≡ n = omega arith in
    let once : (spelled f x n + (if d then 1 else 0)) * 2 ^ 0 ≡ spelled f x n + (if d then 1 else 0) = grind arith in
    ap (λ m. spelled f x m + (if d then 1 else 0)) none ∙ sym once
spelled_run f x n (suc k) d same =
    let last : n + suc k ≡ (n + k) + 1 = omega arith in
    let before = spelled_run f x n k d (λ i below. same i (omega (arith, below))) in
    let bit : (if f (x + (n + k)) then 1 else 0) ≡ (if d then 1 else 0) = ap (λ (b : Bool). if b then 1 else 0) (same k (omega arith)) in
    let twice : (spelled f x n + (if d then 1 else 0)) * 2 ^ suc k ≡ ((spelled f x n + (if d then 1 else 0)) * 2 ^ k) * 2 =
    twice_power (spelled f x n + (if d then 1 else 0)) k in
    ap (λ m. spelled f x m + (if d then 1 else 0)) last
    ∙ (ap (λ m. m + (if d then 1 else 0)) (spelled_more f x (n + k) ∙ ap (λ b. spelled f x (n + k) * 2 + b) bit)
    ∙ (omega (arith, before) ∙ sym twice))

pub rows_none : (p : Picture) (first : ℕ) → rows_from p first 0 ≡ []
unfolding rows_from
rows_none p first = refl

pub rows_more : (p : Picture) (first n : ℕ) → rows_from p first (n + 1) ≡ rows_from p first n ++ bitmap_row p (first + n)
unfolding rows_from
rows_more p first n = flat_map_from (bitmap_row p) first n

-- rows of pixels in one row of modules are the same
row_same : (p : Picture) (y z : ℕ) → y / p.scale ≡ z / p.scale → bitmap_row p y ≡ bitmap_row p z
unfolding bitmap_row pixel_byte
row_same p y z e = grind (arith, is_dark_module, range_with_len, pixel_width)

-- one byte more of a row
pub bytes_more : (p : Picture) (y n : ℕ) → map (pixel_byte p y) (range_with_len 0 (n + 1)) ≡ map (pixel_byte p y) (range_with_len 0 n) ++ pixel_byte p y n ∷ []
bytes_more p y n = map-range_with_len_more (pixel_byte p y) 0 n n (omega arith)

-- a row of pixels in a row of modules is the upper one of these
pub row_again : (p : Picture) (row copy : ℕ) → copy < p.scale → bitmap_row p (row * p.scale + copy) ≡ bitmap_row p (row * p.scale)
row_again p row copy below =
    let start : row * p.scale + 0 ≡ row * p.scale = omega arith in
    let upper : (row * p.scale) / p.scale ≡ row = ap (λ n. n / p.scale) (sym start) ∙ div-mul-add row p.scale 0 (omega arith) in
    let lower : (row * p.scale + copy) / p.scale ≡ row = div-mul-add row p.scale copy below in
    row_same p (row * p.scale + copy) (row * p.scale) (lower ∙ sym upper)

-- one copy more of the upper row of pixels of a row of modules
pub rows_copy : (p : Picture) (scale row copy : ℕ) → p.scale ≡ scale → copy < scale →
    first_rows p (row * scale + (copy + 1)) ≡ first_rows p (row * scale + copy) ++ bitmap_row p (row * scale)
rows_copy p scale row copy e below =
    let next : row * scale + (copy + 1) ≡ (row * scale + copy) + 1 = omega arith in
    let same : bitmap_row p (row * scale + copy) ≡ bitmap_row p (row * scale) =
    ap (λ s. bitmap_row p (row * s + copy)) (sym e) ∙ (row_again p row copy (omega (arith, e)) ∙ ap (λ s. bitmap_row p (row * s)) e) in
    grind (arith, next, rows_more p 0 (row * scale + copy), same)

-- the first row begins with none
pub rows_start : (p : Picture) (scale : ℕ) (bytes : List ℕ) → bytes ≡ bytes ++ first_rows p (0 * scale)
rows_start p scale bytes = let none : 0 * scale ≡ 0 = omega arith in rw (none, rows_none p 0) (sym (append-nil bytes))

-- the next number has the same quotient, if it is no multiple
same_quotient : (y scale : ℕ) → 0 < scale → (y + 1) % scale ≢ 0 → (y + 1) / scale ≡ y / scale
same_quotient y scale some within =
    let here : y / scale * scale + y % scale ≡ y = div-add-mod' y scale in
    elim (cases_lt (y % scale + 1) scale) [
      | inl less ↦ (let next : y + 1 ≡ y / scale * scale + (y % scale + 1) = omega arith in rw next (div-mul-add (y / scale) scale (y % scale + 1) less))
      | inr full ↦ (
          let below : y % scale < scale = omega arith in
          let next : y + 1 ≡ (y / scale + 1) * scale + 0 = grind arith in
          let quotient : (y + 1) / scale ≡ y / scale + 1 = rw next (div-mul-add (y / scale + 1) scale 0 some) in
          absurd (within (omega (arith, mod-eq-sub-div-mul (y + 1) scale, ap (λ (n : ℕ). n * scale) quotient, next))))
    ]

-- the bytes of a row
pub row_long : (p : Picture) (y : ℕ) → length (bitmap_row p y) ≡ row_length p
unfolding bitmap_row
row_long p y = length-map-range_with_len (pixel_byte p y) 0 (row_length p)

-- rows from one on begin with none
pub rows_after_none : (p : Picture) (first : ℕ) (bytes : List ℕ) → bytes ≡ bytes ++ rows_from p first (first - first)
rows_after_none p first bytes = let none : first - first ≡ 0 = omega arith in rw (none, rows_none p first) (sym (append-nil bytes))

-- one row more, counted from the first
pub rows_one : (p : Picture) (first y : ℕ) → first ≤ y → rows_from p first (y + 1 - first) ≡ rows_from p first (y - first) ++ bitmap_row p y
rows_one p first y after =
    let more : y + 1 - first ≡ (y - first) + 1 = omega arith in
    let here : first + (y - first) ≡ y = omega arith in
    rw more (rows_more p first (y - first) ∙ ap (λ (n : ℕ). rows_from p first (y - first) ++ bitmap_row p n) here)

-- the next row of pixels, where it is not in the next row of modules
pub row_next : (p : Picture) (y : ℕ) → 0 < p.scale → (y + 1) % p.scale ≢ 0 → bitmap_row p (y + 1) ≡ bitmap_row p y
row_next p y some within = row_same p (y + 1) y (same_quotient y p.scale some within)

-- ---- Rows of whole bytes

-- a byte of eight equal pixels
equal_bits : (dark : Bool) → bits_number (replicate 8 dark) ≡ (if dark then 255 else 0)
equal_bits true = refl
equal_bits false = refl

-- a byte within a module
module_byte : (p : Picture) (y column copy per : ℕ) → p.scale ≡ 8 * per → copy < per →
    pixel_byte p y (column * per + copy) ≡ (if is_dark_module p column (y / p.scale) then 255 else 0)
unfolding pixel_byte
module_byte p y column copy per whole below =
    let place = column * per + copy in
    let dark = is_dark_module p column (y / p.scale) in
    let at : (k : ℕ) → k < 8 → (8 * place + k) / p.scale ≡ column = λ k few.
    (let here : 8 * place + k ≡ column * (8 * per) + (8 * copy + k) = grind arith in
    let within : 8 * copy + k < 8 * per = omega arith in
    ap (λ s. (8 * place + k) / s) whole ∙ (ap (λ x. x / (8 * per)) here ∙ div-mul-add column (8 * per) (8 * copy + k) within)) in
    let first : (8 * place) / p.scale ≡ column = (let start : 8 * place ≡ 8 * place + 0 = omega arith in ap (λ x. x / p.scale) start ∙ at 0 (omega arith)) in
    let same : (k : ℕ) → k < 8 → is_dark_module p ((8 * place + k) / p.scale) (y / p.scale) ≡ is_dark_module p ((8 * place) / p.scale) (y / p.scale) =
    λ k few. ap (λ x. is_dark_module p x (y / p.scale)) (at k few ∙ sym first) in
    ap bits_number (equal_values (λ x. is_dark_module p (x / p.scale) (y / p.scale)) (8 * place) 8 same)
    ∙ (equal_bits (is_dark_module p ((8 * place) / p.scale) (y / p.scale))
    ∙ ap (λ x. if is_dark_module p x (y / p.scale) then 255 else 0) first)

eight_times : (columns per : ℕ) → columns * (8 * per) ≡ 8 * (columns * per)
eight_times columns per = grind arith

-- all bytes of a row
pub whole_row : (p : Picture) (per : ℕ) → p.scale ≡ 8 * per → row_length p ≡ columns_of p * per
whole_row p per whole =
    let pixels : pixel_width p ≡ 8 * (columns_of p * per) = ap (λ s. columns_of p * s) whole ∙ eight_times (columns_of p) per in
    omega (arith, pixels)

-- where a module is one byte wide, the bytes of the columns are all of a row
pub columns_row : (p : Picture) (row : Row) (y columns : ℕ) → p.scale ≡ 8 → columns ≡ columns_of p →
    ((x : ℕ) → is_dark_at row x ≡ is_dark_module p x (y / p.scale)) → map (dark_byte row) (range_with_len 0 columns) ≡ bitmap_row p y
unfolding bitmap_row
columns_row p row y columns eight wide dark =
    let whole : p.scale ≡ 8 * 1 = omega (arith, eight) in
    let same : (x : ℕ) → dark_byte row x ≡ pixel_byte p y x = λ x.
    (let here : x * 1 + 0 ≡ x = omega arith in
    ap (λ (d : Bool). if d then 255 else 0) (dark x)
    ∙ sym (module_byte p y x 0 1 whole (omega arith)) ∙ ap (pixel_byte p y) here) in
    let long : columns ≡ row_length p = omega (arith, wide, whole_row p 1 whole) in
    map_same (dark_byte row) (pixel_byte p y) (range_with_len 0 columns) same
    ∙ ap (λ n. map (pixel_byte p y) (range_with_len 0 n)) long

pub ruleset rows_after = (rows_after_none)

pub ruleset rows = (rows_start, rows_copy)
