-- The bytes of a row of pixels, from those of its modules.
use Rattle.std.proofs.Common.{◌≡◌, ℕ, zero, suc, ◌+◌, ◌-◌, ◌*◌, ◌/◌, ◌%◌, ◌^◌, ◌<◌, ◌≤◌, ◌++◌, Bool, true, false, List, [], ◌∷◌, length, take, get_or}
use Rattle.std.proofs.Common.{replicate, map, refl, sym}
use Rattle.std.proofs.Common.{◌∙◌, ap, arith, inl, inr}
use Rattle.std.specs.Prelude.{if◌then◌else◌}
use Rattle.std.specs.List.{range_with_len}
use Rattle.std.proofs.Math.Nat.{div-le_self, mul-le-mul_right, zero-div}
use Rattle.std.proofs.Math.ListN.{set}
use Rattle.std.proofs.lemmas.List.{take_all, take_more_set, take-set-le, take-take}
use Rattle.std.proofs.lemmas.List.FromFn.{get_or-map-range_with_len, take-map-range_with_len}
use Rattle.std.proofs.lemmas.Bool.{cases_lt}
use Rattle.std.proofs.lemmas.Nat.{div-mul-add, pow-add, pow_pos}
use Rattle.picture_settings.proofs.Ranges.{equal_values}
use Rattle.grid_pictures.specs.Bitmaps.{bits_number, bitmap_row, pixel_byte, row_length}
use Rattle.grid_pictures.specs.Pictures.{Picture, columns_of, pixel_width, is_dark_module, is_dark_pixel}
use Rattle.grid_pictures.specs.Rows.{dark_byte, is_dark_at}
use Rattle.grid_pictures.specs.declared.picture.Row.{Row}
use Rattle.grid_pictures.proofs.BitmapLemmas.{spelled, spelled_more, spelled_below, spelled_run, bytes_more, twice_power}
use Rattle.grid_pictures.proofs.RunLemmas.{map_same}

abbrev pub bit : Bool → ℕ
bit dark = if dark then 1 else 0

abbrev pub byte_of : Bool → ℕ
byte_of dark = if dark then 255 else 0

-- whether the module of a pixel is dark
abbrev pub pixel_of : Row → ℕ → ℕ → Bool
pixel_of row scale x = is_dark_at row (x / scale)

-- some bits, and those after them
spelled_split : (f : ℕ → Bool) (x m r : ℕ) → spelled f x (m + r) ≡ spelled f x m * 2 ^ r + spelled f (x + m) r
spelled_split f x m zero =
    let whole : m + 0 ≡ m = omega arith in
    let once : spelled f x m * 2 ^ 0 ≡ spelled f x m = grind arith in
    let none : spelled f (x + m) 0 ≡ 0 = refl in
    ap (spelled f x) whole ∙ omega (arith, once, none)
spelled_split f x m (suc r) =
    let last : m + suc r ≡ (m + r) + 1 = omega arith in
    let more : suc r ≡ r + 1 = omega arith in
    let here : x + (m + r) ≡ (x + m) + r = omega arith in
    let twice : spelled f x m * 2 ^ suc r ≡ (spelled f x m * 2 ^ r) * 2 = twice_power (spelled f x m) r in
    let next : spelled f (x + m) (suc r) ≡ spelled f (x + m) r * 2 + bit (f ((x + m) + r)) =
    ap (spelled f (x + m)) more ∙ spelled_more f (x + m) r in
    ap (spelled f x) last
    ∙ (spelled_more f x (m + r)
    ∙ (ap (λ k. spelled f x (m + r) * 2 + bit (f k)) here
    ∙ (ap (λ s. s * 2 + bit (f ((x + m) + r))) (spelled_split f x m r)
    ∙ omega (arith, twice, next))))

shifted : (n a b c d e : ℕ) → n ≡ a * b + c → b * d ≡ e → n * d ≡ a * e + c * d
shifted n a b c d e is unit =
    let apart : (a * b + c) * d ≡ a * (b * d) + c * d = grind arith in
    ap (λ m. m * d) is ∙ apart ∙ ap (λ m. a * m + c * d) unit

below_unit : (c b d e : ℕ) → c + 1 ≤ b → 0 < d → b * d ≡ e → c * d < e
below_unit c b d e less some unit =
    let next : (c + 1) * d ≡ c * d + d = grind arith in
    omega (arith, mul-le-mul_right d less, next, some, unit)

-- a byte of the bits of eight modules, which are the highest of a word
pub byte_within : (f : ℕ → Bool) (x scale i bits : ℕ) → bits ≡ spelled f x (8 * scale) → i < scale → scale ≤ 8 →
    bits * 2 ^ (64 - 8 * scale) % 18446744073709551616 / 2 ^ (56 - 8 * i) % 256 ≡ spelled f (x + 8 * i) 8
byte_within f x scale i bits is below narrow =
    let r = 8 * (scale - 1 - i) in
    let front = 8 * i + 8 in
    let up = 64 - 8 * scale in
    let first = spelled f x front in
    let parts : 8 * scale ≡ front + r = omega (arith, below) in
    let rest : spelled f (x + front) r + 1 ≤ 2 ^ r = spelled_below f (x + front) r in
    let halves : bits ≡ first * 2 ^ r + spelled f (x + front) r = is ∙ ap (spelled f x) parts ∙ spelled_split f x front r in
    let unit : 2 ^ r * 2 ^ up ≡ 2 ^ (56 - 8 * i) =
    sym (pow-add 2 r up) ∙ (let e : r + up ≡ 56 - 8 * i = omega (arith, below, narrow) in ap (λ n. 2 ^ n) e) in
    let whole : bits * 2 ^ up ≡ first * 2 ^ (56 - 8 * i) + spelled f (x + front) r * 2 ^ up =
    shifted bits first (2 ^ r) (spelled f (x + front) r) (2 ^ up) _ halves unit in
    let short : spelled f (x + front) r * 2 ^ up < 2 ^ (56 - 8 * i) =
    below_unit (spelled f (x + front) r) (2 ^ r) (2 ^ up) _ rest (grind (arith, pow_pos)) unit in
    let all : 2 ^ (8 * scale) * 2 ^ up ≡ 18446744073709551616 =
    sym (pow-add 2 (8 * scale) up) ∙ (let e : 8 * scale + up ≡ 64 = omega (arith, narrow) in ap (λ n. 2 ^ n) e) in
    let fits : bits * 2 ^ up < 18446744073709551616 =
    below_unit bits (2 ^ (8 * scale)) (2 ^ up) _ (omega (arith, is, spelled_below f x (8 * scale))) (grind (arith, pow_pos)) all in
    let same : bits * 2 ^ up % 18446744073709551616 ≡ bits * 2 ^ up = omega (arith, fits) in
    let quotient : bits * 2 ^ up % 18446744073709551616 / 2 ^ (56 - 8 * i) ≡ first =
    ap (λ n. n / 2 ^ (56 - 8 * i)) (same ∙ whole) ∙ div-mul-add first (2 ^ (56 - 8 * i)) (spelled f (x + front) r * 2 ^ up) short in
    omega (arith, quotient, spelled_split f x (8 * i) 8, spelled_below f (x + 8 * i) 8)

-- the high bits of a byte of ones
ones : (k : ℕ) → k ≤ 8 → 255 / 2 ^ k + 1 ≡ 2 ^ (8 - k)
ones k few =
    let eight : (8 - k) + k ≡ 8 = omega (arith, few) in
    let all : 2 ^ (8 - k) * 2 ^ k ≡ 256 = sym (pow-add 2 (8 - k) k) ∙ ap (λ n. 2 ^ n) eight in
    let some : 0 < 2 ^ k = grind (arith, pow_pos) in
    let some' : 0 < 2 ^ (8 - k) = grind (arith, pow_pos) in
    let up : 2 ^ (8 - k) ≡ (2 ^ (8 - k) - 1) + 1 = omega (arith, some') in
    let spread : ((2 ^ (8 - k) - 1) + 1) * 2 ^ k ≡ (2 ^ (8 - k) - 1) * 2 ^ k + 2 ^ k = grind arith in
    let parts : 255 ≡ (2 ^ (8 - k) - 1) * 2 ^ k + (2 ^ k - 1) = omega (arith, all, ap (λ n. n * 2 ^ k) up, spread, some) in
    let quotient : 255 / 2 ^ k ≡ 2 ^ (8 - k) - 1 =
    ap (λ n. n / 2 ^ k) parts ∙ div-mul-add (2 ^ (8 - k) - 1) (2 ^ k) (2 ^ k - 1) (omega (arith, some)) in
    omega (arith, quotient, some')

back_again : (k : ℕ) → k ≤ 8 → 8 - (8 - k) ≡ k
back_again k few = omega (arith, few)

-- the bits of a module from its byte
module_bits : (dark : Bool) (scale : ℕ) → scale ≤ 8 → byte_of dark / 2 ^ (8 - scale) + bit dark ≡ bit dark * 2 ^ scale
module_bits true scale few =
    omega (arith, ones (8 - scale) (omega arith), ap (λ n. 2 ^ n) (back_again scale few))
module_bits false scale few =
    let none : 0 * 2 ^ scale ≡ 0 = grind arith in
    omega (arith, none, zero-div (2 ^ (8 - scale)))

-- eight equal bits
eight_bits : (dark : Bool) (number : ℕ) → number + bit dark ≡ (0 + bit dark) * 2 ^ 8 → byte_of dark ≡ number
eight_bits true number is = omega (arith, is)
eight_bits false number is = omega (arith, is)

power_parts : (k : ℕ) → k ≤ 8 → 2 ^ k * 2 ^ (8 - k) ≡ 256
power_parts k few =
    let eight : k + (8 - k) ≡ 8 = omega (arith, few) in
    sym (pow-add 2 k (8 - k)) ∙ ap (λ n. 2 ^ n) eight

first_ones : (left front : ℕ) → left ≤ 8 → front + 1 ≡ (0 + 1) * 2 ^ left → (front + 1) * 2 ^ (8 - left) ≡ 256
first_ones left front few is =
    let once : (0 + 1) * 2 ^ left ≡ 2 ^ left = grind arith in
    ap (λ n. n * 2 ^ (8 - left)) (is ∙ once) ∙ power_parts left few

no_ones : (left front n : ℕ) → front + 0 ≡ (0 + 0) * 2 ^ left → (front + n) * 2 ^ (8 - left) ≡ n * 2 ^ (8 - left)
no_ones left front n is =
    let none : (0 + 0) * 2 ^ left ≡ 0 = grind arith in
    let zeros : front + n ≡ n = omega (arith, is, none) in
    ap (λ m. m * 2 ^ (8 - left)) zeros

-- the byte of two modules, by the first bits and all
edge_byte : (d e : Bool) (left front all : ℕ) → left ≤ 8 → front + bit d ≡ (0 + bit d) * 2 ^ left → all + bit e ≡ (front + bit e) * 2 ^ (8 - left) →
    byte_of d - byte_of d / 2 ^ left + byte_of e / 2 ^ left ≡ all
edge_byte true true left front all few first both =
    let full : (front + 1) * 2 ^ (8 - left) ≡ 256 = first_ones left front few first in
    omega (arith, ones left few, full, both)
edge_byte true false left front all few first both =
    let full : (front + 1) * 2 ^ (8 - left) ≡ 256 = first_ones left front few first in
    let parts : (front + 1) * 2 ^ (8 - left) ≡ (front + 0) * 2 ^ (8 - left) + 2 ^ (8 - left) = grind arith in
    omega (arith, ones left few, full, parts, both)
edge_byte false true left front all few first both =
    let none : (front + 1) * 2 ^ (8 - left) ≡ 2 ^ (8 - left) = no_ones left front 1 first ∙ omega arith in
    omega (arith, ones left few, none, both, zero-div (2 ^ left))
edge_byte false false left front all few first both =
    let none : (front + 0) * 2 ^ (8 - left) ≡ 0 = no_ones left front 0 first ∙ omega arith in
    omega (arith, none, both, zero-div (2 ^ left))

-- the byte of a module
pub module_at : (row : Row) (modules : List ℕ) (column : ℕ) → modules ≡ map (dark_byte row) (range_with_len 0 (length modules)) →
    column < length modules → get_or modules column 0 ≡ byte_of (is_dark_at row column)
module_at row modules column are inside =
    ap (λ l. get_or l column 0) are ∙ get_or-map-range_with_len (dark_byte row) 0 (length modules) column column 0 inside (omega arith)

-- the bits of some modules of a row, with one module more
pub more_bits : (row : Row) (column scale i bits byte : ℕ) → 0 < scale → scale < 8 →
    bits ≡ spelled (pixel_of row scale) (column * scale) (i * scale) → byte ≡ byte_of (is_dark_at row (column + i)) →
    bits * 2 ^ scale + byte / 2 ^ (8 - scale) ≡ spelled (pixel_of row scale) (column * scale) ((i + 1) * scale)
more_bits row column scale i bits byte some narrow was is =
    let f = pixel_of row scale in
    let x = column * scale in
    let dark = is_dark_at row (column + i) in
    let same : (j : ℕ) → j < scale → f (x + (i * scale + j)) ≡ dark = λ j below.
    (let here : x + (i * scale + j) ≡ (column + i) * scale + j = grind arith in
    ap (λ n. is_dark_at row (n / scale)) here ∙ ap (is_dark_at row) (div-mul-add (column + i) scale j below)) in
    let run = spelled_run f x (i * scale) scale dark same in
    let added : byte / 2 ^ (8 - scale) + bit dark ≡ bit dark * 2 ^ scale =
    ap (λ b. b / 2 ^ (8 - scale) + bit dark) is ∙ module_bits dark scale (omega (arith, narrow)) in
    let next : i * scale + scale ≡ (i + 1) * scale = grind arith in
    let parts : (spelled f x (i * scale) + bit dark) * 2 ^ scale ≡ bits * 2 ^ scale + bit dark * 2 ^ scale = grind (arith, was) in
    omega (arith, run, added, parts) ∙ ap (spelled f x) next

-- the byte of two modules, the first of which has some pixels left
pub record TwoModules (row : Row) (scale place left first second : ℕ) : Type 0 where
  pub less : first / 2 ^ left ≤ first
  pub fits : first - first / 2 ^ left + second / 2 ^ left < 256
  pub is : first - first / 2 ^ left + second / 2 ^ left ≡ spelled (pixel_of row scale) (8 * place) 8

-- the pixels of the module at a column
same_module : (row : Row) (scale column place filled left : ℕ) → (column + 1) * scale ≡ 8 * place + filled + left → left ≤ scale →
    (i : ℕ) → i < left → pixel_of row scale (8 * place + (filled + i)) ≡ is_dark_at row column
same_module row scale column place filled left edge within i below =
    let here : 8 * place + (filled + i) ≡ column * scale + (scale - left + i) = grind (arith, edge) in
    let inside : scale - left + i < scale = omega (arith, within, below) in
    ap (λ t. is_dark_at row (t / scale)) here ∙ ap (is_dark_at row) (div-mul-add column scale (scale - left + i) inside)

-- a byte within a module
pub one_module : (row : Row) (scale column place left byte : ℕ) → (column + 1) * scale ≡ 8 * place + left → left ≤ scale → 8 ≤ left →
    byte ≡ byte_of (is_dark_at row column) → byte ≡ spelled (pixel_of row scale) (8 * place) 8
one_module row scale column place left byte edge within full is =
    let f = pixel_of row scale in
    let dark = is_dark_at row column in
    let start : (column + 1) * scale ≡ 8 * place + 0 + left = omega (arith, edge) in
    let run = spelled_run f (8 * place) 0 8 dark (λ i below. same_module row scale column place 0 left start within i (omega (arith, full, below))) in
    let none : spelled f (8 * place) 0 ≡ 0 = refl in
    is ∙ eight_bits dark (spelled f (8 * place) 8) (omega (arith, run, none))

pub two_modules : (row : Row) (scale column place left first second : ℕ) → (column + 1) * scale ≡ 8 * place + left → left ≤ scale → 8 ≤ scale →
    left < 8 → first ≡ byte_of (is_dark_at row column) → second ≡ byte_of (is_dark_at row (column + 1)) →
    TwoModules row scale place left first second
two_modules row scale column place left first second edge within wide few is next =
    let f = pixel_of row scale in
    let d = is_dark_at row column in
    let e = is_dark_at row (column + 1) in
    let start : (column + 1) * scale ≡ 8 * place + 0 + left = omega (arith, edge) in
    let front = spelled_run f (8 * place) 0 left d (same_module row scale column place 0 left start within) in
    let after : (column + 1 + 1) * scale ≡ 8 * place + left + scale = grind (arith, edge) in
    let back = spelled_run f (8 * place) left (8 - left) e
    (λ i below. same_module row scale (column + 1) place left scale after (omega arith) i (omega (arith, wide, below))) in
    let eight : left + (8 - left) ≡ 8 = omega (arith, few) in
    let whole : left ≡ 0 + left = omega arith in
    let sum = edge_byte d e left (spelled f (8 * place) left) (spelled f (8 * place) 8) (omega (arith, few))
    (ap (λ n. spelled f (8 * place) n + bit d) whole ∙ front)
    (ap (λ n. spelled f (8 * place) n + bit e) (sym eight) ∙ back) in
    let same : first - first / 2 ^ left + second / 2 ^ left ≡ spelled f (8 * place) 8 =
    ap (λ a. a - a / 2 ^ left + second / 2 ^ left) is ∙ (ap (λ b. byte_of d - byte_of d / 2 ^ left + b / 2 ^ left) next ∙ sum) in
    record {
      less = div-le_self first (2 ^ left);
      fits = omega (arith, same, spelled_below f (8 * place) 8);
      is = same;
    }

-- ---- The places of a row

-- all groups reach its end
pub groups_end : (p : Picture) (groups scale columns : ℕ) → scale ≡ p.scale → columns ≡ columns_of p → columns ≤ 8 * groups →
    row_length p ≤ groups * scale
groups_end p groups scale columns is wide all =
    let fits : columns * scale ≤ (8 * groups) * scale = mul-le-mul_right scale all in
    let eight : (8 * groups) * scale ≡ 8 * (groups * scale) = grind arith in
    let width : columns * scale ≡ pixel_width p = ap (λ n. n * scale) wide ∙ ap (λ s. columns_of p * s) is in
    omega (arith, fits, eight, width)

-- the module of a place is one of the picture
pub column_inside : (p : Picture) (scale column place left : ℕ) → scale ≡ p.scale → (column + 1) * scale ≡ 8 * place + left → left ≤ scale →
    place < row_length p → column < columns_of p
column_inside p scale column place left is edge within inside = elim (cases_lt column (columns_of p)) [
  | inl below ↦ below
  | inr past ↦ (
      let fits : columns_of p * scale ≤ column * scale = mul-le-mul_right scale past in
      let next : (column + 1) * scale ≡ column * scale + scale = grind arith in
      let width : columns_of p * scale ≡ pixel_width p = ap (λ s. columns_of p * s) is in
      absurd (omega (arith, fits, next, width, edge, within, inside)))
]

-- one byte more is written
pub one_byte : (p : Picture) (y place n byte : ℕ) (line : List ℕ) → n ≡ place + 1 → place < length line →
    take place line ≡ map (pixel_byte p y) (range_with_len 0 place) → byte ≡ pixel_byte p y place →
    take n (set line place byte) ≡ map (pixel_byte p y) (range_with_len 0 n)
one_byte p y place n byte line next inside was is =
    ap (λ m. take m (set line place byte)) next
    ∙ (take_more_set line place byte inside
    ∙ (ap (λ l. l ++ byte ∷ []) was
    ∙ (ap (λ b. map (pixel_byte p y) (range_with_len 0 place) ++ b ∷ []) is
    ∙ (sym (bytes_more p y place) ∙ ap (λ m. map (pixel_byte p y) (range_with_len 0 m)) (sym next)))))

-- one that is written behind them is none of them
pub kept_bytes : (p : Picture) (y place n next byte : ℕ) (line : List ℕ) → next ≡ n → n ≤ place →
    take n line ≡ map (pixel_byte p y) (range_with_len 0 n) → take next (set line place byte) ≡ map (pixel_byte p y) (range_with_len 0 next)
kept_bytes p y place n next byte line same past was =
    ap (λ m. take m (set line place byte)) same
    ∙ (take-set-le n line place byte past ∙ (was ∙ ap (λ m. map (pixel_byte p y) (range_with_len 0 m)) (sym same)))

-- the first bytes are all of a row
pub front_row : (p : Picture) (y n m : ℕ) (line : List ℕ) → m ≡ row_length p → row_length p ≤ n →
    take n line ≡ map (pixel_byte p y) (range_with_len 0 n) → take m line ≡ bitmap_row p y
unfolding bitmap_row
front_row p y n m line long within was =
    let few : m ≤ n = omega (arith, long, within) in
    sym (take-take m n line few)
    ∙ (ap (take m) was ∙ (take-map-range_with_len (pixel_byte p y) 0 n m few ∙ ap (λ k. map (pixel_byte p y) (range_with_len 0 k)) long))

-- all bytes are
pub whole_line : (p : Picture) (y n : ℕ) (line : List ℕ) → n ≡ row_length p → length line ≡ row_length p →
    take n line ≡ map (pixel_byte p y) (range_with_len 0 n) → line ≡ bitmap_row p y
unfolding bitmap_row
whole_line p y n line all long was =
    sym (take_all n line (omega (arith, all, long))) ∙ (was ∙ ap (λ m. map (pixel_byte p y) (range_with_len 0 m)) all)

-- the byte of a row without dark modules
light_byte : (p : Picture) (y place : ℕ) → ((column : ℕ) → is_dark_module p column (y / p.scale) ≡ false) → pixel_byte p y place ≡ 0
unfolding pixel_byte
light_byte p y place light =
    ap bits_number (map_same (λ x. is_dark_pixel p x y) (λ _. false) (range_with_len (8 * place) 8) (λ (x : ℕ). light (x / p.scale)))

-- a row without dark modules
pub light_pixels : (p : Picture) (y n : ℕ) → n ≡ row_length p → ((column : ℕ) → is_dark_module p column (y / p.scale) ≡ false) →
    replicate n 0 ≡ bitmap_row p y
unfolding bitmap_row
light_pixels p y n long light =
    let same : (k : ℕ) → k < row_length p → pixel_byte p y (0 + k) ≡ pixel_byte p y 0 = λ k below.
    light_byte p y (0 + k) light ∙ sym (light_byte p y 0 light) in
    ap (λ m. replicate m 0) long
    ∙ (ap (replicate (row_length p)) (sym (light_byte p y 0 light)) ∙ sym (equal_values (pixel_byte p y) 0 (row_length p) same))
