-- The modules of a row, in the grid and in the quiet zone.
use Rattle.std.proofs.Common.{◌≡◌, ℕ, zero, suc, ◌+◌, ◌-◌, ◌*◌, ◌<◌, ◌≤◌, Bool, true, false, List, [], ◌∷◌, take, drop, length, get_or, map, refl, sym, ap}
use Rattle.std.proofs.Common.{◌∙◌, arith}
use Rattle.std.specs.Prelude.{◌&&◌, nat_le, slice_get, Option, None, Some}
use Rattle.std.specs.Option.{is_some}
use Rattle.std.specs.List.{range_with_len}
use Rattle.std.proofs.lemmas.List.FromFn.{fill_by_all}
use Rattle.std.proofs.lemmas.Bool.{lt-ltb, le-ltb, lt-leb, le-leb, cases_lt, true≢false}
use Rattle.std.proofs.Common.{inl, inr}
use Rattle.grid_pictures.specs.Pictures.{Picture, is_dark_color, is_dark_module}
use Rattle.grid_pictures.specs.Rows.{IsFirstDark, dark_byte, is_dark_at}
use Rattle.grid_pictures.specs.declared.picture.Row.{Row}

pub and_false : (a : Bool) → (a && false) ≡ false
and_false true = refl
and_false false = refl

none_after : (a b : Bool) → ((a && false) && b) ≡ false
none_after true b = refl
none_after false b = refl

all_after : (a b : Bool) → (a && b) ≡ ((a && true) && ((true && true) && b))
all_after true b = refl
all_after false b = refl

past_after : (a b : Bool) → (a && false) ≡ ((a && true) && ((false && true) && b))
past_after true b = refl
past_after false b = refl

-- no module is dark where there are none
pub none_dark : (q x : ℕ) → (nat_le q x && is_dark_color (slice_get [] (x - q))) ≡ false
none_dark q x = and_false (nat_le q x)

from_place : {A : Type 0} (xs : List A) (s x : ℕ) → slice_get (drop s xs) x ≡ slice_get xs (s + x)
from_place xs zero x = let e : x ≡ 0 + x = omega arith in ap (slice_get xs) e
from_place [] (suc s) x = refl
from_place (y ∷ xs) (suc s) x = let e : suc (s + x) ≡ suc s + x = omega arith in from_place xs s x ∙ ap (slice_get (y ∷ xs)) e

first_ones : {A : Type 0} (xs : List A) (n x : ℕ) → x < n → slice_get (take n xs) x ≡ slice_get xs x
first_ones xs zero x h = absurd (omega (arith, h))
first_ones [] (suc n) x h = refl
first_ones (y ∷ xs) (suc n) zero h = refl
first_ones (y ∷ xs) (suc n) (suc x) h = first_ones xs n x (omega (arith, h))

no_more : {A : Type 0} (xs : List A) (n x : ℕ) → n ≤ x → slice_get (take n xs) x ≡ None
no_more xs zero x h = refl
no_more [] (suc n) x h = refl
no_more (y ∷ xs) (suc n) zero h = absurd (omega (arith, h))
no_more (y ∷ xs) (suc n) (suc x) h = no_more xs n x (omega (arith, h))

past_end : {A : Type 0} (xs : List A) (x : ℕ) → length xs ≤ x → slice_get xs x ≡ None
past_end [] x h = refl
past_end (y ∷ xs) zero h = absurd (omega (arith, h))
past_end (y ∷ xs) (suc x) h = past_end xs x (omega (arith, h))

-- a column behind the modules
past_byte : (row : Row) (k : ℕ) → row.quiet + length row.modules.now ≤ k → dark_byte row k ≡ 0
past_byte row k h = rw (past_end row.modules.now (k - row.quiet) (omega (arith, h)), and_false (nat_le row.quiet k)) refl

-- no module is dark in a row without modules
pub light_row : (row : Row) (column : ℕ) → length row.modules.now ≡ 0 → is_dark_at row column ≡ false
light_row row column none = rw (past_end row.modules.now (column - row.quiet) (omega (arith, none))) (and_false (nat_le row.quiet column))

-- no module is dark where no first one is
pub none_first : (row : Row) (first : Option ℕ) → is_some first ≡ false → IsFirstDark row first → (column : ℕ) → is_dark_at row column ≡ false
none_first row None none light = light
none_first row (Some column) none dark = absurd (true≢false none)

-- all bytes of a row
pub all_columns : (row : Row) (bytes : List ℕ) (n end : ℕ) → length bytes ≡ n → end ≡ row.quiet + length row.modules.now →
    ((k : ℕ) → k < end → get_or bytes k 0 ≡ dark_byte row k) → ((k : ℕ) → end ≤ k → get_or bytes k 0 ≡ 0) →
    bytes ≡ map (dark_byte row) (range_with_len 0 n)
all_columns row bytes n end long is written left =
    fill_by_all (dark_byte row) bytes n 0 long (λ k below. elim (cases_lt k end) [
      | inl within ↦ written k within
      | inr past ↦ left k past ∙ sym (past_byte row k (omega (arith, is, past)))
    ])

-- a module of a row of the grid
pub row_dark : (p : Picture) (column row : ℕ) → p.quiet ≤ row → row - p.quiet < p.grid.rows →
    (nat_le p.quiet column && is_dark_color (slice_get (take ((row - p.quiet) * p.grid.columns + p.grid.columns - (row - p.quiet) * p.grid.columns)
    (drop ((row - p.quiet) * p.grid.columns) p.grid.cells)) (column - p.quiet))) ≡ is_dark_module p column row
unfolding is_dark_module
row_dark p column row inside below =
    let start = (row - p.quiet) * p.grid.columns in
    let wide : start + p.grid.columns - start ≡ p.grid.columns = omega arith in
    elim (cases_lt (column - p.quiet) p.grid.columns) [
      | inl within ↦ rw (
        wide,
        le-leb p.quiet row inside,
        lt-ltb _ _ below,
        lt-ltb _ _ within,
        first_ones (drop start p.grid.cells) p.grid.columns (column - p.quiet) within,
        from_place p.grid.cells start (column - p.quiet),
      ) (all_after (nat_le p.quiet column) _)
      | inr past ↦ rw (
        wide,
        le-leb p.quiet row inside,
        lt-ltb _ _ below,
        le-ltb (column - p.quiet) p.grid.columns past,
        no_more (drop start p.grid.cells) p.grid.columns (column - p.quiet) past,
      ) (past_after (nat_le p.quiet column) (is_dark_color (slice_get p.grid.cells (start + (column - p.quiet)))))
    ]

-- a module of a row of the zone
pub zone_before : (p : Picture) (column row : ℕ) → row < p.quiet → is_dark_module p column row ≡ false
unfolding is_dark_module
zone_before p column row before = rw (lt-leb p.quiet row before) (none_after (nat_le p.quiet column) _)

pub zone_after : (p : Picture) (column row : ℕ) → p.grid.rows ≤ row - p.quiet → is_dark_module p column row ≡ false
unfolding is_dark_module
zone_after p column row after = grind (arith, and_false, le-ltb (row - p.quiet) p.grid.rows after)
