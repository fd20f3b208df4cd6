-- The runs of a row, one after the other, and the modules of a run.
use Rattle.std.proofs.Common.{◌≡◌, ℕ, zero, suc, ◌+◌, ◌-◌, ◌<◌, ◌≤◌, ◌++◌, Bool, true, false, List, [], length, length-drop, drop, get_or, get_or-drop, map}
use Rattle.std.proofs.Common.{refl, sym, ap, ◌∙◌, arith, append-nil}
use Rattle.std.specs.Prelude.{nat_lt}
use Rattle.std.specs.List.{range_with_len}
use Rattle.std.proofs.lemmas.Grind.{common_steps}
use Rattle.std.proofs.lemmas.List.Sums.{prefix_len-drop_yes, prefix_len-drop_no, prefix_len-drop_all, prefix_len-le-length, prefix_len_passes}
use Rattle.std.proofs.lemmas.{List.FromFn.length-map-range_with_len, List.FromFn.get_or-map-range_with_len}
use Rattle.picture_settings.proofs.Ranges.{flat_map_range, joined}
use Rattle.grid_pictures.specs.Paths.{begins_run, dark_row, dark_run_length, run_at, row_path, path}
use Rattle.grid_pictures.{specs.Pictures.Picture, specs.Pictures.columns_of, specs.Pictures.is_dark_module}
use Rattle.grid_pictures.specs.Rows.{dark_byte, is_dark_at}
use Rattle.grid_pictures.specs.declared.picture.Row.{Row}
use Rattle.grid_pictures.proofs.PackedLemmas.{byte_of, module_at}

length_of_row : (p : Picture) (y : ℕ) → length (dark_row p y) ≡ columns_of p
length_of_row p y = length-map-range_with_len (λ x. is_dark_module p x y) 0 (columns_of p)

-- a run ends within the row
pub run_room : (p : Picture) (x y : ℕ) → dark_run_length p x y ≤ columns_of p - x
unfolding dark_run_length
run_room p x y =
    omega (arith, prefix_len-le-length (λ (b : Bool). b) (drop x (dark_row p y)), length-drop x (dark_row p y), length_of_row p y)

module_in_row : (p : Picture) (x k y : ℕ) → x + k < columns_of p → get_or (drop x (dark_row p y)) k false ≡ is_dark_module p (x + k) y
module_in_row p x k y inside =
    get_or-drop x (dark_row p y) k false
    ∙ get_or-map-range_with_len (λ c. is_dark_module p c y) 0 (columns_of p) (x + k) (x + k) false inside (omega arith)

-- each module of a run is dark
dark_within : (p : Picture) (x y k : ℕ) → k < dark_run_length p x y → is_dark_module p (x + k) y ≡ true
unfolding dark_run_length
dark_within p x y k inside =
    sym (module_in_row p x k y (omega (arith, inside, run_room p x y)))
    ∙ prefix_len_passes (λ (b : Bool). b) (drop x (dark_row p y)) k false inside

-- none begins behind a dark module
no_run_after : (p : Picture) (x y : ℕ) → is_dark_module p x y ≡ true → begins_run p (x + 1) y ≡ false
no_run_after p x y dark = grind (arith, common_steps)

-- a dark module begins a run in the first column, and behind a light one
pub first_begins : (p : Picture) (y : ℕ) → begins_run p 0 y ≡ is_dark_module p 0 y
first_begins p y = grind (arith, common_steps)

pub begins_behind : (p : Picture) (x y : ℕ) → is_dark_module p x y ≡ false → begins_run p (x + 1) y ≡ is_dark_module p (x + 1) y
begins_behind p x y light = grind (arith, common_steps)

module _ (write : ℕ → ℕ → ℕ → List ℕ) where
  -- the path begins with no row
  pub path_start : (p : Picture) (text : List ℕ) → text ≡ text ++ path write p 0
  unfolding path
  path_start p text = sym (append-nil text)

  -- one row more
  pub path_row : (p : Picture) (n : ℕ) (start old new : List ℕ) → old ≡ start ++ path write p n →
      new ≡ old ++ row_path write p n (columns_of p) → new ≡ start ++ path write p (n + 1)
  unfolding path
  path_row p n start old new was adds = joined start (path write p n) old (row_path write p n (columns_of p)) new _
      (flat_map_range (λ y. row_path write p y (columns_of p)) n) was adds

  -- a row's path begins with no run
  pub row_none : (p : Picture) (y : ℕ) → row_path write p y 0 ≡ []
  unfolding row_path
  row_none p y = refl

  pub row_path_more : (p : Picture) (y n : ℕ) → row_path write p y (n + 1) ≡ row_path write p y n ++ run_at write p y n
  unfolding row_path
  row_path_more p y n = flat_map_range (run_at write p y) n

  -- one run more
  row_run : (p : Picture) (y n : ℕ) → begins_run p n y ≡ true → row_path write p y (n + 1) ≡ row_path write p y n ++ write n y (dark_run_length p n y)
  unfolding run_at
  row_run p y n begins =
      let run : run_at write p y n ≡ write n y (dark_run_length p n y) = rw begins refl in
      row_path_more p y n ∙ ap (λ l. row_path write p y n ++ l) run

  -- a column where none begins
  pub row_no_run : (p : Picture) (y n : ℕ) → begins_run p n y ≡ false → row_path write p y (n + 1) ≡ row_path write p y n
  unfolding run_at
  row_no_run p y n none =
      let run : run_at write p y n ≡ [] = rw none refl in
      row_path_more p y n ∙ ap (λ l. row_path write p y n ++ l) run ∙ append-nil (row_path write p y n)

  -- no run begins within a run
  row_within : (p : Picture) (y x k : ℕ) → k < dark_run_length p x y → row_path write p y (x + suc k) ≡ row_path write p y (x + 1)
  row_within p y x zero inside = let e : x + suc zero ≡ x + 1 = omega arith in ap (row_path write p y) e
  row_within p y x (suc k) inside =
      let e : x + suc (suc k) ≡ (x + k + 1) + 1 = omega arith in
      let same : x + k + 1 ≡ x + suc k = omega arith in
      ap (row_path write p y) e
      ∙ row_no_run p y (x + k + 1) (no_run_after p (x + k) y (dark_within p x y k (omega (arith, inside))))
      ∙ ap (row_path write p y) same
      ∙ row_within p y x k (omega (arith, inside))

  whole_run : (p : Picture) (y x : ℕ) → 0 < dark_run_length p x y → begins_run p x y ≡ true →
      row_path write p y (x + dark_run_length p x y) ≡ row_path write p y x ++ write x y (dark_run_length p x y)
  whole_run p y x some begins =
      let n = dark_run_length p x y in
      let last : x + n ≡ x + suc (n - 1) = omega (arith, some) in
      ap (row_path write p y) last ∙ row_within p y x (n - 1) (omega (arith, some)) ∙ row_run p y x begins

  -- a whole run
  pub row_over_run : (p : Picture) (y x n : ℕ) → n ≡ dark_run_length p x y → 0 < n → begins_run p x y ≡ true →
      row_path write p y (x + n) ≡ row_path write p y x ++ write x y n
  row_over_run p y x n is some begins = rw is (whole_run p y x (omega (arith, is, some)) begins)

-- a dark module is one more of the run
pub run_dark : (p : Picture) (x y : ℕ) → x < columns_of p → is_dark_module p x y ≡ true → dark_run_length p x y ≡ 1 + dark_run_length p (x + 1) y
unfolding dark_run_length
run_dark p x y inside dark =
    prefix_len-drop_yes (λ (b : Bool). b) (dark_row p y) x false (omega (arith, length_of_row p y))
    (get_or-map-range_with_len (λ x. is_dark_module p x y) 0 (columns_of p) x x false inside (omega arith) ∙ dark)

-- a light one ends it
pub run_light : (p : Picture) (x y : ℕ) → x < columns_of p → is_dark_module p x y ≡ false → dark_run_length p x y ≡ 0
unfolding dark_run_length
run_light p x y inside light =
    prefix_len-drop_no (λ (b : Bool). b) (dark_row p y) x false (omega (arith, length_of_row p y))
    (get_or-map-range_with_len (λ x. is_dark_module p x y) 0 (columns_of p) x x false inside (omega arith) ∙ light)

-- and so does the end of the row
pub run_end : (p : Picture) (x y : ℕ) → columns_of p ≤ x → dark_run_length p x y ≡ 0
unfolding dark_run_length
run_end p x y outside = prefix_len-drop_all (λ (b : Bool). b) (dark_row p y) x (omega (arith, length_of_row p y))

lit : (dark : Bool) → nat_lt 0 (byte_of dark) ≡ dark
lit true = refl
lit false = refl

-- the modules of a row by their bytes
pub dark_places : (p : Picture) (row : Row) (y n : ℕ) (modules : List ℕ) → modules ≡ map (dark_byte row) (range_with_len 0 n) →
    length modules ≡ n → columns_of p ≤ n → ((column : ℕ) → is_dark_at row column ≡ is_dark_module p column y) →
    (k : ℕ) → k < columns_of p → nat_lt 0 (get_or modules k 0) ≡ is_dark_module p k y
dark_places p row y n modules are long room dark k inside =
    let same = are ∙ ap (λ m. map (dark_byte row) (range_with_len 0 m)) (sym long) in
    ap (nat_lt 0) (module_at row modules k same (omega (arith, inside, long, room))) ∙ (lit (is_dark_at row k) ∙ dark k)

pub ruleset paths = (path_start, path_row)
