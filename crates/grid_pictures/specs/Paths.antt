-- A picture as one path: a rectangle for each run of dark modules in a row.
use Rattle.std.specs.Prelude.{ℕ, ◌-◌, Bool, if◌then◌else◌, ◌==◌, ◌&&◌, ◌||◌, not}
use Rattle.std.specs.Prelude.{List, [], map, drop, flat_map}
use Rattle.std.specs.List.{range_with_len, prefix_len}
use Rattle.grid_pictures.specs.Pictures.{Picture, columns_of, is_dark_module}

-- Whether a run begins in column x of row y: the module is dark, and the one to its left is not.
abbrev pub begins_run : Picture → ℕ → ℕ → Bool
begins_run p x y = is_dark_module p x y && ((x == 0) || not (is_dark_module p (x - 1) y))

-- Whether each module of row y is dark.
abbrev pub dark_row : Picture → ℕ → List Bool
dark_row p y = map (λ x. is_dark_module p x y) (range_with_len 0 (columns_of p))

-- The number of dark modules from column x up to the first light one.
unfoldable pub dark_run_length : Picture → ℕ → ℕ → ℕ
dark_run_length p x y = prefix_len (λ is_dark. is_dark) (drop x (dark_row p y))

-- The rectangle of the run that begins in column x of row y, if one does. `write x y length`
-- is the one that covers `length` modules from there on.
unfoldable pub run_at : (write : ℕ → ℕ → ℕ → List ℕ) → Picture → ℕ → ℕ → List ℕ
run_at write p y x =
    if begins_run p x y then write x y (dark_run_length p x y) else []

-- The rectangles of the runs in a row, from the left.
unfoldable pub row_path : (write : ℕ → ℕ → ℕ → List ℕ) → Picture → ℕ → ℕ → List ℕ
row_path write p y columns = flat_map (run_at write p y) (range_with_len 0 columns)

-- The rectangles of all runs in the first rows, from the top.
unfoldable pub path : (write : ℕ → ℕ → ℕ → List ℕ) → Picture → ℕ → List ℕ
path write p rows =
    flat_map (λ y. row_path write p y (columns_of p)) (range_with_len 0 rows)
