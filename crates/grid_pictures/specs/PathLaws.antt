-- The modules that the rectangles of the path cover.
use Rattle.std.specs.Prelude.{◌≡◌, ℕ, ◌+◌, ◌<◌, ◌≤◌, ◌↔◌, IsTrue}
use Rattle.grid_pictures.specs.Pictures.{Picture, columns_of, is_dark_module}
use Rattle.grid_pictures.specs.Paths.{begins_run, dark_run_length}

-- The rectangle of the run from column `start` of row y on covers column x.
pub record Covers (p : Picture) (start x y : ℕ) : Type 0 where
  pub begins : IsTrue (begins_run p start y)
  pub from : start ≤ x
  pub to : x < start + dark_run_length p start y

-- A law of the path: a module is dark exactly if a rectangle covers it, and no two rectangles cover
-- the same module.
abbrev pub CoversDarkModules : Type 0
CoversDarkModules = (p : Picture) (x y : ℕ) → x < columns_of p →
    (IsTrue (is_dark_module p x y) ↔ ((start : ℕ) × Covers p start x y))
    × ((a b : ℕ) → Covers p a x y → Covers p b x y → a ≡ b)
