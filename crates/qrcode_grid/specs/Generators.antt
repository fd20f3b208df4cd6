-- The table of generator polynomials: used by private functions.
use Rattle.std.specs.Prelude.{ℕ, Bool, ◌==◌, ◌||◌}

-- Whether blocks of symbols have n correction bytes.
abbrev pub has_generator : ℕ → Bool
has_generator n =
    n == 2 || n == 5 || n == 6 || n == 7 || n == 8 || n == 10 || n == 13 || n == 14 || n == 15 ||
    n == 16 || n == 17 || n == 18 || n == 20 || n == 22 || n == 24 || n == 26 || n == 28 || n == 30
