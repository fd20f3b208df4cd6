-- The names of parts.
use Rattle.std.specs.Prelude.{ℕ, List, ◌++◌, codes, decimal}

-- The name of a part, by the name of the program, the number of the process, and the number of
-- the try.
abbrev pub part_name : List ℕ → ℕ → ℕ → List ℕ
part_name program process n =
    program ++ (codes "-" ++ (decimal process ++ (codes "-" ++ (decimal n ++ codes ".part"))))
