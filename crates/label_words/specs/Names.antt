-- Names of files with a number in them.
use Rattle.std.specs.Prelude.{ℕ, ◌-◌, nat_le, ◌==◌, ◌&&◌, if◌then◌else◌, decimal, replicate}
use Rattle.std.specs.Prelude.{List, [], ◌∷◌, ◌++◌, length, Option, None, Some, is_some, option_map, option_and_then}
use Rattle.picture_settings.specs.OptionWords.{around_first}

-- A name with the place of a number: what is before the number, how many digits it has at least,
-- and what is after it.
pub record Numbering : Type 0 where
  pub before : List ℕ
  pub width : ℕ
  pub after : List ℕ

-- The least number of digits, by what is between `%` and `d`: nothing, or `0N` with N from 1 to 9.
abbrev pub width_in : List ℕ → Option ℕ
width_in [] = Some 1
width_in (zeros ∷ n ∷ []) = if (zeros == 48) && (nat_le 49 n && nat_le n 57) then Some (n - 48) else None
width_in _ = None

-- The place of the number is written `%d` or `%0Nd`, and there is no other `%`.
abbrev pub numbering_with : List ℕ → List ℕ → List ℕ → Option Numbering
numbering_with before digits after =
    if is_some (around_first 37 after) then None
    else option_map (λ width. record { before = before; width = width; after = after }) (width_in digits)

-- The place of the number in a name, `%d` or `%0Nd`, if there is one. Example: line 12 is in
-- `label-00012.png` by `label-%05d.png`.
abbrev pub numbering_in : List ℕ → Option Numbering
numbering_in name = option_and_then
    (λ parts. option_and_then (λ more. numbering_with parts.0 more.0 more.1) (around_first 100 parts.1))
    (around_first 37 name)

-- The name with this number in its place, with zeros before its digits where they are too few.
abbrev pub numbered : Numbering → ℕ → List ℕ
numbered name n =
    name.before ++ (replicate (name.width - length (decimal n)) 48 ++ (decimal n ++ name.after))
