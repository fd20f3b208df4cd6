-- A text names one level at most.
use Rattle.std.proofs.Common.{◌≡◌, ℕ, sym, ◌∙◌, List, arith}
use Rattle.std.specs.Prelude.{◌==◌, ◌||◌, if◌then◌else◌, slice_index}
use Rattle.qrcode_base.specs.declared.types.EcLevel.TheVariants.{L, M, Q, H}
use Rattle.qrcode_base.specs.{declared.types.EcLevel.EcLevel, Names.NamesLevel}

-- the level that a letter names
letter : ℕ → EcLevel
letter c = if (c == 76) || (c == 108) then L else if (c == 77) || (c == 109) then M else if (c == 81) || (c == 113) then Q else H

abbrev first : List ℕ → ℕ
first t = slice_index t 0

named : (t : List ℕ) (level : EcLevel) → NamesLevel t level → letter (first t) ≡ level
unfolding letter
named t level names = grind (arith, names)

pub one_level : (t : List ℕ) (a b : EcLevel) → NamesLevel t a → NamesLevel t b → a ≡ b
one_level t a b p q = sym (named t a p) ∙ named t b q
