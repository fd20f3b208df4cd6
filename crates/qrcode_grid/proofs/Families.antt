-- The masks of a version: which number each has, and that the numbers in Normal symbols rise.
use Rattle.qrcode_grid.proofs.Prelude.{◌≡◌, ℕ, ℤ, ◌+◌, ◌<◌, ap, ◌∙◌, refl, arith, List, length, map, get_or, slice_get, Some, option_map}
use Rattle.qrcode_grid.proofs.Prelude.{Version, Normal, Micro, EcLevel, MaskPattern, family, IsOfFamily, normal_number, micro_number}
use Rattle.qrcode_grid.proofs.Prelude.{format_word, slice_get-map, cases_lt}
use Rattle.qrcode_grid.specs.declared.canvas.MaskPattern.TheVariants.{HorizontalLines, LargeCheckerboard}
use Rattle.qrcode_grid.specs.declared.canvas.MaskPattern.TheVariants.{Diamonds, Meadow}
use Rattle.qrcode_base.proofs.Fields.{rises-at}
use Rattle.std.proofs.Common.{set}
use Rattle.std.proofs.lemmas.List.{get_or-set_same, get_or-set_other}

-- the number of a mask is its place in the family
pub normal_place : (z : ℤ) (i : ℕ) (p : MaskPattern) → slice_get (family (Normal z)) i ≡ Some p → normal_number p ≡ i
normal_place z i p e = grind arith

pub micro_place : (z : ℤ) (i : ℕ) (p : MaskPattern) → slice_get (family (Micro z)) i ≡ Some p → micro_number p ≡ Some i
micro_place z i p e = grind arith

-- each mask of a version is in its family
pub place_of_mask : (version : Version) (p : MaskPattern) → IsOfFamily version p →
    (i : ℕ) × (i < length (family version)) × (slice_get (family version) i ≡ Some p)
place_of_mask (Normal z) p h = (normal_number p, grind arith, grind arith)
place_of_mask (Micro z) HorizontalLines h = (0, omega arith, refl)
place_of_mask (Micro z) LargeCheckerboard h = (1, omega arith, refl)
place_of_mask (Micro z) Diamonds h = (2, omega arith, refl)
place_of_mask (Micro z) Meadow h = (3, omega arith, refl)
place_of_mask (Micro z) other h = absurd (cc)

number_at : (version : Version) (i : ℕ) (p : MaskPattern) → slice_get (family version) i ≡ Some p →
    slice_get (map normal_number (family version)) i ≡ Some (normal_number p)
number_at version i p e = slice_get-map normal_number (family version) i ∙ ap (option_map normal_number) e

-- a later mask of a family has another number
pub later_number : (version : Version) (i j : ℕ) (p q : MaskPattern) → i < j → slice_get (family version) i ≡ Some p →
    slice_get (family version) j ≡ Some q → normal_number p < normal_number q
later_number (Normal z) i j p q before e f =
    rises-at (map normal_number (family (Normal z))) i j _ _ refl before (number_at (Normal z) i p e) (number_at (Normal z) j q f)
later_number (Micro z) i j p q before e f =
    rises-at (map normal_number (family (Micro z))) i j _ _ refl before (number_at (Micro z) i p e) (number_at (Micro z) j q f)

pub number_below : (p : MaskPattern) → normal_number p < 8
number_below p = grind arith

the_mask : {A : Type 0} {a b : A} → Some a ≡ Some b → a ≡ b
the_mask h = cc

-- the words of one more mask
pub next_word : (version : Version) (level : EcLevel) (words : List ℕ) (k word : ℕ) (q : MaskPattern) → length words ≡ 8 →
    slice_get (family version) k ≡ Some q → word ≡ format_word version level q →
    ((i : ℕ) (p : MaskPattern) → i < k → slice_get (family version) i ≡ Some p → get_or words (normal_number p) 0 ≡ format_word version level p) →
    (i : ℕ) (p : MaskPattern) → i < k + 1 → slice_get (family version) i ≡ Some p →
    get_or (set words (normal_number q) word) (normal_number p) 0 ≡ format_word version level p
next_word version level words k word q size here is before i p within e =
    grind (arith, later_number, get_or-set_other, the_mask, get_or-set_same, number_below, cases_lt)
