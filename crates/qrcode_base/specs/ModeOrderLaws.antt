-- The order of modes is a partial order in which only equal modes compare as equal: the proof that
-- the trait `PartialOrd` requires. This file has only proofs; the order is defined in Modes.
use Rattle.std.proofs.Common.{◌≡◌, Bool, true, refl, subst, ap}
use Rattle.std.specs.Prelude.{Some, option_map}
use Rattle.std.specs.Cmp.{IsPartialOrder}
use Rattle.std.specs.declared.cmp.Ordering.TheVariants.{Less, Equal}
use Rattle.std.specs.Ordering.{ordering_reverse}
use Rattle.qrcode_base.specs.declared.types.Mode.{Mode}
use Rattle.qrcode_base.specs.declared.types.Mode.TheVariants.{Numeric, Alphanumeric, Byte, Kanji}
use Rattle.qrcode_base.specs.Modes.{mode_order}

-- Comparing in the other direction gives the opposite result.
pub mode_order-antisymm : (x y : Mode) →
    mode_order x y ≡ option_map ordering_reverse (mode_order y x)
mode_order-antisymm Numeric Numeric = refl
mode_order-antisymm Numeric Alphanumeric = refl
mode_order-antisymm Numeric Byte = refl
mode_order-antisymm Numeric Kanji = refl
mode_order-antisymm Alphanumeric Numeric = refl
mode_order-antisymm Alphanumeric Alphanumeric = refl
mode_order-antisymm Alphanumeric Byte = refl
mode_order-antisymm Alphanumeric Kanji = refl
mode_order-antisymm Byte Numeric = refl
mode_order-antisymm Byte Alphanumeric = refl
mode_order-antisymm Byte Byte = refl
mode_order-antisymm Byte Kanji = refl
mode_order-antisymm Kanji Numeric = refl
mode_order-antisymm Kanji Alphanumeric = refl
mode_order-antisymm Kanji Byte = refl
mode_order-antisymm Kanji Kanji = refl

-- The order is transitive.
pub mode_order-trans : (x y z : Mode) →
    mode_order x y ≡ Some Less → mode_order y z ≡ Some Less → mode_order x z ≡ Some Less
mode_order-trans Numeric Numeric z p q = cc
mode_order-trans Numeric Alphanumeric Numeric p q = cc
mode_order-trans Numeric Alphanumeric Alphanumeric p q = cc
mode_order-trans Numeric Alphanumeric Byte p q = refl
mode_order-trans Numeric Alphanumeric Kanji p q = cc
mode_order-trans Numeric Byte Numeric p q = cc
mode_order-trans Numeric Byte Alphanumeric p q = cc
mode_order-trans Numeric Byte Byte p q = cc
mode_order-trans Numeric Byte Kanji p q = cc
mode_order-trans Numeric Kanji z p q = cc
mode_order-trans Alphanumeric Numeric z p q = cc
mode_order-trans Alphanumeric Alphanumeric z p q = cc
mode_order-trans Alphanumeric Byte Numeric p q = cc
mode_order-trans Alphanumeric Byte Alphanumeric p q = cc
mode_order-trans Alphanumeric Byte Byte p q = cc
mode_order-trans Alphanumeric Byte Kanji p q = cc
mode_order-trans Alphanumeric Kanji z p q = cc
mode_order-trans Byte Numeric z p q = cc
mode_order-trans Byte Alphanumeric z p q = cc
mode_order-trans Byte Byte z p q = cc
mode_order-trans Byte Kanji z p q = cc
mode_order-trans Kanji Numeric z p q = cc
mode_order-trans Kanji Alphanumeric z p q = cc
mode_order-trans Kanji Byte Numeric p q = cc
mode_order-trans Kanji Byte Alphanumeric p q = cc
mode_order-trans Kanji Byte Byte p q = cc
mode_order-trans Kanji Byte Kanji p q = cc
mode_order-trans Kanji Kanji z p q = cc

-- Each mode compares as equal to itself.
pub mode_order-self : (x : Mode) → mode_order x x ≡ Some Equal
mode_order-self Numeric = refl
mode_order-self Alphanumeric = refl
mode_order-self Byte = refl
mode_order-self Kanji = refl

-- Only equal modes compare as equal.
pub mode_order-equal : (x y : Mode) → mode_order x y ≡ Some Equal → x ≡ y
mode_order-equal Numeric Numeric h = refl
mode_order-equal Alphanumeric Alphanumeric h = refl
mode_order-equal Byte Byte h = refl
mode_order-equal Kanji Kanji h = refl
mode_order-equal _ _ h = cc

-- The laws of `PartialOrd`, for any test of equality that holds of exactly the equal modes.
pub mode_order-laws : (E : Mode → Mode → Bool) →
    ((x : Mode) → E x x ≡ true) →
    ((x y : Mode) → E x y ≡ true → x ≡ y) →
    IsPartialOrder E mode_order
mode_order-laws E itself same = record {
  antisymm = mode_order-antisymm;
  trans = mode_order-trans;
  matches_eq = λ x y. (
    λ e. subst (λ m. mode_order x m ≡ Some Equal) (same x y e) (mode_order-self x),
    λ h. subst (λ m. E x m ≡ true) (mode_order-equal x y h) (itself x),
  );
  congr = λ x y z e. ap (λ m. mode_order m z) (same x y e);
}
