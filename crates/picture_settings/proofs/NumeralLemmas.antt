-- What `parse` finds is the number that digits write.
use Rattle.std.proofs.Common.{◌≡◌, ℕ, ◌<◌, List, [], ◌∷◌, arith, refl, true, ◌^◌}
use Rattle.std.specs.Prelude.{Some, None, nat_lt}
use Rattle.std.specs.List.{list_all}
use Rattle.std.specs.Char.{digit_value}
use Rattle.std.specs.Str.Parse.{IsNumeral, AllDigits, digits_value, without_leading_plus}
use Rattle.picture_settings.specs.OptionWords.{word_number}

all_digits : (ds : List ℕ) → AllDigits 10 ds → list_all (λ c. nat_lt (digit_value c) 10) ds ≡ true
all_digits [] all = refl
all_digits (c ∷ cs) all = grind (arith, all_digits cs all.1)

digits_all : (ds : List ℕ) → list_all (λ c. nat_lt (digit_value c) 10) ds ≡ true → AllDigits 10 ds
digits_all [] all = tt
digits_all (c ∷ cs) all = grind (arith, digits_all cs)

pub parses : (word : List ℕ) (n : ℕ) → IsNumeral 10 (without_leading_plus word) → digits_value 10 (without_leading_plus word) ≡ n → n < 2 ^ 64 →
    word_number word ≡ Some n
unfolding word_number
parses word n is value fits = grind (arith, all_digits (without_leading_plus word) is.1)

pub fails : (word : List ℕ) → (IsNumeral 10 (without_leading_plus word) × (digits_value 10 (without_leading_plus word) < 2 ^ 64) → ⊥) →
    word_number word ≡ None
unfolding word_number
fails word none = grind (arith, digits_all (without_leading_plus word))
