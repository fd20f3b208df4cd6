-- Values of the table have the lengths that are predefined.
use Rattle.std.proofs.Common.{◌≡◌, ◌⊎◌, inl, inr, ℕ, zero, suc, ◌+◌, ◌-◌, ◌*◌, ◌/◌, ◌<◌, ◌≤◌, true, List, length}
use Rattle.std.proofs.Common.{refl, arith, ap, sym, subst, ◌∙◌}
use Rattle.std.specs.Prelude.{Some, slice_index}
use Rattle.std.specs.Option.{option_and_then}
use Rattle.std.specs.List.{list_all}
use Rattle.std.proofs.lemmas.Grind.{common_steps}
use Rattle.std.proofs.lemmas.List.Sums.{AllPass-from_list_all}
use Rattle.std.proofs.lemmas.Nat.{div-mul-add}
use Rattle.gs1.specs.Identifiers.{identifier_length, predefined_length}
use Rattle.gs1_base.specs.Characters.{is_decimal_digit}
use Rattle.gs1.specs.Identifiers.{prefix, predefined_length_of, identifier_length_of}
use Rattle.gs1.specs.Checks.{two_digits, decimal_at}
use Rattle.gs1.specs.Table.{components}
use Rattle.gs1.specs.TableLaws.{digits_of, prefix_of, is_exact}
use Rattle.gs1.specs.Values.{number_of_identifier}
use Rattle.gs1.proofs.RowLemmas.{sized}

-- ---- Numbers of two, three and four digits

of_two : (p : ℕ) → p ≤ 99 → (digits_of p ≡ 2) × (prefix_of p ≡ p)
of_two p small = (grind (arith, common_steps), grind (arith, common_steps))

of_three : (n : ℕ) → 100 ≤ n → n ≤ 999 → (digits_of n ≡ 3) × (prefix_of n ≡ n / 10)
of_three n low high = (grind (arith, common_steps), grind (arith, common_steps))

of_four : (n : ℕ) → 1000 ≤ n → (digits_of n ≡ 4) × (prefix_of n ≡ n / 100)
of_four n low = (grind (arith, common_steps), grind (arith, common_steps))

-- The values of an identifier of this number, of so many digits, which begins with these two.
by_number : (n p digits size : ℕ) → digits_of n ≡ digits → prefix_of n ≡ p → predefined_length_of p ≡ Some size →
    is_exact (size - digits) (components n) ≡ true
by_number n p digits size count begin is =
    let whole : predefined_length_of (prefix_of n) ≡ Some size = ap predefined_length_of begin ∙ is in
    subst (λ d. is_exact (size - d) (components n) ≡ true) count (sized n size whole)

exact_two : (p size : ℕ) → p ≤ 99 → predefined_length_of p ≡ Some size → is_exact (size - 2) (components p) ≡ true
exact_two p size small is = let of = of_two p small in by_number p p 2 size of.0 of.1 is

exact_three : (p d size : ℕ) → 10 ≤ p → p ≤ 99 → d ≤ 9 → predefined_length_of p ≡ Some size →
    is_exact (size - 3) (components (10 * p + d)) ≡ true
exact_three p d size low high small is =
    let of = of_three (10 * p + d) (omega (arith, low)) (omega (arith, high, small)) in
    let turned : 10 * p + d ≡ p * 10 + d = omega arith in
    let begin : (10 * p + d) / 10 ≡ p = ap (λ m. m / 10) turned ∙ div-mul-add p 10 d (omega (arith, small)) in
    by_number (10 * p + d) p 3 size of.0 (of.1 ∙ begin) is

exact_four : (p d size : ℕ) → 10 ≤ p → d ≤ 99 → predefined_length_of p ≡ Some size →
    is_exact (size - 4) (components (100 * p + d)) ≡ true
exact_four p d size low small is =
    let of = of_four (100 * p + d) (omega (arith, low)) in
    let turned : 100 * p + d ≡ p * 100 + d = omega arith in
    let begin : (100 * p + d) / 100 ≡ p = ap (λ m. m / 100) turned ∙ div-mul-add p 100 d (omega (arith, small)) in
    by_number (100 * p + d) p 4 size of.0 (of.1 ∙ begin) is

-- Identifiers of three and four digits begin with no zero.
three_low : (p : ℕ) → identifier_length_of p ≡ Some 3 → 10 ≤ p
unfolding identifier_length_of
three_low p known = grind (arith, common_steps)

four_low : (p : ℕ) → identifier_length_of p ≡ Some 4 → 10 ≤ p
unfolding identifier_length_of
four_low p known = grind (arith, common_steps)

-- ---- Identifiers

-- Digits of an identifier.
is_digit : (xs : List ℕ) (k : ℕ) → list_all is_decimal_digit xs ≡ true → k < length xs →
    is_decimal_digit (slice_index xs k) ≡ true
is_digit xs k digits within = AllPass-from_list_all is_decimal_digit xs digits k 0 within

digit_small : (c : ℕ) → is_decimal_digit c ≡ true → c - 0x30 ≤ 9
digit_small c e = grind (arith, common_steps)

two_small : (xs : List ℕ) (k : ℕ) → list_all is_decimal_digit xs ≡ true → k + 1 < length xs → two_digits xs k ≤ 99
two_small xs k digits within =
    let first = digit_small (slice_index xs k) (is_digit xs k digits (omega arith)) in
    let second = digit_small (slice_index xs (k + 1)) (is_digit xs (k + 1) digits (omega arith)) in
    omega (arith, first, second)

prefix_is : (xs : List ℕ) → list_all is_decimal_digit xs ≡ true → 2 ≤ length xs →
    prefix xs ≡ Some (two_digits xs 0)
unfolding prefix
prefix_is xs digits long =
    let first = is_digit xs 0 digits (omega arith) in let second = is_digit xs 1 digits (omega arith) in
    rw (first, second) refl

two_three_four : (n : ℕ) → 2 ≤ n → n ≤ 4 → (n ≡ 2) ⊎ ((n ≡ 3) ⊎ (n ≡ 4))
two_three_four zero low high = absurd (omega arith)
two_three_four (suc zero) low high = absurd (omega arith)
two_three_four (suc (suc zero)) low high = inl refl
two_three_four (suc (suc (suc zero))) low high = inr (inl refl)
two_three_four (suc (suc (suc (suc zero)))) low high = inr (inr refl)
two_three_four (suc (suc (suc (suc (suc n))))) low high = absurd (omega arith)

-- The values of an identifier whose elements have a predefined length have the length that is left.
pub exact : (xs : List ℕ) (n : ℕ) → list_all is_decimal_digit xs ≡ true → 2 ≤ length xs → length xs ≤ 4 →
    identifier_length xs ≡ Some (length xs) → predefined_length xs ≡ Some n →
    is_exact (n - length xs) (components (number_of_identifier xs)) ≡ true
exact xs n digits long short known size =
    let p = prefix_is xs digits long in
    let known_of : identifier_length_of (two_digits xs 0) ≡ Some (length xs) =
    sym (ap (option_and_then identifier_length_of) p) ∙ known in
    let size_of : predefined_length_of (two_digits xs 0) ≡ Some n =
    sym (ap (option_and_then predefined_length_of) p) ∙ size in
    let small : two_digits xs 0 ≤ 99 = two_small xs 0 digits (omega arith) in
    elim (two_three_four (length xs) long short) [
      | inl two ↦ rw two (exact_two (two_digits xs 0) n small size_of)
      | inr more ↦ elim more [
        | inl three ↦ rw three (exact_three (two_digits xs 0) (decimal_at xs 2) n
            (three_low (two_digits xs 0) (rw three at known_of)) small
            (digit_small (slice_index xs 2) (is_digit xs 2 digits (omega arith))) size_of)
        | inr four ↦ rw four (exact_four (two_digits xs 0) (two_digits xs 2) n
            (four_low (two_digits xs 0) (rw four at known_of)) (two_small xs 2 digits (omega arith)) size_of)
      ]
    ]
