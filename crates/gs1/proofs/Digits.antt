-- The weighted sum of digits, from the left.
use Rattle.std.proofs.Common.{◌≡◌, ℕ, ◌+◌, ◌-◌, ◌*◌, ◌%◌, ◌<◌, true, List, [], ◌∷◌, ◌++◌, length, take, drop}
use Rattle.std.proofs.Common.{get_or, refl, arith, ap, sym, ◌∙◌, length-append, eq-eqb}
use Rattle.std.specs.Prelude.{◌==◌, if◌then◌else◌}
use Rattle.std.proofs.lemmas.List.{drop_more, length-drop, take_more, take_all}
use Rattle.std.proofs.lemmas.Bool.{eqb-true}
use Rattle.std.proofs.lemmas.Grind.{common_steps}
use Rattle.gs1.specs.Identifiers.{weighted_sum, with_last, IsRightDigit}
use Rattle.gs1_base.specs.Characters.{is_decimal_digit}

-- What the digit at a place adds.
pub weighted_sum_more : (xs : List ℕ) (i : ℕ) → i < length xs →
    weighted_sum (drop i xs) ≡
    (if (length xs - 1 - i) % 2 == 0 then 1 else 3) * (get_or xs i 0 - 0x30) + weighted_sum (drop (i + 1) xs)
weighted_sum_more xs i within =
    let rest : length (drop (i + 1) xs) ≡ length xs - 1 - i = omega (arith, length-drop (i + 1) xs) in
    rw (drop_more xs i 0 within, rest) refl

-- ---- The right check digit

-- The last digit has the weight 1.
weighted_sum_last : (xs : List ℕ) (d : ℕ) →
    weighted_sum (xs ++ d ∷ []) ≡ weighted_sum (xs ++ 0x30 ∷ []) + (d - 0x30)
weighted_sum_last [] d = omega arith
weighted_sum_last (x ∷ xs) d =
    let size : length (xs ++ d ∷ []) ≡ length (xs ++ 0x30 ∷ []) =
    length-append xs (d ∷ []) ∙ sym (length-append xs (0x30 ∷ [])) in
    rw size (omega (arith, weighted_sum_last xs d))

-- A list with its last element in the last place.
last_place : (xs : List ℕ) → 0 < length xs → take (length xs - 1) xs ++ get_or xs (length xs - 1) 0 ∷ [] ≡ xs
last_place xs some =
    let whole : take (length xs - 1 + 1) xs ≡ xs = take_all (length xs - 1 + 1) xs (omega arith) in
    sym (take_more xs (length xs - 1) 0 (omega arith)) ∙ whole

-- The sum without the last digit is the sum with 0 there.
pub sum_before_last : (xs : List ℕ) → 0 < length xs →
    weighted_sum xs ≡ weighted_sum (with_last xs 0x30) + (get_or xs (length xs - 1) 0 - 0x30)
sum_before_last xs some =
    ap weighted_sum (sym (last_place xs some)) ∙ weighted_sum_last (take (length xs - 1) xs) (get_or xs (length xs - 1) 0)

-- The digit that completes a sum to a multiple of ten.
completes : (sum digit : ℕ) → digit ≡ 0x30 + (10 - sum % 10) % 10 → (sum + (digit - 0x30)) % 10 ≡ 0
completes sum digit e = omega arith

completes_alone : (sum digit other : ℕ) → digit ≡ 0x30 + (10 - sum % 10) % 10 → is_decimal_digit other ≡ true →
    (sum + (other - 0x30)) % 10 ≡ 0 → other ≡ digit
completes_alone sum digit other e decimal e2 = grind (arith, common_steps)

decimal_digit : (n digit : ℕ) → digit ≡ 0x30 + n % 10 → is_decimal_digit digit ≡ true
decimal_digit n digit e = grind (arith, common_steps)

-- The digit is the right one.
pub right_digit : (value : List ℕ) (sum digit : ℕ) → sum ≡ weighted_sum (with_last value 0x30) →
    digit ≡ 0x30 + (10 - sum % 10) % 10 → IsRightDigit value digit
right_digit value sum digit sum_is e =
    let front : List ℕ = take (length value - 1) value in
    let with_digit : (d : ℕ) → weighted_sum (with_last value d) ≡ sum + (d - 0x30) =
    λ d. rw sum_is (weighted_sum_last front d) in
    record {
      decimal = decimal_digit (10 - sum % 10) digit e;
      right = rw (with_digit digit) (eq-eqb _ 0 (completes sum digit e));
      only = λ other decimal right. completes_alone sum digit other e decimal
          (let s : (sum + (other - 0x30)) % 10 ≡ 0 = rw (← with_digit other) (eqb-true _ 0 right) in s);
    }

-- The sum is that with 0 in the last place, and the last digit.
pub sum_with_last : (xs : List ℕ) →
    weighted_sum xs ≡ weighted_sum (with_last xs 0x30) + (get_or xs (length xs - 1) 0 - 0x30)
sum_with_last [] = refl
sum_with_last (x ∷ xs) = sum_before_last (x ∷ xs) (omega arith)

-- The check digit of each value is right.
pub right_digits : (value : List ℕ) →
    IsRightDigit value (0x30 + (10 - weighted_sum (with_last value 0x30) % 10) % 10)
right_digits value = right_digit value (weighted_sum (with_last value 0x30)) _ refl refl
