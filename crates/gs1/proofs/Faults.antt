-- What follows where an element has no fault.
use Rattle.std.proofs.Common.{◌≡◌, ℕ, ◌+◌, ◌<◌, ◌≤◌, Bool, true, false, not, List, [], ◌∷◌, length, get_or}
use Rattle.std.proofs.Common.{refl, arith, ap, sym, ◌∙◌, length-append}
use Rattle.std.specs.Prelude.{Option, None, Some, is_some, unwrap_or, ◌&&◌, position}
use Rattle.std.specs.Option.{option_or}
use Rattle.std.specs.List.{position_or_len, AllPass, list_all}
use Rattle.std.proofs.lemmas.Grind.{common_steps}
use Rattle.std.proofs.lemmas.List.Elements.{All-append, All-weaker}
use Rattle.std.proofs.lemmas.List.Sums.{AllPass-from_list_all, fails_before_first, prefix_len-le-length}
use Rattle.gs1.specs.Identifiers.{is_encodable, identifier_length, predefined_length}
use Rattle.gs1_base.specs.Characters.{is_within, is_decimal_digit}
use Rattle.gs1.specs.Elements.{Element, first_fault, fault_of, identifier_fault, length_fault}
use Rattle.gs1.specs.Elements.{character_fault, digits_fault, is_identifier, is_value_character}
use Rattle.gs1.proofs.Reading.{IsReadable, AllReadable}

-- If the first of two has no fault, neither has a fault.
pub neither : {X : Type 0} (a b : Option X) → option_or a b ≡ None → (a ≡ None) × (b ≡ None)
neither None b e = (refl, e)
neither (Some x) b e = absurd (let h : Some x ≡ None = e in cc)

-- The two tests of an identifier.
identifier_tests : (number : ℕ) (identifier : List ℕ) → identifier_fault number identifier ≡ None →
    (is_identifier identifier ≡ true) × (unwrap_or (identifier_length identifier) 0 ≡ length identifier)
unfolding identifier_fault
identifier_tests number identifier e = grind (arith, common_steps)

-- A test of two parts holds of both.
pub both : (a b : Bool) → (a && b) ≡ true → (a ≡ true) × (b ≡ true)
both true b e = (refl, e)
both false b e = absurd (let h : false ≡ true = e in cc)

pub known_length : (o : Option ℕ) (n : ℕ) → unwrap_or o 0 ≡ n → 2 ≤ n → o ≡ Some n
known_length None n e long = absurd (omega arith)
known_length (Some m) n e long = ap Some e

long_enough : (n : ℕ) → is_within 2 4 n ≡ true → 2 ≤ n
long_enough n e = grind (arith, common_steps)

-- Digits are characters of values.
pub digit_encodable : (c : ℕ) → is_decimal_digit c ≡ true → is_encodable c ≡ true
digit_encodable c e = grind (arith, common_steps)

value_encodable : (is_digits : Bool) (c : ℕ) → is_value_character is_digits c ≡ true → is_encodable c ≡ true
value_encodable true c e = digit_encodable c e
value_encodable false c e = e

-- Where no character is refused, all are allowed.
pub all_allowed : (p : ℕ → Bool) (xs : List ℕ) → position (λ c. not (p c)) xs ≡ None → AllPass p xs
all_allowed p xs e = λ k d within.
    let whole : position_or_len (λ c. not (p c)) xs ≡ length xs = none_found (λ c. not (p c)) xs e in
    passes (p (get_or xs k d)) (fails_before_first (λ c. not (p c)) xs k d (omega arith))
  where
    passes : (b : Bool) → not b ≡ false → b ≡ true
    passes true e = refl
    passes false e = sym e

    none_found : (q : ℕ → Bool) (xs : List ℕ) → position q xs ≡ None → position_or_len q xs ≡ length xs
    none_found q xs e = grind (arith, common_steps, prefix_len-le-length)

characters : (number : ℕ) (identifier value : List ℕ) → character_fault number identifier value ≡ None →
    AllPass (is_value_character (is_some (predefined_length identifier))) value
unfolding character_fault
characters number identifier value e =
    all_allowed (is_value_character (is_some (predefined_length identifier))) value (grind (arith, common_steps))

sizes : (number : ℕ) (identifier value : List ℕ) → digits_fault number identifier value ≡ None →
    unwrap_or (predefined_length identifier) (length identifier + length value) ≡ length identifier + length value
unfolding digits_fault
sizes number identifier value e = grind (arith, common_steps)

nonempty : (number : ℕ) (value : List ℕ) → length_fault number value ≡ None → 0 < length value
unfolding length_fault
nonempty number value e = grind (arith, common_steps)

-- An element without a fault is readable, and has a value.
pub readable : (number : ℕ) (e : Element) → fault_of number e ≡ None → IsReadable e × (0 < length e.value)
unfolding fault_of
readable number e none =
    let first = neither (identifier_fault number e.identifier) _ none in
    let second = neither (length_fault number e.value) _ first.1 in
    let third = neither (character_fault number e.identifier e.value) _ second.1 in
    let tests = identifier_tests number e.identifier first.0 in
    let parts = both (is_within 2 4 (length e.identifier)) (list_all is_decimal_digit e.identifier) tests.0 in
    let long : 2 ≤ length e.identifier = long_enough _ parts.0 in
    let digits : AllPass is_encodable e.identifier = All-weaker _ (λ c. is_encodable c ≡ true) digit_encodable e.identifier
    (AllPass-from_list_all is_decimal_digit e.identifier parts.1) in
    let value : AllPass is_encodable e.value = All-weaker _ (λ c. is_encodable c ≡ true)
    (value_encodable (is_some (predefined_length e.identifier))) e.value (characters number e.identifier e.value third.0) in (
      record {
        long = long;
        known = known_length _ _ tests.1 long;
        size = λ n is. length-append e.identifier e.value ∙ sym (let s = sizes number e.identifier e.value third.1 in rw is at s);
        encodable = All-append (λ c. is_encodable c ≡ true) e.identifier e.value digits value;
      },
      nonempty number e.value second.0,
    )

-- Elements without a fault are readable.
pub all_readable : (number : ℕ) (elements : List Element) → first_fault number elements ≡ None → AllReadable elements
all_readable number [] none = tt
all_readable number (e ∷ elements) none =
    let split = neither (fault_of number e) (first_fault (number + 1) elements) none in
    ((readable number e split.0).0, all_readable (number + 1) elements split.1)
