-- What follows where the table refuses nothing.
use Rattle.std.proofs.Common.{◌≡◌, ℕ, ◌+◌, ◌-◌, ◌<◌, ◌≤◌, Bool, true, false, not, List, [], ◌∷◌, length}
use Rattle.std.proofs.Common.{take, drop, refl, arith, ap, sym, ◌∙◌, length-append, subst}
use Rattle.std.specs.Prelude.{◌≢◌, Option, None, Some, unwrap_or, ◌==◌, nat_lt, position, if◌then◌else◌}
use Rattle.std.specs.Option.{option_or, option_map}
use Rattle.std.specs.List.{AllPass, list_all}
use Rattle.std.proofs.lemmas.Grind.{common_steps}
use Rattle.std.proofs.lemmas.List.{take-append-drop, length-drop}
use Rattle.std.proofs.lemmas.List.Elements.{All-append, All-weaker}
use Rattle.std.proofs.lemmas.List.Sums.{AllPass-from_list_all}
use Rattle.gs1.specs.Identifiers.{is_encodable, identifier_length}
use Rattle.gs1_base.specs.Characters.{is_within, is_decimal_digit}
use Rattle.gs1.specs.Elements.{Element, is_identifier}
use Rattle.gs1.specs.Checks.{fault_if}
use Rattle.gs1.specs.Table.{components}
use Rattle.gs1.specs.TableLaws.{is_exact}
use Rattle.gs1.specs.Values.{is_allowed, wrong_character, piece_fault, value_fault, number_of_identifier}
use Rattle.gs1.specs.Values.{is_assigned, identifier_error, value_error, element_error, first_error}
use Rattle.gs1.specs.declared.reason.Fault.{Fault}
use Rattle.gs1.specs.declared.reason.Reason.{Reason}
use Rattle.gs1.specs.declared.reason.Reason.TheVariants.{TooShort, TooLong}
use Rattle.gs1.specs.declared.refusal.CheckError.{CheckError}
use Rattle.gs1.specs.declared.table.Characters.{Characters}
use Rattle.gs1.specs.declared.table.Characters.TheVariants.{Digits, Set82, Set39, Base64, Capitals}
use Rattle.gs1.specs.declared.table.Component.{Component}
use Rattle.gs1.specs.declared.table.Component.TheVariants.{Needed, Optional}
use Rattle.gs1.proofs.Faults.{neither, both, known_length, digit_encodable, all_allowed}
use Rattle.gs1.proofs.Reading.{IsReadable, AllReadable}
use Rattle.gs1.proofs.Sizes.{exact}

pub not_wrong : (b : Bool) (place : ℕ) (reason : Reason) → fault_if b place reason ≡ None → b ≡ false
not_wrong true place reason e = absurd (let h : Some (let f : Fault = record { place = place; reason = reason } in f) ≡ None = e in cc)
not_wrong false place reason e = refl

pub at_least : (m n : ℕ) → nat_lt m n ≡ false → n ≤ m
at_least m n e = grind (arith, common_steps)

pub none_mapped : {X Y : Type 0} (f : X → Y) (o : Option X) → option_map f o ≡ None → o ≡ None
none_mapped f None e = refl
none_mapped f (Some x) e = absurd (let h : Some (f x) ≡ None = e in cc)

-- ---- Characters

allowed_encodable : (characters : Characters) (c : ℕ) → is_allowed characters c ≡ true → is_encodable c ≡ true
allowed_encodable Digits c e = digit_encodable c e
allowed_encodable Set82 c e = grind (arith, common_steps)
allowed_encodable Set39 c e = grind (arith, common_steps)
allowed_encodable Base64 c e = grind (arith, common_steps)
allowed_encodable Capitals c e = grind (arith, common_steps)

characters_encodable : (characters : Characters) (place : ℕ) (piece : List ℕ) →
    wrong_character characters place piece ≡ None → AllPass is_encodable piece
characters_encodable characters place piece none =
    All-weaker _ (λ c. is_encodable c ≡ true) (allowed_encodable characters) piece
    (all_allowed (is_allowed characters) piece (none_mapped _ (position (λ c. not (is_allowed characters c)) piece) none))

pub not_zero : (n : ℕ) → 0 < n → (n == 0) ≡ false
not_zero n some = grind (arith, common_steps)

otherwise : (b : Bool) (fault : Option Fault) → b ≡ false → (if b then None else fault) ≡ None → fault ≡ None
otherwise true fault is none = absurd (let h : true ≡ false = is in cc)
otherwise false fault is none = none

piece_encodable : (component : Component) (place : ℕ) (piece : List ℕ) →
    piece_fault component place piece ≡ None → AllPass is_encodable piece
unfolding piece_fault
piece_encodable component place [] none = λ k d within. absurd (omega arith)
piece_encodable (Needed characters least greatest check) place (c ∷ piece) none =
    let rest = neither (fault_if (nat_lt (length (c ∷ piece)) least) (place + length (c ∷ piece)) TooShort) _ none in
    characters_encodable characters place (c ∷ piece) (neither (wrong_character characters place (c ∷ piece)) _ rest.1).0
piece_encodable (Optional characters least greatest check) place (c ∷ piece) none =
    let rest = neither (fault_if (nat_lt (length (c ∷ piece)) least) (place + length (c ∷ piece)) TooShort) _
    (otherwise (length (c ∷ piece) == 0) _ (not_zero (length (c ∷ piece)) (omega arith)) none) in
    characters_encodable characters place (c ∷ piece) (neither (wrong_character characters place (c ∷ piece)) _ rest.1).0

no_more : (place : ℕ) (value : List ℕ) → fault_if (nat_lt 0 (length value)) place TooLong ≡ None → length value ≡ 0
no_more place value none = let low = at_least 0 (length value) (not_wrong _ place TooLong none) in omega arith

value_encodable : (all : List Component) (place : ℕ) (value : List ℕ) →
    value_fault all place value ≡ None → AllPass is_encodable value
value_encodable [] place value none =
    let empty : length value ≡ 0 = no_more place value none in λ k d within. absurd (omega arith)
value_encodable (Needed characters least greatest check ∷ rest) place value none =
    let split = neither (piece_fault (Needed characters least greatest check) place (take greatest value)) _ none in
    let P : List ℕ → Type 0 = λ xs. AllPass is_encodable xs in
    subst P (take-append-drop greatest value) (All-append (λ c. is_encodable c ≡ true) (take greatest value) (drop greatest value)
    (piece_encodable (Needed characters least greatest check) place (take greatest value) split.0)
    (value_encodable rest _ (drop greatest value) split.1))
value_encodable (Optional characters least greatest check ∷ rest) place value none =
    let split = neither (piece_fault (Optional characters least greatest check) place (take greatest value)) _ none in
    let P : List ℕ → Type 0 = λ xs. AllPass is_encodable xs in
    subst P (take-append-drop greatest value) (All-append (λ c. is_encodable c ≡ true) (take greatest value) (drop greatest value)
    (piece_encodable (Optional characters least greatest check) place (take greatest value) split.0)
    (value_encodable rest _ (drop greatest value) split.1))

-- ---- Lengths

piece_long : (characters : Characters) (least greatest : ℕ) (check : _) (place : ℕ) (piece : List ℕ) →
    piece_fault (Needed characters least greatest check) place piece ≡ None → least ≤ length piece
unfolding piece_fault
piece_long characters least greatest check place piece none =
    at_least (length piece) least
    (not_wrong _ _ TooShort (neither (fault_if (nat_lt (length piece) least) (place + length piece) TooShort) _ none).0)

same_number : (a b : ℕ) → (a == b) ≡ true → a ≡ b
same_number a b e = grind (arith, common_steps)

exact_length : (all : List Component) (size : ℕ) (value : List ℕ) → all ≢ [] → is_exact size all ≡ true →
    value_fault all 0 value ≡ None → length value ≡ size
exact_length [] size value some is none = absurd (some refl)
exact_length (Needed characters least greatest check ∷ []) size value some is none =
    let tests = both (least == size) (greatest == size) is in
    let low : least ≡ size = same_number _ _ tests.0 in
    let high : greatest ≡ size = same_number _ _ tests.1 in
    let split = neither (piece_fault (Needed characters least greatest check) 0 (take greatest value)) _ none in
    let long = piece_long characters least greatest check 0 (take greatest value) split.0 in
    let end = no_more _ (drop greatest value) split.1 in
    let whole : length (take greatest value) + length (drop greatest value) ≡ length value =
    sym (length-append (take greatest value) (drop greatest value)) ∙ ap length (take-append-drop greatest value) in
    omega (arith, length-drop greatest value)
exact_length (Needed characters least greatest check ∷ next ∷ rest) size value some is none =
    absurd (let h : false ≡ true = is in cc)
exact_length (Optional characters least greatest check ∷ rest) size value some is none =
    absurd (let h : false ≡ true = is in cc)

-- ---- Elements

-- The tests of an identifier.
pub identifier_tests : (number : ℕ) (identifier : List ℕ) → identifier_error number identifier ≡ None →
    (is_identifier identifier ≡ true) × (is_assigned identifier ≡ true)
unfolding identifier_error
identifier_tests number identifier e = passed (is_identifier identifier) (is_assigned identifier) _ _ e
  where
    passed : (a b : Bool) (x y : CheckError) → (if a then (if b then None else Some x) else Some y) ≡ None →
        (a ≡ true) × (b ≡ true)
    passed true true x y e = (refl, refl)
    passed true false x y e = absurd (let h : Some x ≡ None = e in cc)
    passed false b x y e = absurd (let h : Some y ≡ None = e in cc)

pub value_tests : (number : ℕ) (identifier value : List ℕ) → value_error number identifier value ≡ None →
    (0 < length value) × (value_fault (components (number_of_identifier identifier)) 0 value ≡ None)
unfolding value_error
value_tests number identifier value e =
    let none = none_mapped _ (option_or (fault_if (length value == 0) 0 TooShort) (value_fault (components (number_of_identifier identifier)) 0 value)) e in
    let split = neither (fault_if (length value == 0) 0 TooShort) _ none in
    (some (length value) (not_wrong _ 0 TooShort split.0), split.1)
  where
    some : (n : ℕ) → (n == 0) ≡ false → 0 < n
    some n e = grind (arith, common_steps)

lengths : (n : ℕ) → is_within 2 4 n ≡ true → (2 ≤ n) × (n ≤ 4)
lengths n e = (grind (arith, common_steps), grind (arith, common_steps))

some_components : (all : List Component) → not (length all == 0) ≡ true → all ≢ []
some_components all e none = absurd (let size : length all ≡ 0 = ap length none in grind (arith, common_steps))

-- An element that the table allows is readable, and has a value.
pub readable : (number : ℕ) (e : Element) → element_error number e ≡ None → IsReadable e × (0 < length e.value)
unfolding element_error
readable number e none =
    let split = neither (identifier_error number e.identifier) _ none in
    let tests = identifier_tests number e.identifier split.0 in
    let value = value_tests number e.identifier e.value split.1 in
    let parts = both (is_within 2 4 (length e.identifier)) (list_all is_decimal_digit e.identifier) tests.0 in
    let assigned = both (unwrap_or (identifier_length e.identifier) 0 == length e.identifier) _ tests.1 in
    let long = lengths _ parts.0 in
    let known : identifier_length e.identifier ≡ Some (length e.identifier) =
    known_length _ _ (same_number _ _ assigned.0) long.0 in
    let digits : AllPass is_encodable e.identifier = All-weaker _ (λ c. is_encodable c ≡ true) digit_encodable e.identifier
    (AllPass-from_list_all is_decimal_digit e.identifier parts.1) in (
      record {
        long = long.0;
        known = known;
        size = λ n is. (let rest : length e.value ≡ n - length e.identifier =
            exact_length (components (number_of_identifier e.identifier)) (n - length e.identifier) e.value
            (some_components _ assigned.1) (exact e.identifier n parts.1 long.0 long.1 known is) value.1 in
            omega (arith, length-append e.identifier e.value, value.0));
        encodable = All-append (λ c. is_encodable c ≡ true) e.identifier e.value digits
            (value_encodable (components (number_of_identifier e.identifier)) 0 e.value value.1);
      },
      value.0,
    )

-- Elements that the table allows are readable.
pub all_readable : (number : ℕ) (elements : List Element) → first_error number elements ≡ None → AllReadable elements
all_readable number [] none = tt
all_readable number (e ∷ elements) none =
    let split = neither (element_error number e) (first_error (number + 1) elements) none in
    ((readable number e split.0).0, all_readable (number + 1) elements split.1)

-- The value of an element that the table allows has characters of the set.
pub allowed_value : (number : ℕ) (e : Element) → element_error number e ≡ None → AllPass is_encodable e.value
unfolding element_error
allowed_value number e none =
    let split = neither (identifier_error number e.identifier) _ none in
    value_encodable (components (number_of_identifier e.identifier)) 0 e.value (value_tests number e.identifier e.value split.1).1
