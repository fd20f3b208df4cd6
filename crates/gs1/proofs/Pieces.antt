-- Values without a fault are joined pieces, and joined pieces have none.
use Rattle.std.proofs.Common.{◌≡◌, ℕ, ◌+◌, ◌<◌, ◌≤◌, Bool, true, false, not, zero, suc, List, [], ◌∷◌, ◌++◌, length}
use Rattle.std.proofs.Common.{take, drop, get_or, refl, arith, ap, sym, ◌∙◌, subst, inl, inr}
use Rattle.std.specs.Prelude.{◌⊎◌, Option, None, Some, ◌&&◌, ◌||◌, ◌==◌, nat_lt, position, if◌then◌else◌}
use Rattle.std.specs.Option.{option_or}
use Rattle.std.specs.List.{AllPass}
use Rattle.std.proofs.lemmas.Grind.{common_steps}
use Rattle.std.proofs.lemmas.List.{take-append-drop, take_at, drop_at, take_all, drop_all, append-nil}
use Rattle.std.proofs.lemmas.List.Quantifiers.{position-Some}
use Rattle.gs1.specs.Checks.{fault_if}
use Rattle.gs1.specs.Pieces.{IsPiece, AreJoined, ValuesAreJoined}
use Rattle.gs1.specs.Table.{components, characters_of, least_of, greatest_of, check_of, is_optional}
use Rattle.gs1.specs.TableLaws.{is_cut, are_cut}
use Rattle.gs1.specs.Values.{is_allowed, wrong_character, check_fault, piece_fault, value_fault}
use Rattle.gs1.specs.declared.reason.Fault.{Fault}
use Rattle.gs1.specs.declared.reason.Reason.TheVariants.{TooShort, TooLong}
use Rattle.gs1.specs.declared.table.Component.{Component}
use Rattle.gs1.proofs.Faults.{neither, both, all_allowed}
use Rattle.gs1.proofs.Allowed.{not_wrong, at_least, none_mapped, not_zero}
use Rattle.gs1.proofs.Lengths.{all_cut}

-- ---- Numbers and lists

same_number : (a b : ℕ) → (a == b) ≡ true → a ≡ b
same_number a b e = grind (arith, common_steps)

more_than_none : (n : ℕ) → nat_lt 0 n ≡ true → 0 < n
more_than_none n e = grind (arith, common_steps)

long_enough : (m n : ℕ) → n ≤ m → nat_lt m n ≡ false
long_enough m n e = grind (arith, common_steps)

last_of : (a b : Bool) → a ≡ false → (a || b) ≡ true → b ≡ true
last_of true b fails e = absurd (let h : true ≡ false = fails in cc)
last_of false b fails e = e

no_bytes : (bytes : List ℕ) → length bytes ≤ 0 → bytes ≡ []
no_bytes [] none = refl
no_bytes (c ∷ bytes) none = absurd (omega arith)

is_empty : (bytes : List ℕ) → (length bytes == 0) ≡ true → bytes ≡ []
is_empty bytes e = no_bytes bytes (let size : length bytes ≡ 0 = same_number (length bytes) 0 e in omega (arith, size))

past : (n : ℕ) (xs : List ℕ) → length xs ≤ n → drop n xs ≡ []
past n xs short = grind (arith, drop_all)

short_taken : (n : ℕ) (xs : List ℕ) → length (take n xs) ≤ n
short_taken n xs = grind (arith, common_steps)

-- What is cut to nothing was nothing.
nothing_taken : (n : ℕ) (value : List ℕ) → 0 < n → take n value ≡ [] → value ≡ []
nothing_taken n [] some e = refl
nothing_taken zero (c ∷ value) some e = absurd (omega arith)
nothing_taken (suc n) (c ∷ value) some e = absurd (let h : c ∷ take n value ≡ [] = e in cc)

-- ---- Components

cut_rest : (component : Component) (rest : List Component) → are_cut (component ∷ rest) ≡ true → are_cut rest ≡ true
cut_rest component rest cut = (both (is_cut component rest) (are_cut rest) cut).1

some_long : (component : Component) (rest : List Component) → are_cut (component ∷ rest) ≡ true → 0 < greatest_of component
some_long component rest cut =
    more_than_none (greatest_of component)
    (both (nat_lt 0 (greatest_of component)) _ (both (is_cut component rest) (are_cut rest) cut).0).0

one_length : (component next : Component) (rest : List Component) → are_cut (component ∷ next ∷ rest) ≡ true →
    least_of component ≡ greatest_of component
one_length component next rest cut =
    let test = (both (nat_lt 0 (greatest_of component)) _ (both (is_cut component (next ∷ rest)) (are_cut (next ∷ rest)) cut).0).1 in
    same_number (least_of component) (greatest_of component)
    (last_of (length (next ∷ rest) == 0) (least_of component == greatest_of component) (not_zero (length (next ∷ rest)) (omega arith)) test)

-- ---- A value without a fault

-- The faults that a piece has not.
piece_of : (component : Component) (place : ℕ) (piece : List ℕ) → length piece ≤ greatest_of component →
    option_or (fault_if (nat_lt (length piece) (least_of component)) (place + length piece) TooShort)
    (option_or (wrong_character (characters_of component) place piece) (check_fault (check_of component) place piece)) ≡ None →
    IsPiece component place piece
piece_of component place piece short none =
    let first = neither (fault_if (nat_lt (length piece) (least_of component)) (place + length piece) TooShort) _ none in
    let second = neither (wrong_character (characters_of component) place piece) _ first.1 in
    record {
      long = at_least (length piece) (least_of component) (not_wrong _ _ TooShort first.0);
      short = short;
      characters = all_allowed (is_allowed (characters_of component)) piece
          (none_mapped _ (position (λ c. not (is_allowed (characters_of component) c)) piece) second.0);
      satisfies = second.1;
    }

left_or_piece : (component : Component) (place : ℕ) (piece : List ℕ) → length piece ≤ greatest_of component →
    piece_fault component place piece ≡ None →
    ((is_optional component ≡ true) × (piece ≡ [])) ⊎ IsPiece component place piece
unfolding piece_fault
left_or_piece component place piece short none =
    elim (is_optional component && (length piece == 0)) as (λ b. (is_optional component && (length piece == 0)) ≡ b →
    (if b then None else option_or (fault_if (nat_lt (length piece) (least_of component)) (place + length piece) TooShort)
    (option_or (wrong_character (characters_of component) place piece) (check_fault (check_of component) place piece))) ≡ None →
    ((is_optional component ≡ true) × (piece ≡ [])) ⊎ IsPiece component place piece) [
      | true ↦ λ is e. (let each = both (is_optional component) (length piece == 0) is in inl (each.0, is_empty piece each.1))
      | false ↦ λ is e. inr (piece_of component place piece short e)
    ] refl none

left_out : (component : Component) (rest : List Component) (place : ℕ) (value : List ℕ) → 0 < greatest_of component →
    (is_optional component ≡ true) × (take (greatest_of component) value ≡ []) →
    AreJoined rest (place + length (take (greatest_of component) value)) (drop (greatest_of component) value) →
    (is_optional component ≡ true) × (value ≡ []) × AreJoined rest place []
left_out component rest place value some left below =
    let none : value ≡ [] = nothing_taken (greatest_of component) value some left.1 in
    let size : length (take (greatest_of component) value) ≡ 0 = ap length left.1 in
    let here : place + length (take (greatest_of component) value) ≡ place = omega (arith, size) in
    let after : drop (greatest_of component) value ≡ [] =
    past (greatest_of component) value (let empty : length value ≡ 0 = ap length none in omega (arith, empty)) in
    let Q : ℕ → Type 0 = λ p. AreJoined rest p (drop (greatest_of component) value) in
    (left.0, none, subst (AreJoined rest place) after (subst Q here below))

pub joined : (all : List Component) (place : ℕ) (value : List ℕ) → are_cut all ≡ true → value_fault all place value ≡ None →
    AreJoined all place value
joined [] place value cut none = no_bytes value (at_least 0 (length value) (not_wrong _ place TooLong none))
joined (component ∷ rest) place value cut none =
    let piece : List ℕ = take (greatest_of component) value in
    let later : List ℕ = drop (greatest_of component) value in
    let split = neither (piece_fault component place piece) (value_fault rest (place + length piece) later) none in
    let below = joined rest (place + length piece) later (cut_rest component rest cut) split.1 in
    elim (left_or_piece component place piece (short_taken (greatest_of component) value) split.0) [
      | inl left ↦ inl (left_out component rest place value (some_long component rest cut) left below)
      | inr is ↦ inr (piece, later, sym (take-append-drop (greatest_of component) value), is, below)
    ]

-- ---- Joined pieces

all_right : (p : ℕ → Bool) (xs : List ℕ) → AllPass p xs → position (λ c. not (p c)) xs ≡ None
all_right p xs all = nowhere (position (λ c. not (p c)) xs) refl
  where
    opposite : (b : Bool) → b ≡ true → not b ≡ true → ⊥
    opposite true e h = let k : false ≡ true = h in cc
    opposite false e h = let k : false ≡ true = e in cc

    nowhere : (o : Option ℕ) → position (λ c. not (p c)) xs ≡ o → position (λ c. not (p c)) xs ≡ None
    nowhere None e = e
    nowhere (Some i) e =
        let f = position-Some (λ c. not (p c)) xs i 0 e in
        absurd (opposite (p (get_or xs i 0)) (all i 0 f.0) f.1)

piece_none : (component : Component) (place : ℕ) (piece : List ℕ) → IsPiece component place piece → piece_fault component place piece ≡ None
unfolding piece_fault
piece_none component place piece is =
    elim (is_optional component && (length piece == 0)) as (λ b.
    (if b then None else option_or (fault_if (nat_lt (length piece) (least_of component)) (place + length piece) TooShort)
    (option_or (wrong_character (characters_of component) place piece) (check_fault (check_of component) place piece))) ≡ None) [
      | true ↦ refl
      | false ↦ rw (
        long_enough (length piece) (least_of component) is.long,
        all_right (is_allowed (characters_of component)) piece is.characters,
        is.satisfies,
      ) refl
    ]

-- Where a piece is cut.
record IsCutAt (n : ℕ) (piece later : List ℕ) : Type 0 where
  front : take n (piece ++ later) ≡ piece
  back : drop n (piece ++ later) ≡ later

cut_whole : (n : ℕ) (piece later : List ℕ) → length piece ≡ n → IsCutAt n piece later
cut_whole n piece later e = record { front = take_at piece later n e; back = drop_at piece later n e }

cut_end : (n : ℕ) (piece later : List ℕ) → length piece ≤ n → later ≡ [] → IsCutAt n piece later
cut_end n piece later short none =
    let whole : piece ++ later ≡ piece = ap (λ xs. piece ++ xs) none ∙ append-nil piece in
    record {
      front = ap (take n) whole ∙ take_all n piece short;
      back = ap (drop n) whole ∙ past n piece short ∙ sym none;
    }

both_none : (a b : Option Fault) → a ≡ None → b ≡ None → option_or a b ≡ None
both_none a b first second = rw first second

piece_joined : (component : Component) (rest : List Component) (place : ℕ) (piece later : List ℕ) →
    IsCutAt (greatest_of component) piece later → IsPiece component place piece →
    value_fault rest (place + length piece) later ≡ None → value_fault (component ∷ rest) place (piece ++ later) ≡ None
piece_joined component rest place piece later cut is below =
    let front = cut.front in
    let back = cut.back in
    let first : piece_fault component place (take (greatest_of component) (piece ++ later)) ≡ None =
    ap (piece_fault component place) front ∙ piece_none component place piece is in
    let second : value_fault rest (place + length (take (greatest_of component) (piece ++ later))) (drop (greatest_of component) (piece ++ later)) ≡ None =
    ap (λ xs. value_fault rest (place + length xs) (drop (greatest_of component) (piece ++ later))) front
    ∙ ap (value_fault rest (place + length piece)) back ∙ below in
    both_none _ _ first second

left_joined : (component : Component) (rest : List Component) (place : ℕ) → is_optional component ≡ true →
    value_fault rest place [] ≡ None → value_fault (component ∷ rest) place [] ≡ None
unfolding piece_fault
left_joined component rest place optional below =
    let none : List ℕ = [] in
    let front : take (greatest_of component) none ≡ none = take_all (greatest_of component) none (omega arith) in
    let back : drop (greatest_of component) none ≡ none = past (greatest_of component) none (omega arith) in
    let here : place + 0 ≡ place = omega arith in
    let first : piece_fault component place (take (greatest_of component) none) ≡ None =
    ap (piece_fault component place) front ∙ (rw optional refl) in
    let second : value_fault rest (place + length (take (greatest_of component) none)) (drop (greatest_of component) none) ≡ None =
    ap (λ xs. value_fault rest (place + length xs) (drop (greatest_of component) none)) front
    ∙ ap (value_fault rest (place + 0)) back ∙ ap (λ p. value_fault rest p none) here ∙ below in
    both_none _ _ first second

where_cut : (component : Component) (rest : List Component) (piece later : List ℕ) (place next : ℕ) →
    are_cut (component ∷ rest) ≡ true → IsPiece component place piece → AreJoined rest next later →
    IsCutAt (greatest_of component) piece later
where_cut component [] piece later place next cut is none = cut_end (greatest_of component) piece later is.short none
where_cut component (after ∷ rest) piece later place next cut is below =
    let one : least_of component ≡ greatest_of component = one_length component after rest cut in
    cut_whole (greatest_of component) piece later (omega (arith, one, is.long, is.short))

pub faultless : (all : List Component) (place : ℕ) (value : List ℕ) → are_cut all ≡ true → AreJoined all place value →
    value_fault all place value ≡ None
faultless [] place value cut is = ap (value_fault [] place) is
faultless (component ∷ rest) place value cut is =
    let later_cut = cut_rest component rest cut in
    elim is [
      | inl left ↦ ap (value_fault (component ∷ rest) place) left.1
          ∙ left_joined component rest place left.0 (faultless rest place [] later_cut left.2)
      | inr parts ↦ ap (value_fault (component ∷ rest) place) parts.2
          ∙ piece_joined component rest place parts.0 parts.1
          (where_cut component rest parts.0 parts.1 place (place + length parts.0) cut parts.3 parts.4)
          parts.3 (faultless rest (place + length parts.0) parts.1 later_cut parts.4)
    ]

pub values_are_joined : ValuesAreJoined
values_are_joined number value =
    (joined (components number) 0 value (all_cut number), faultless (components number) 0 value (all_cut number))
