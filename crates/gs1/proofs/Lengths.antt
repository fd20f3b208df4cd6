-- Values that the table allows have at most 90 characters, and are cut in one way.
use Rattle.std.proofs.Common.{◌≡◌, ℕ, ◌+◌, ◌≤◌, true, false, List, [], ◌∷◌, length, take, drop}
use Rattle.std.proofs.Common.{arith}
use Rattle.std.specs.Prelude.{None, nat_lt, nat_le}
use Rattle.std.proofs.lemmas.Grind.{common_steps}
use Rattle.std.proofs.lemmas.List.{length-drop}
use Rattle.gs1.specs.Elements.{Element}
use Rattle.gs1.specs.Table.{components, greatest_of}
use Rattle.gs1.specs.TableLaws.{total, are_cut}
use Rattle.gs1.specs.Values.{value_fault, piece_fault, element_error, identifier_error, number_of_identifier}
use Rattle.gs1.specs.declared.reason.Reason.TheVariants.{TooLong}
use Rattle.gs1.specs.declared.table.Component.{Component}
use Rattle.gs1.proofs.Faults.{neither, both}
use Rattle.gs1.proofs.Allowed.{value_tests, not_wrong}
use Rattle.gs1.proofs.RowLemmas.{all_fit}

within_total : (all : List Component) (place : ℕ) (value : List ℕ) → value_fault all place value ≡ None → length value ≤ total all
within_total [] place value none = least (length value) (not_wrong _ place TooLong none)
  where
    least : (n : ℕ) → nat_lt 0 n ≡ false → n ≤ 0
    least n e = grind (arith, common_steps)
within_total (component ∷ rest) place value none =
    let split = neither (piece_fault component place (take (greatest_of component) value)) _ none in
    let below = within_total rest (place + length (take (greatest_of component) value)) (drop (greatest_of component) value) split.1 in
    omega (arith, below, length-drop (greatest_of component) value)

-- The components of each identifier are cut in one way.
pub all_cut : (n : ℕ) → are_cut (components n) ≡ true
all_cut n = (both (nat_le (total (components n)) 90) (are_cut (components n)) (all_fit n)).1

at_most : (m n : ℕ) → nat_le m n ≡ true → m ≤ n
at_most m n e = grind (arith, common_steps)

pub short_value : (number : ℕ) (e : Element) → element_error number e ≡ None → length e.value ≤ 90
unfolding element_error
short_value number e none =
    let split = neither (identifier_error number e.identifier) _ none in
    let value = value_tests number e.identifier e.value split.1 in
    let within = within_total (components (number_of_identifier e.identifier)) 0 e.value value.1 in
    let size = (both (nat_le (total (components (number_of_identifier e.identifier))) 90) (are_cut (components (number_of_identifier e.identifier)))
    (all_fit (number_of_identifier e.identifier))).0 in
    let most = at_most (total (components (number_of_identifier e.identifier))) 90 size in
    omega (arith, within, most)
