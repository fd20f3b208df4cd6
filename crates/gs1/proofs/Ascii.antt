-- The text that writes elements is ASCII.
use Rattle.std.proofs.Common.{◌≡◌, ℕ, ◌<◌, ◌≤◌, true, List, [], ◌∷◌, ◌++◌, length, get_or, arith, inl, inr}
use Rattle.std.specs.Prelude.{All}
use Rattle.std.specs.Str.{IsAscii, IsUtf8}
use Rattle.std.proofs.lemmas.Bool.{cases_lt}
use Rattle.std.proofs.lemmas.Grind.{common_steps}
use Rattle.std.proofs.lemmas.List.Elements.{All-nil, All-cons, All-head, All-tail, All-append, All-weaker}
use Rattle.std.proofs.lemmas.Str.{IsUtf8-from_ascii}
use Rattle.gs1.specs.Identifiers.{is_encodable}
use Rattle.gs1.specs.Elements.{Element, bracketed}
use Rattle.gs1.proofs.Reading.{IsReadable, AllReadable}

abbrev IsSmall : ℕ → Type 0
IsSmall c = c < 128

encodable_small : (c : ℕ) → is_encodable c ≡ true → IsSmall c
encodable_small c e = grind (arith, common_steps)

both_parts : (xs ys : List ℕ) → All IsSmall (xs ++ ys) → All IsSmall xs × All IsSmall ys
both_parts [] ys all = (All-nil IsSmall, all)
both_parts (x ∷ xs) ys all =
    let rest = both_parts xs ys (All-tail IsSmall x (xs ++ ys) all) in
    (All-cons IsSmall x xs (All-head IsSmall x (xs ++ ys) all) rest.0, rest.1)

element_small : (e : Element) → IsReadable e → All IsSmall (0x28 ∷ e.identifier ++ 0x29 ∷ e.value)
element_small e good =
    let parts = both_parts e.identifier e.value
    (All-weaker (λ c. is_encodable c ≡ true) IsSmall encodable_small (e.identifier ++ e.value) good.encodable) in
    All-append IsSmall (0x28 ∷ e.identifier) (0x29 ∷ e.value)
    (All-cons IsSmall 0x28 e.identifier (omega arith) parts.0) (All-cons IsSmall 0x29 e.value (omega arith) parts.1)

all_small : (elements : List Element) → AllReadable elements → All IsSmall (bracketed elements)
all_small [] good = All-nil IsSmall
all_small (e ∷ elements) good =
    All-append IsSmall (0x28 ∷ e.identifier ++ 0x29 ∷ e.value) (bracketed elements) (element_small e good.0) (all_small elements good.1)

past_end : (xs : List ℕ) (i : ℕ) → length xs ≤ i → get_or xs i 0 < 128
past_end xs i past = grind (arith, common_steps)

pub bracketed_utf8 : (elements : List Element) → AllReadable elements → IsUtf8 (bracketed elements)
bracketed_utf8 elements good =
    let small = all_small elements good in
    let ascii : IsAscii (bracketed elements) = λ i. (elim (cases_lt i (length (bracketed elements))) [
      | inl within ↦ small i 0 within
      | inr past ↦ past_end (bracketed elements) i past
    ]) in
    IsUtf8-from_ascii (bracketed elements) ascii
