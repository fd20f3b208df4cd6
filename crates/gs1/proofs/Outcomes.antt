-- An element string has one outcome: it is taken, or it has one first fault.
use Rattle.std.proofs.Common.{◌≡◌, ℕ, ◌+◌, List, [], ◌∷◌, length, refl, arith, ap, sym, ◌∙◌, inl, inr, subst}
use Rattle.std.specs.Prelude.{None, Some, ◌≢◌, ◌⊎◌}
use Rattle.gs1.specs.Elements.{Element, first_fault, fault_of}
use Rattle.gs1.specs.Reader.{Finds, BeginsWith, behind_first}
use Rattle.gs1.specs.Strings.{FindsBefore, BeginsWithFault, IsFirstFault, IsRefusedString, AreFaultless, HaveOneOutcome}
use Rattle.gs1.specs.declared.error.Gs1Error.{Gs1Error}
use Rattle.gs1.specs.declared.error.Gs1Error.TheVariants.{NoElements, InvalidIdentifier, UnknownIdentifier}
use Rattle.gs1.specs.declared.error.Gs1Error.TheVariants.{EmptyValue, ValueTooLong, InvalidCharacter}
use Rattle.gs1.specs.declared.error.Gs1Error.TheVariants.{WrongLength, WrongCheckDigit, OutOfMemory}
use Rattle.gs1.proofs.Faults.{neither}
use Rattle.gs1.proofs.Reading.{same_first, none_first, one_list}

some_same : (f g : Gs1Error) → Some f ≡ Some g → f ≡ g
some_same f g e = cc

-- Bytes begin with one fault.
one_here : (number : ℕ) (bytes : List ℕ) (f g : Gs1Error) → BeginsWithFault number bytes f →
    BeginsWithFault number bytes g → f ≡ g
one_here number bytes f g first second =
    elim first [
      | inl x ↦ elim second [
        | inl y ↦ some_same f g (sym x.2 ∙ ap (fault_of number) (same_first bytes x.0 y.0 x.1 y.1) ∙ y.2)
        | inr none ↦ absurd (none.0 x.0 x.1)
      ]
      | inr none ↦ elim second [
        | inl y ↦ absurd (none.0 y.0 y.1)
        | inr other ↦ none.1 ∙ sym other.1
      ]
    ]

-- Bytes that begin with an element without a fault begin with no fault.
sound_here : (number : ℕ) (bytes : List ℕ) (e : Element) (f : Gs1Error) → BeginsWith bytes e →
    fault_of number e ≡ None → BeginsWithFault number bytes f → ⊥
sound_here number bytes e f begins sound here =
    elim here [
      | inl x ↦ (let h : None ≡ Some f = sym sound ∙ ap (fault_of number) (same_first bytes e x.0 begins x.1) ∙ x.2 in cc)
      | inr none ↦ none.0 e begins
    ]

-- The fault after `at` elements.
at_rest : (at : ℕ) (bytes rest : List ℕ) (f : Gs1Error) → bytes ≡ rest → BeginsWithFault at rest f →
    BeginsWithFault at bytes f
at_rest at bytes rest f e here = let P : List ℕ → Type 0 = λ b. BeginsWithFault at b f in subst P (sym e) here

at_first : (number at : ℕ) (bytes rest : List ℕ) (f : Gs1Error) → number + 0 ≡ at → bytes ≡ rest →
    BeginsWithFault at rest f → BeginsWithFault number bytes f
at_first number at bytes rest f count e here =
    let same : at ≡ number = omega arith in
    let P : ℕ → Type 0 = λ n. BeginsWithFault n bytes f in subst P same (at_rest at bytes rest f e here)

one_fault : (number m n : ℕ) (bytes : List ℕ) (xs ys : List Element) (r s : List ℕ) (f g : Gs1Error) →
    number + length xs ≡ m → number + length ys ≡ n → FindsBefore bytes xs r → FindsBefore bytes ys s →
    first_fault number xs ≡ None → first_fault number ys ≡ None →
    BeginsWithFault m r f → BeginsWithFault n s g → f ≡ g
one_fault number m n bytes [] [] r s f g i j a b u v here there =
    one_here number bytes f g (at_first number m bytes r f i a here) (at_first number n bytes s g j b there)
one_fault number m n bytes [] (y ∷ ys) r s f g i j a b u v here there =
    absurd (sound_here number bytes y f b.0 (neither _ _ v).0 (at_first number m bytes r f i a here))
one_fault number m n bytes (x ∷ xs) [] r s f g i j a b u v here there =
    absurd (sound_here number bytes x g a.0 (neither _ _ u).0 (at_first number n bytes s g j b there))
one_fault number m n bytes (x ∷ xs) (y ∷ ys) r s f g i j a b u v here there =
    one_fault (number + 1) m n (behind_first bytes) xs ys r s f g (omega arith) (omega arith) a.1 b.1
    (neither _ _ u).1 (neither _ _ v).1 here there

-- Bytes that a reader finds to be elements without a fault have none.
no_fault : (number m : ℕ) (bytes : List ℕ) (es xs : List Element) (r : List ℕ) (f : Gs1Error) →
    number + length xs ≡ m → Finds bytes es → first_fault number es ≡ None → FindsBefore bytes xs r → r ≢ [] →
    BeginsWithFault m r f → ⊥
no_fault number m bytes [] [] r f i found u a more here = more (sym a ∙ found)
no_fault number m bytes [] (x ∷ xs) r f i found u a more here =
    none_first x (let P : List ℕ → Type 0 = λ bs. BeginsWith bs x in subst P found a.0)
no_fault number m bytes (e ∷ es) [] r f i found u a more here =
    sound_here number bytes e f found.0 (neither _ _ u).0 (at_first number m bytes r f i a here)
no_fault number m bytes (e ∷ es) (x ∷ xs) r f i found u a more here =
    no_fault (number + 1) m (behind_first bytes) es xs r f (omega arith) found.1 (neither _ _ u).1 a.1 more here

-- No bytes have no fault.
none_empty : (xs : List Element) (r : List ℕ) → FindsBefore [] xs r → r ≢ [] → ⊥
none_empty [] r found more = more (sym found)
none_empty (x ∷ xs) r found more = none_first x found.0

-- The two ways to be refused.
by_way : (bytes : List ℕ) (f : Gs1Error) → IsRefusedString bytes f →
    ((f ≡ NoElements) × (bytes ≡ [])) ⊎ IsFirstFault bytes f
by_way bytes NoElements is = inl (refl, is)
by_way bytes OutOfMemory is = absurd is
by_way bytes (InvalidIdentifier n) is = inr is
by_way bytes (UnknownIdentifier n) is = inr is
by_way bytes (EmptyValue n) is = inr is
by_way bytes (ValueTooLong n) is = inr is
by_way bytes (InvalidCharacter n p b) is = inr is
by_way bytes (WrongLength n) is = inr is
by_way bytes (WrongCheckDigit n) is = inr is

empty_first : (bytes : List ℕ) (f : Gs1Error) → bytes ≡ [] → IsFirstFault bytes f → ⊥
empty_first bytes f empty is =
    none_empty is.before is.rest (let P : List ℕ → Type 0 = λ b. FindsBefore b is.before is.rest in subst P empty is.found) is.more

one_first : (bytes : List ℕ) (f g : Gs1Error) → IsFirstFault bytes f → IsFirstFault bytes g → f ≡ g
one_first bytes f g a b =
    one_fault 0 (length a.before) (length b.before) bytes a.before b.before a.rest b.rest f g
    (omega arith) (omega arith) a.found b.found a.faultless b.faultless a.here b.here

one_refusal : (bytes : List ℕ) (f g : Gs1Error) → IsRefusedString bytes f → IsRefusedString bytes g → f ≡ g
one_refusal bytes f g first second =
    elim (by_way bytes f first) [
      | inl x ↦ elim (by_way bytes g second) [
        | inl y ↦ x.0 ∙ sym y.0
        | inr y ↦ absurd (empty_first bytes g x.1 y)
      ]
      | inr x ↦ elim (by_way bytes g second) [
        | inl y ↦ absurd (empty_first bytes f y.1 x)
        | inr y ↦ one_first bytes f g x y
      ]
    ]

never_both : (bytes : List ℕ) (f : Gs1Error) → AreFaultless bytes → IsRefusedString bytes f → ⊥
never_both bytes f good refused =
    elim (by_way bytes f refused) [
      | inl x ↦ good.some (one_list bytes good.elements [] good.found.found x.1)
      | inr x ↦ no_fault 0 (length x.before) bytes good.elements x.before x.rest f (omega arith)
          good.found.found good.faultless x.found x.more x.here
    ]

pub one_outcome : HaveOneOutcome
one_outcome = record { apart = never_both; alone = one_refusal }
