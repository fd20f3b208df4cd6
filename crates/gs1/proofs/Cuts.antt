-- Elements that a reader finds one after the other.
use Rattle.std.proofs.Common.{◌≡◌, ℕ, ◌+◌, ◌<◌, ◌≤◌, List, [], ◌∷◌, ◌++◌, length}
use Rattle.std.proofs.Common.{refl, arith, sym, subst}
use Rattle.std.specs.Prelude.{None, Some, ◌≢◌}
use Rattle.std.proofs.lemmas.List.{length-drop}
use Rattle.std.proofs.lemmas.Grind.{common_steps}
use Rattle.gs1.specs.Identifiers.{predefined_length, predefined_length_of}
use Rattle.gs1.specs.Elements.{Element, first_fault, fault_of}
use Rattle.gs1.specs.Reader.{Finds, BeginsWith, behind_first, back}
use Rattle.gs1.specs.Strings.{FindsBefore, FindsAt, BeginsWithNone, AreFaultless}
use Rattle.gs1.proofs.Reading.{one_list}
use Rattle.gs1.proofs.Faults.{neither}

-- One element more.
pub before_more : (bytes : List ℕ) (before : List Element) (rest : List ℕ) (e : Element) →
    FindsBefore bytes before rest → BeginsWith rest e → FindsBefore bytes (before ++ e ∷ []) (behind_first rest)
before_more bytes [] rest e found begins =
    let P : List ℕ → Type 0 = λ b. BeginsWith b e × (behind_first b ≡ behind_first rest) in
    subst P (sym found) (begins, refl)
before_more bytes (x ∷ xs) rest e found begins = (found.0, before_more (behind_first bytes) xs rest e found.1 begins)

pub faultless_more : (number at : ℕ) (before : List Element) (e : Element) → number + length before ≡ at →
    first_fault number before ≡ None → fault_of at e ≡ None → first_fault number (before ++ e ∷ []) ≡ None
faultless_more number at [] e count none here =
    let same : at ≡ number = omega arith in
    let first : fault_of number e ≡ None = rw same at here in
    rw first refl
faultless_more number at (x ∷ xs) e count none here =
    let split = neither (fault_of number x) (first_fault (number + 1) xs) none in
    let others = faultless_more (number + 1) at xs e (omega arith) split.1 here in
    rw split.0 others

-- Where nothing is left, the reader has found all.
pub finds_all : (bytes : List ℕ) (elements : List Element) → FindsBefore bytes elements [] → Finds bytes elements
finds_all bytes [] found = found
finds_all bytes (e ∷ elements) found = (found.0, finds_all (behind_first bytes) elements found.1)

pub faultless : (bytes : List ℕ) (elements : List Element) → bytes ≢ [] → FindsBefore bytes elements [] →
    first_fault 0 elements ≡ None → AreFaultless bytes
faultless bytes elements some found none =
    let finds : Finds bytes elements = finds_all bytes elements found in
    record {
      elements = elements;
      found = record { found = finds; only = λ others other. one_list bytes others elements other finds };
      some = λ empty. some (nothing bytes elements empty found);
      faultless = none;
    }
  where
    nothing : (bytes : List ℕ) (elements : List Element) → elements ≡ [] → FindsBefore bytes elements [] → bytes ≡ []
    nothing bytes [] empty found = found
    nothing bytes (e ∷ elements) empty found = absurd (let h : e ∷ elements ≡ [] = empty in cc)

-- No element is found where the bytes begin with none, nor after it.
pub none_after : (bytes : List ℕ) (before : List Element) (rest : List ℕ) (number : ℕ) (e : Element) →
    FindsBefore bytes before rest → BeginsWithNone rest → length before ≤ number → FindsAt bytes number e → ⊥
none_after bytes before rest number e found none within at =
    none_past bytes before rest at.before at.rest found none (omega (arith, at.count)) at.found at.here
  where
    none_past : (bytes : List ℕ) (before : List Element) (rest : List ℕ) (others : List Element) (last : List ℕ) →
        FindsBefore bytes before rest → BeginsWithNone rest → length before ≤ length others →
        FindsBefore bytes others last → BeginsWith last e → ⊥
    none_past bytes [] rest [] last found none within other here =
        let P : List ℕ → Type 0 = λ b. BeginsWith b e in none e (subst P found (subst P (sym other) here))
    none_past bytes [] rest (y ∷ ys) last found none within other here =
        let P : List ℕ → Type 0 = λ b. BeginsWith b y in none y (subst P found other.0)
    none_past bytes (x ∷ xs) rest [] last found none within other here = absurd (omega arith)
    none_past bytes (x ∷ xs) rest (y ∷ ys) last found none within other here =
        none_past (behind_first bytes) xs rest ys last found.1 none (omega arith) other.1 here

-- A reader goes on.
some_length : (bytes : List ℕ) (n : ℕ) → predefined_length bytes ≡ Some n → 0 < n
unfolding predefined_length_of
some_length bytes n e = grind (arith, common_steps)

pub shorter : (bytes : List ℕ) → 0 < length bytes → length (behind_first bytes) < length bytes
shorter bytes some =
    elim (predefined_length bytes) as (λ o. predefined_length bytes ≡ o → length (back o bytes) < length bytes) [
      | Some n ↦ λ is. omega (arith, length-drop n bytes, some_length bytes n is)
      | None ↦ λ is. grind (arith, length-drop)
    ] refl
