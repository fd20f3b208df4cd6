-- Elements of what a scanner gives.
use Rattle.std.proofs.Common.{◌≡◌, ℕ, List, [], ◌∷◌, ◌++◌, map, sym, subst, ◌∙◌}
use Rattle.std.proofs.lemmas.List.{map-append}
use Rattle.std.specs.Prelude.{◌≢◌}
use Rattle.gs1.specs.Elements.{Element}
use Rattle.gs1.specs.Reader.{Finds, FindsOnly, BeginsWith, behind_first}
use Rattle.gs1.specs.Strings.{FindsBefore, BeginsWithNone}
use Rattle.gs1.specs.Checked.{AreAllowedElements, IsRefusedStringByTable}
use Rattle.gs1.specs.Elements.{bracketed}
use Rattle.gs1.specs.Read.{IsRefusedScan, WritesFirst}
use Rattle.gs1.proofs.Cuts.{shorter}
use Rattle.std.proofs.Common.{◌<◌, length, arith, refl, ap}
use Rattle.gs1.specs.declared.refusal.CheckError.{CheckError}
use Rattle.gs1.specs.declared.refusal.CheckError.TheVariants.{NoElements, InvalidIdentifier, UnknownIdentifier}
use Rattle.gs1.specs.declared.refusal.CheckError.TheVariants.{WrongValue, OutOfMemory}
use Rattle.gs1.proofs.Reading.{one_list, none_first}
use Rattle.gs1.proofs.Cuts.{finds_all, before_more}

-- Where a reader finds elements and no others, what is left begins with an element.
some_first : (bytes : List ℕ) (all before : List Element) (rest : List ℕ) → Finds bytes all →
    FindsBefore bytes before rest → rest ≢ [] → BeginsWithNone rest → ⊥
some_first bytes [] [] rest found here more none = more (sym here ∙ found)
some_first bytes (e ∷ all) [] rest found here more none =
    none e (let P : List ℕ → Type 0 = λ b. BeginsWith b e in subst P here found.0)
some_first bytes [] (x ∷ before) rest found here more none =
    none_first x (let P : List ℕ → Type 0 = λ b. BeginsWith b x in subst P found here.0)
some_first bytes (e ∷ all) (x ∷ before) rest found here more none =
    some_first (behind_first bytes) all before rest found.1 here.1 more none

pub never_none : (bytes : List ℕ) (before : List Element) (rest : List ℕ) → AreAllowedElements bytes →
    FindsBefore bytes before rest → rest ≢ [] → BeginsWithNone rest → ⊥
never_none bytes before rest good here more none =
    some_first bytes good.elements before rest good.found.found here more none

-- Where nothing is left, these are all.
pub all_found : (bytes : List ℕ) (elements : List Element) (rest : List ℕ) → FindsBefore bytes elements rest → rest ≡ [] →
    FindsOnly bytes elements
all_found bytes elements rest found none =
    let P : List ℕ → Type 0 = λ r. FindsBefore bytes elements r in
    let finds : Finds bytes elements = finds_all bytes elements (subst P none found) in
    record { found = finds; only = λ others other. one_list bytes others elements other finds }

-- The refusal of the test is why a scan is refused.
pub refused_scan : (bytes : List ℕ) (error : CheckError) → IsRefusedStringByTable bytes error → IsRefusedScan bytes error
refused_scan bytes OutOfMemory e = absurd e
refused_scan bytes NoElements e = e
refused_scan bytes (InvalidIdentifier n) e = e
refused_scan bytes (UnknownIdentifier n i) e = e
refused_scan bytes (WrongValue n i p r) e = e

-- One element more.
pub pushed : {X : Type 0} (f : X → Element) (bytes : List ℕ) (items longer : List X) (x : X) (rest next : List ℕ) →
    longer ≡ items ++ x ∷ [] → next ≡ behind_first rest → FindsBefore bytes (map f items) rest →
    BeginsWith rest (f x) → FindsBefore bytes (map f longer) next
pushed f bytes items longer x rest next longer_is next_is found begins =
    rw (longer_is, next_is, map-append f items (x ∷ [])) (before_more bytes (map f items) rest (f x) found begins)

-- What is left behind an element is shorter.
pub begun_shorter : (bytes next : List ℕ) (e : Element) → next ≡ behind_first bytes → BeginsWith bytes e → length next < length bytes
begun_shorter [] next e is begins = absurd (none_first e begins)
begun_shorter (x ∷ bytes) next e is begins = rw is (shorter (x ∷ bytes) (let some : 0 < length (x ∷ bytes) = omega arith in some))

not_empty : (x : ℕ) (xs : List ℕ) → (x ∷ xs ≡ []) → ⊥
not_empty x xs e = cc

-- Where a reader finds elements and no others, the text writes all of them.
pub writes_all : (bytes text : List ℕ) (all : List Element) → Finds bytes all → WritesFirst bytes text → text ≡ bracketed all
writes_all bytes text all found w =
    let ends : w.rest ≡ [] = empty w.rest (λ more. some_first bytes all w.elements w.rest found w.found more w.none) in
    let P : List ℕ → Type 0 = λ r. FindsBefore bytes w.elements r in
    let finds : Finds bytes w.elements = finds_all bytes w.elements (subst P ends w.found) in
    w.text_is ∙ ap bracketed (one_list bytes w.elements all finds found)
  where
    empty : (xs : List ℕ) → (xs ≢ [] → ⊥) → xs ≡ []
    empty [] some = refl
    empty (x ∷ xs) some = absurd (some (not_empty x xs))
