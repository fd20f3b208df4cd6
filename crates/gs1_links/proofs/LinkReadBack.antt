-- A link without a fault is read as its elements, and a link that is read has no fault.
use Rattle.std.proofs.Common.{◌≡◌, ℕ, ◌+◌, ◌%◌, ◌≤◌, Bool, true, false, cond, suc, List, [], ◌∷◌}
use Rattle.std.proofs.Common.{length, map, drop, refl, arith, ap, sym, subst, ◌∙◌, inl, inr}
use Rattle.std.specs.Prelude.{All, Option, None, Some, ◌⊎◌, ◌==◌, ◌||◌, nat_lt}
use Rattle.std.specs.List.{after_first, position_or_len, list_any}
use Rattle.std.specs.Option.{option_map}
use Rattle.std.proofs.lemmas.Grind.{common_steps}
use Rattle.std.proofs.lemmas.List.Elements.{All-nil, All-cons, All-head, All-tail}
use Rattle.gs1.specs.Elements.{Element}
use Rattle.gs1.specs.Values.{element_error}
use Rattle.gs1_base.specs.Percent.{ReadsAs}
use Rattle.gs1_links.specs.Links.{number}
use Rattle.gs1_links.specs.LinkReader.{ReadsPath, follows}
use Rattle.gs1_links.specs.LinkFaults.{decoded, is_readable_link, decoded_element, escaped_fault, written_fault, pairs}
use Rattle.gs1_links.specs.LinkFaults.{order_fault, qualifiers_fault}
use Rattle.gs1_links.specs.declared.link_error.LinkReadError.TheVariants.{WrongEscape, Elements, WrongQualifier}
use Rattle.gs1.specs.declared.refusal.CheckError.{CheckError}
use Rattle.gs1.proofs.Faults.{neither}
use Rattle.gs1.proofs.Allowed.{none_mapped}
use Rattle.gs1_links.proofs.LinkValues.{reads_decoded, decoded_reads}
use Rattle.gs1_links.proofs.LinkElements.{linkable, any_place}
use Rattle.gs1.proofs.Lengths.{short_value}

-- ---- One element

if_none : {X : Type 0} (b : Bool) (x : X) (t : Option X) → cond b t (Some x) ≡ None → (b ≡ true) × (t ≡ None)
if_none true x t e = (refl, e)
if_none false x t e = absurd (let h : Some x ≡ None = e in cc)

some_none : {X : Type 0} (b : Bool) (x : X) → cond b (Some x) None ≡ None → b ≡ false
some_none true x e = absurd (let h : Some x ≡ None = e in cc)
some_none false x e = refl

-- What an element without a fault is.
pub record IsSoundWritten (e : Element) : Type 0 where
  pub readable : is_readable_link e.value ≡ true
  pub allowed : element_error 0 (decoded_element e) ≡ None

pub sound_written : (place : ℕ) (e : Element) → written_fault place e ≡ None → IsSoundWritten e
unfolding escaped_fault
sound_written place e none =
    let split = neither (escaped_fault place e.value) _ none in
    let text = if_none (is_readable_link e.value) (WrongEscape place) _ split.0 in
    let table = none_mapped (λ (error : CheckError). Elements error) (element_error place (decoded_element e)) split.1 in
    record { readable = text.0; allowed = (linkable place (decoded_element e) table).allowed }

mapped_none : {X Y : Type 0} (f : X → Y) (o : Option X) → o ≡ None → option_map f o ≡ None
mapped_none f None e = refl
mapped_none f (Some x) e = absurd (let h : Some x ≡ None = e in cc)

not_more : (m n : ℕ) → n ≤ m → nat_lt m n ≡ false
not_more m n e = grind (arith, common_steps)

pub written_none : (place : ℕ) (identifier text value : List ℕ) → ReadsAs text value →
    element_error 0 (let e : Element = record { identifier = identifier; value = value } in e) ≡ None →
    written_fault place (let e : Element = record { identifier = identifier; value = text } in e) ≡ None
unfolding escaped_fault
written_none place identifier text value reads allowed =
    let found = reads_decoded text value reads in
    let E : List ℕ → Element = λ v. record { identifier = identifier; value = v } in
    let fine : element_error place (E (decoded text)) ≡ None =
    any_place 0 place (E (decoded text)) (subst (λ v. element_error 0 (E v) ≡ None) (sym found.1) allowed) in
    let short : length (decoded text) ≤ 90 = subst (λ v. length v ≤ 90) (sym found.1) (short_value 0 (E value) allowed) in
    rw (found.0, not_more 90 (length (decoded text)) short)
    (mapped_none (λ (error : CheckError). Elements error) (element_error place (E (decoded text))) fine)

pub same_value : (identifier v w : List ℕ) → v ≡ w →
    (let e : Element = record { identifier = identifier; value = v } in e) ≡ (let e : Element = record { identifier = identifier; value = w } in e)
same_value identifier v w e = cc

-- ---- The path

-- The pairs of segments that are read are the elements.
pub path_elements_are : (segments : List (List ℕ)) (elements : List Element) → ReadsPath segments elements →
    map decoded_element (pairs segments) ≡ elements
path_elements_are segments [] reads = ap (λ s. map decoded_element (pairs s)) reads
path_elements_are segments (e ∷ elements) reads =
    let found = reads_decoded reads.0 e.value reads.3 in
    let below = path_elements_are reads.1 elements reads.4 in
    ap (λ s. map decoded_element (pairs s)) reads.2
    ∙ ap (λ x. x ∷ map decoded_element (pairs reads.1)) (same_value e.identifier (decoded reads.0) e.value found.1)
    ∙ ap (λ xs. e ∷ xs) below

two_less : (n : ℕ) → (suc (suc n) % 2 == 0) ≡ true → (n % 2 == 0) ≡ true
two_less n e = grind (arith, common_steps)

-- Pairs of segments that can be read are read.
pub path_reads : (segments : List (List ℕ)) → (length segments % 2 == 0) ≡ true → All IsSoundWritten (pairs segments) →
    ReadsPath segments (map decoded_element (pairs segments))
path_reads [] even good = refl
path_reads (s ∷ []) even good = absurd (let h : false ≡ true = even in cc)
path_reads (s ∷ t ∷ segments) even good =
    let first = All-head IsSoundWritten (let e : Element = record { identifier = s; value = t } in e) (pairs segments) good in (
      t,
      segments,
      refl,
      decoded_reads t first.readable,
      path_reads segments (two_less (length segments) even)
          (All-tail IsSoundWritten (let e : Element = record { identifier = s; value = t } in e) (pairs segments) good),
    )

-- ---- Orders

after_yes : (p : ℕ → Bool) (m : ℕ) (order : List ℕ) → p m ≡ true → after_first p (m ∷ order) ≡ order
after_yes p m order e = rw e refl

after_no : (p : ℕ → Bool) (m : ℕ) (order : List ℕ) → p m ≡ false → after_first p (m ∷ order) ≡ after_first p order
after_no p m order e =
    rw e (let h : 1 + position_or_len p order + 1 ≡ suc (position_or_len p order + 1) = omega arith in ap (λ j. drop j (m ∷ order)) h)

follows_step : (n : ℕ) (ns order : List ℕ) → list_any (λ m. m == n) order ≡ true →
    follows ns (after_first (λ m. m == n) order) ≡ true → follows (n ∷ ns) order ≡ true
follows_step n ns [] any behind = absurd (let h : false ≡ true = any in cc)
follows_step n ns (m ∷ order) any behind =
    elim (m == n) as (λ b. (m == n) ≡ b → cond b (follows ns order) (follows (n ∷ ns) order) ≡ true) [
      | true ↦ λ e. subst (λ o. follows ns o ≡ true) (after_yes (λ m. m == n) m order e) behind
      | false ↦ λ e. follows_step n ns order (rw e at any)
          (subst (λ o. follows ns o ≡ true) (after_no (λ m. m == n) m order e) behind)
    ] refl

follows_back : (n : ℕ) (ns order : List ℕ) → follows (n ∷ ns) order ≡ true →
    (list_any (λ m. m == n) order ≡ true) × (follows ns (after_first (λ m. m == n) order) ≡ true)
follows_back n ns [] is = absurd (let h : false ≡ true = is in cc)
follows_back n ns (m ∷ order) is =
    elim (m == n) as (λ b. (m == n) ≡ b → cond b (follows ns order) (follows (n ∷ ns) order) ≡ true →
    ((b || list_any (λ m. m == n) order) ≡ true) × (follows ns (after_first (λ m. m == n) (m ∷ order)) ≡ true)) [
      | true ↦ λ e h. (refl, subst (λ o. follows ns o ≡ true) (sym (after_yes (λ m. m == n) m order e)) h)
      | false ↦ λ e h.
          (let below = follows_back n ns order h in
          (below.0, subst (λ o. follows ns o ≡ true) (sym (after_no (λ m. m == n) m order e)) below.1))
    ] refl is

follows_some : (n m : ℕ) (ms order : List ℕ) → follows (m ∷ ms) (after_first (λ m. m == n) order) ≡ true →
    list_any (λ m. m == n) order ≡ true
follows_some n m ms [] is = absurd (let h : false ≡ true = is in cc)
follows_some n m ms (o ∷ order) is =
    elim (o == n) as (λ b. (o == n) ≡ b → (b || list_any (λ m. m == n) order) ≡ true) [
      | true ↦ λ e. refl
      | false ↦ λ e. follows_some n m ms order
          (subst (λ r. follows (m ∷ ms) r ≡ true) (after_no (λ m. m == n) o order e) is)
    ] refl

either : (a b : Bool) → (a || b) ≡ true → (a ≡ true) ⊎ (b ≡ true)
either true b e = inl refl
either false b e = inr e

-- Numbers follow one of two orders.
abbrev pub FollowsOne : List ℕ → List ℕ → List ℕ → Type 0
FollowsOne numbers first second = (follows numbers first ≡ true) ⊎ (follows numbers second ≡ true)

one_more : (n : ℕ) (ns first second : List ℕ) → (list_any (λ m. m == n) first || list_any (λ m. m == n) second) ≡ true →
    FollowsOne ns (after_first (λ m. m == n) first) (after_first (λ m. m == n) second) → FollowsOne (n ∷ ns) first second
one_more n [] first second any behind =
    elim (either (list_any (λ m. m == n) first) (list_any (λ m. m == n) second) any) [
      | inl f ↦ inl (follows_step n [] first f refl)
      | inr s ↦ inr (follows_step n [] second s refl)
    ]
one_more n (m ∷ ms) first second any behind =
    elim behind [
      | inl f ↦ inl (follows_step n (m ∷ ms) first (follows_some n m ms first f) f)
      | inr s ↦ inr (follows_step n (m ∷ ms) second (follows_some n m ms second s) s)
    ]

in_order : (first second : List ℕ) (place n : ℕ) → order_fault first second place n ≡ None →
    (list_any (λ m. m == n) first || list_any (λ m. m == n) second) ≡ true
unfolding order_fault
in_order first second place n none =
    yes (list_any (λ m. m == n) first || list_any (λ m. m == n) second) none
  where
    yes : (b : Bool) → cond b None (Some (WrongQualifier place n)) ≡ None → b ≡ true
    yes true e = refl
    yes false e = absurd (let h : Some (WrongQualifier place n) ≡ None = e in cc)

-- Qualifiers without a fault.
pub sound_qualifiers : (first second : List ℕ) (place : ℕ) (elements : List Element) →
    qualifiers_fault first second place elements ≡ None →
    All IsSoundWritten elements × FollowsOne (map number elements) first second
sound_qualifiers first second place [] none = (All-nil IsSoundWritten, inl refl)
sound_qualifiers first second place (e ∷ elements) none =
    let one = neither (written_fault place e) _ none in
    let two = neither (order_fault first second place (number e)) _ one.1 in
    let below = sound_qualifiers (after_first (λ m. m == number e) first) (after_first (λ m. m == number e) second) (place + 1) elements two.1 in (
      All-cons IsSoundWritten e elements (sound_written place e one.0) below.0,
      one_more (number e) (map number elements) first second (in_order first second place (number e) two.0) below.1,
    )

order_none : (first second : List ℕ) (place n : ℕ) →
    (list_any (λ m. m == n) first || list_any (λ m. m == n) second) ≡ true → order_fault first second place n ≡ None
unfolding order_fault
order_none first second place n any = rw any refl

either_true : (a b : Bool) → (a ≡ true) ⊎ (b ≡ true) → (a || b) ≡ true
either_true a b e = elim e [ inl f ↦ rw f refl | inr s ↦ right a b s ]
  where
    right : (a b : Bool) → b ≡ true → (a || b) ≡ true
    right true b e = refl
    right false b e = e

-- Qualifiers that are read have no fault.
pub qualifiers_none : (first second : List ℕ) (place : ℕ) (segments : List (List ℕ)) (elements : List Element) →
    ReadsPath segments elements → All (λ e. element_error 0 e ≡ None) elements →
    FollowsOne (map number elements) first second → qualifiers_fault first second place (pairs segments) ≡ None
qualifiers_none first second place segments [] reads allowed follow =
    ap (λ s. qualifiers_fault first second place (pairs s)) reads
qualifiers_none first second place segments (e ∷ elements) reads allowed follow =
    let n : ℕ = number e in
    let here = written_none place e.identifier reads.0 e.value reads.3 (All-head (λ e. element_error 0 e ≡ None) e elements allowed) in
    let back : ((list_any (λ m. m == n) first || list_any (λ m. m == n) second) ≡ true)
    × FollowsOne (map number elements) (after_first (λ m. m == n) first) (after_first (λ m. m == n) second) =
    elim follow [
      | inl f ↦ (let b = follows_back n (map number elements) first f in (either_true _ _ (inl b.0), inl b.1))
      | inr s ↦ (let b = follows_back n (map number elements) second s in (either_true _ _ (inr b.0), inr b.1))
    ] in
    let below = qualifiers_none (after_first (λ m. m == n) first) (after_first (λ m. m == n) second) (place + 1) reads.1 elements
    reads.4 (All-tail (λ e. element_error 0 e ≡ None) e elements allowed) back.1 in
    ap (λ s. qualifiers_fault first second place (pairs s)) reads.2
    ∙ rw (here, order_none first second place n back.0) below
