-- A reader finds the elements of an element string, and no others.
use Rattle.std.proofs.Common.{◌≡◌, ℕ, ◌+◌, ◌<◌, ◌≤◌, true, false, List, [], ◌∷◌, ◌++◌, length, take, drop}
use Rattle.std.proofs.Common.{get_or, cond, not, suc, refl, arith, ap, sym, subst, ◌∙◌, append_assoc}
use Rattle.std.specs.Prelude.{None, Some, is_some, if◌then◌else◌}
use Rattle.std.specs.List.{position_or_len, before_first, after_first, AllPass}
use Rattle.std.proofs.lemmas.List.Sums.{position_or_len_is}
use Rattle.std.proofs.lemmas.Grind.{common_steps}
use Rattle.std.proofs.lemmas.List.{get_or_append_left, take_at, drop_at, take_all, drop_all, drop-drop, append-nil}
use Rattle.gs1.specs.Identifiers.{prefix, identifier_length, predefined_length, is_encodable}
use Rattle.gs1.specs.Elements.{Element}
use Rattle.gs1.specs.Reader.{Finds, BeginsWith, front, back, behind_first, is_group_separator, string_of}
use Rattle.gs1.specs.Reader.{separator_behind}

-- The two first digits of an identifier are those of what begins with it.
pub prefix-append : (identifier rest : List ℕ) → 2 ≤ length identifier →
    prefix (identifier ++ rest) ≡ prefix identifier
unfolding prefix
prefix-append identifier rest long =
    let l0 : 0 < length identifier = omega arith in
    let l1 : 1 < length identifier = omega arith in
    rw (get_or_append_left identifier rest 0 0 l0, get_or_append_left identifier rest 0 1 l1) refl

-- ---- One element

-- What the proofs need of an element without faults.
pub record IsReadable (e : Element) : Type 0 where
  pub long : 2 ≤ length e.identifier
  pub known : identifier_length e.identifier ≡ Some (length e.identifier)
  pub size : (n : ℕ) → predefined_length e.identifier ≡ Some n → length (e.identifier ++ e.value) ≡ n
  pub encodable : AllPass is_encodable (e.identifier ++ e.value)

-- None of the characters is a separator.
unseparated_by : (text : List ℕ) → AllPass is_encodable text → position_or_len is_group_separator text ≡ length text
unseparated_by text all = position_or_len_is is_group_separator text (length text) 0 (omega arith)
    (λ k within. no_separator (get_or text k 0) (all k 0 within)) (λ past. absurd (omega arith))
  where
    no_separator : (c : ℕ) → is_encodable c ≡ true → is_group_separator c ≡ false
    no_separator c e = grind (arith, common_steps)

-- The element at the front, with its text and with what is behind it.
pub record IsFront (bytes : List ℕ) (e : Element) (rest : List ℕ) : Type 0 where
  pub begins : BeginsWith bytes e
  pub behind : behind_first bytes ≡ rest

-- The length is predefined.
front_predefined : (e : Element) (n : ℕ) (rest : List ℕ) → IsReadable e → predefined_length e.identifier ≡ Some n →
    IsFront (e.identifier ++ (e.value ++ rest)) e rest
front_predefined e n rest good is =
    let bytes : List ℕ = e.identifier ++ (e.value ++ rest) in
    let same : prefix bytes ≡ prefix e.identifier = prefix-append e.identifier (e.value ++ rest) good.long in
    let predefined : predefined_length bytes ≡ Some n = rw same is in
    let size : length (e.identifier ++ e.value) ≡ n = good.size n is in
    let joined : bytes ≡ e.identifier ++ e.value ++ rest = sym (append_assoc e.identifier e.value rest) in
    record {
      begins = record {
        identifier_is = rw same good.known;
        text_is = sym (ap (λ o. front o bytes) predefined ∙ (rw joined (take_at (e.identifier ++ e.value) rest n size)));
      };
      behind = ap (λ o. back o bytes) predefined ∙ (rw joined (drop_at (e.identifier ++ e.value) rest n size));
    }

-- The length is not predefined, and the element is the last.
front_last : (e : Element) → IsReadable e → predefined_length e.identifier ≡ None →
    IsFront (e.identifier ++ e.value) e []
front_last e good is =
    let bytes : List ℕ = e.identifier ++ e.value in
    let same : prefix bytes ≡ prefix e.identifier = prefix-append e.identifier e.value good.long in
    let predefined : predefined_length bytes ≡ None = rw same is in
    let whole : before_first is_group_separator bytes ≡ bytes = rw (unseparated_by _ good.encodable) (take_all (length bytes) bytes (omega arith)) in
    let none : after_first is_group_separator bytes ≡ [] = rw (unseparated_by _ good.encodable) (drop_all (length bytes + 1) bytes (omega arith)) in
    record {
      begins = record {
        identifier_is = rw same good.known;
        text_is = sym (ap (λ o. front o bytes) predefined ∙ whole);
      };
      behind = ap (λ o. back o bytes) predefined ∙ none;
    }

-- The first separator behind bytes without one.
separator_at : (text rest : List ℕ) → position_or_len is_group_separator text ≡ length text →
    position_or_len is_group_separator (text ++ 0x1d ∷ rest) ≡ length text
separator_at [] rest e = refl
separator_at (c ∷ text) rest e =
    elim (is_group_separator c) as (λ b. cond (not b) (1 + position_or_len is_group_separator text) 0 ≡ suc (length text) →
    cond (not b) (1 + position_or_len is_group_separator (text ++ 0x1d ∷ rest)) 0 ≡ suc (length text)) [
      | true ↦ λ h. absurd (omega arith)
      | false ↦ λ h. let below = separator_at text rest (omega arith) in omega arith
    ] e

-- The length is not predefined, and a separator follows.
front_separated : (e : Element) (rest : List ℕ) → IsReadable e → predefined_length e.identifier ≡ None →
    IsFront (e.identifier ++ (e.value ++ 0x1d ∷ rest)) e rest
front_separated e rest good is =
    let bytes : List ℕ = e.identifier ++ (e.value ++ 0x1d ∷ rest) in
    let text : List ℕ = e.identifier ++ e.value in
    let same : prefix bytes ≡ prefix e.identifier = prefix-append e.identifier (e.value ++ 0x1d ∷ rest) good.long in
    let predefined : predefined_length bytes ≡ None = rw same is in
    let joined : bytes ≡ e.identifier ++ e.value ++ 0x1d ∷ rest = sym (append_assoc e.identifier e.value (0x1d ∷ rest)) in
    let place : position_or_len is_group_separator bytes ≡ length text = rw joined (separator_at text rest (unseparated_by _ good.encodable)) in
    let before : before_first is_group_separator bytes ≡ text = rw place (rw joined (take_at text (0x1d ∷ rest) (length text) refl)) in
    let after : after_first is_group_separator bytes ≡ rest =
    rw place (rw (joined, ← drop-drop) (rw (drop_at text (0x1d ∷ rest) (length text) refl) refl)) in
    record {
      begins = record {
        identifier_is = rw same good.known;
        text_is = sym (ap (λ o. front o bytes) predefined ∙ before);
      };
      behind = ap (λ o. back o bytes) predefined ∙ after;
    }

-- ---- Elements

-- The element is not the last.
front_more : (e : Element) (rest : List ℕ) → IsReadable e →
    IsFront (e.identifier ++ e.value ++ separator_behind e.identifier ++ rest) e rest
front_more e rest good =
    elim (predefined_length e.identifier) as (λ o. predefined_length e.identifier ≡ o →
    IsFront (e.identifier ++ e.value ++ (if is_some o then [] else 0x1d ∷ []) ++ rest) e rest) [
      | Some n ↦ λ is. rw (append-nil, append_assoc) (front_predefined e n rest good is)
      | None ↦ λ is. rw (append_assoc, append_assoc) (front_separated e rest good is)
    ] refl

-- The element is the last.
front_end : (e : Element) → IsReadable e → IsFront (e.identifier ++ e.value) e []
front_end e good =
    elim (predefined_length e.identifier) as (λ o. predefined_length e.identifier ≡ o →
    IsFront (e.identifier ++ e.value) e []) [
      | Some n ↦ λ is. let end : e.value ++ [] ≡ e.value = append-nil e.value in
          rw end at (front_predefined e n [] good is)
      | None ↦ λ is. front_last e good is
    ] refl

-- All elements are readable.
abbrev pub AllReadable : List Element → Type 0
AllReadable [] = Unit {0}
AllReadable (e ∷ elements) = IsReadable e × AllReadable elements

-- A reader finds readable elements in their string.
pub finds_string : (elements : List Element) → AllReadable elements → Finds (string_of elements) elements
finds_string [] good = refl
finds_string (e ∷ []) good = let front = front_end e good.0 in (front.begins, front.behind)
finds_string (e ∷ next ∷ elements) good =
    let front = front_more e (string_of (next ∷ elements)) good.0 in
    (front.begins, rw front.behind (finds_string (next ∷ elements) good.1))

-- Bytes begin with one element.
pub same_first : (bytes : List ℕ) (x y : Element) → BeginsWith bytes x → BeginsWith bytes y → x ≡ y
same_first bytes x y first second =
    let sizes : length x.identifier ≡ length y.identifier = some_same _ _ (sym first.identifier_is ∙ second.identifier_is) in
    let texts : x.identifier ++ x.value ≡ y.identifier ++ y.value = first.text_is ∙ sym second.text_is in
    let identifiers : x.identifier ≡ y.identifier =
    sym (take_at x.identifier x.value (length x.identifier) refl)
    ∙ ap (take (length x.identifier)) texts ∙ take_at y.identifier y.value (length x.identifier) (sym sizes) in
    let values : x.value ≡ y.value =
    sym (drop_at x.identifier x.value (length x.identifier) refl)
    ∙ ap (drop (length x.identifier)) texts ∙ drop_at y.identifier y.value (length x.identifier) (sym sizes) in
    element_same x.identifier y.identifier x.value y.value identifiers values
  where
    some_same : (m n : ℕ) → Some m ≡ Some n → m ≡ n
    some_same m n e = cc

    element_same : (i j v w : List ℕ) → i ≡ j → v ≡ w →
        (let e : Element = record { identifier = i; value = v } in e) ≡ (let e : Element = record { identifier = j; value = w } in e)
    element_same i j v w a b = cc

-- No bytes begin with no element.
pub none_first : (e : Element) → BeginsWith [] e → ⊥
unfolding prefix
none_first e begins = let none : None ≡ Some (length e.identifier) = begins.identifier_is in cc

-- No bytes are read as two lists of elements.
pub one_list : (bytes : List ℕ) (first second : List Element) →
    Finds bytes first → Finds bytes second → first ≡ second
one_list bytes [] [] a b = refl
one_list bytes [] (y ∷ ys) a b = absurd (none_first y (let P : List ℕ → Type 0 = λ bs. BeginsWith bs y in subst P a b.0))
one_list bytes (x ∷ xs) [] a b = absurd (none_first x (let P : List ℕ → Type 0 = λ bs. BeginsWith bs x in subst P b a.0))
one_list bytes (x ∷ xs) (y ∷ ys) a b =
    let first : x ≡ y = same_first bytes x y a.0 b.0 in
    let others : xs ≡ ys = one_list (behind_first bytes) xs ys a.1 b.1 in cc
