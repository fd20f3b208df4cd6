-- What the loops over a link keep.
use Rattle.std.proofs.Common.{◌≡◌, ℕ, ◌+◌, ◌%◌, ◌<◌, ◌≤◌, Bool, true, false, cond, not, suc, List, [], ◌∷◌, ◌++◌, length}
use Rattle.std.proofs.Common.{map, take, drop, refl, arith, ap, sym, subst, ◌∙◌, append_assoc}
use Rattle.std.specs.Prelude.{◌==◌, ◌&&◌, Option, None, Some, if◌then◌else◌}
use Rattle.std.specs.Option.{option_or}
use Rattle.std.specs.List.{slice_split, position_or_len, after_first}
use Rattle.std.proofs.lemmas.List.{take_all, drop_all}
use Rattle.std.proofs.lemmas.List.Splits.{slice_split_first, slice_split_none}
use Rattle.std.proofs.lemmas.List.Sums.{fails_before_first}
use Rattle.std.specs.Prelude.{position}
use Rattle.gs1_base.proofs.Places.{place_or_length}
use Rattle.std.proofs.lemmas.Grind.{common_steps}
use Rattle.gs1.specs.Elements.{Element}
use Rattle.gs1_links.specs.Links.{number}
use Rattle.gs1_links.specs.LinkFaults.{written_fault, order_fault, qualifiers_fault}
use Rattle.gs1_links.specs.declared.link_error.LinkReadError.{LinkReadError}
use Rattle.gs1_links.specs.LinkFaults.{path_in, is_key_text, decoded, is_readable_link}
use Rattle.gs1_base.specs.Percent.{begins_with_byte, first_byte, after_byte}
use Rattle.gs1_links.proofs.LinkValues.{shorter, decoded_more, decoded_end, readable_more, readable_end}
use Rattle.std.proofs.lemmas.List.{append-nil}
use Rattle.std.proofs.Common.{set}
use Rattle.std.proofs.lemmas.List.{take_more_set}

or_assoc : {X : Type 0} (a b c : Option X) → option_or (option_or a b) c ≡ option_or a (option_or b c)
or_assoc None b c = refl
or_assoc (Some x) b c = refl

odd_even : (n : ℕ) → (suc n % 2 == 0) ≡ (n % 2 == 1)
odd_even n = grind (arith, common_steps)

pub next_even : (n : ℕ) (even : Bool) → even ≡ (suc n % 2 == 0) → not even ≡ (n % 2 == 0)
next_even n even e = grind (arith, common_steps)

-- One segment more.
pub path_more : (segments later : List (List ℕ)) (segment : List ℕ) (found next whole : Option (List (List ℕ))) (even is : Bool) →
    segments ≡ segment ∷ later → even ≡ (length segments % 2 == 0) → is ≡ (even && is_key_text segment) →
    next ≡ (if is then Some segments else found) → option_or (path_in segments) found ≡ whole →
    option_or (path_in later) next ≡ whole
path_more segments later segment found next whole even is cut even_is is_is next_is e =
    let odd : even ≡ (length later % 2 == 1) = even_is ∙ ap (λ xs. length xs % 2 == 0) cut ∙ odd_even (length later) in
    let same : is ≡ (is_key_text segment && (length later % 2 == 1)) =
    is_is ∙ swap even (is_key_text segment) ∙ ap (λ b. is_key_text segment && b) odd in
    let here : next ≡ option_or (if is then Some (segment ∷ later) else None) found =
    next_is ∙ ap (λ xs. if is then Some xs else found) cut ∙ pick is (segment ∷ later) found in
    ap (option_or (path_in later)) here
    ∙ sym (or_assoc (path_in later) (if is then Some (segment ∷ later) else None) found)
    ∙ ap (λ b. option_or (option_or (path_in later) (if b then Some (segment ∷ later) else None)) found) same
    ∙ ap (λ xs. option_or (path_in xs) found) (sym cut) ∙ e
  where
    swap : (a b : Bool) → (a && b) ≡ (b && a)
    swap true true = refl
    swap true false = refl
    swap false true = refl
    swap false false = refl

    pick : (b : Bool) (xs : List (List ℕ)) (found : Option (List (List ℕ))) →
        (if b then Some xs else found) ≡ option_or (if b then Some xs else None) found
    pick true xs found = refl
    pick false xs found = refl

-- One element more is appended.
pub push_more : {Y : Type 0} (f : Y → Element) (old new : List Element) (x : Y) (segments later : List Y) (whole : List Element) →
    new ≡ old ++ f x ∷ [] → segments ≡ x ∷ later → old ++ map f segments ≡ whole → new ++ map f later ≡ whole
push_more f old new x segments later whole new_is cut e =
    ap (λ xs. xs ++ map f later) new_is ∙ append_assoc old (f x ∷ []) (map f later)
    ∙ ap (λ xs. old ++ map f xs) (sym cut) ∙ e

-- ---- Cuts

pub cut_last : (p : ℕ → Bool) (text : List ℕ) (end : ℕ) → end ≡ position_or_len p text → end ≡ length text →
    slice_split p text ≡ take end text ∷ []
cut_last p text end at last =
    let all : take end text ≡ text = take_all end text (let w : length text ≤ end = omega arith in w) in
    slice_split_none p text (λ k d within. fails_before_first p text k d (let w : k < position_or_len p text = omega arith in w))
    ∙ ap (λ xs. xs ∷ []) (sym all)

pub cut_more : (p : ℕ → Bool) (text rest : List ℕ) (end : ℕ) → end ≡ position_or_len p text → end ≤ length text →
    (end ≡ length text → ⊥) → rest ≡ drop (end + 1) text → slice_split p text ≡ take end text ∷ slice_split p rest
cut_more p text rest end at within more rest_is =
    rw (rest_is, at) (slice_split_first p text 0 (let w : position_or_len p text < length text = omega arith in w))

-- ---- Orders

pub after_place : (p : ℕ → Bool) (xs rest : List ℕ) (place : ℕ) → Some place ≡ position p xs → rest ≡ drop (place + 1) xs →
    rest ≡ after_first p xs
after_place p xs rest place is rest_is =
    let at : place ≡ position_or_len p xs = place_or_length p xs (Some place) is in rw at at rest_is

pub after_none : (p : ℕ → Bool) (xs : List ℕ) → None ≡ position p xs → after_first p xs ≡ []
after_none p xs is =
    let at : length xs ≡ position_or_len p xs = place_or_length p xs None is in
    rw (← at) (past (length xs + 1) xs (omega arith))
  where
    past : (n : ℕ) (xs : List ℕ) → length xs < n → drop n xs ≡ []
    past n xs long = grind (arith, drop_all)

-- ---- Bytes

-- One byte more is counted.
pub record IsCounted (n : ℕ) (rest text : List ℕ) : Type 0 where
  pub readable : is_readable_link rest ≡ is_readable_link text
  pub count : n + length (decoded rest) ≡ length (decoded text)
  pub within : n + length rest ≤ length text

pub count_more : (n : ℕ) (rest next text : List ℕ) → next ≡ after_byte rest → begins_with_byte rest ≡ true →
    IsCounted n rest text → IsCounted (n + 1) next text
count_more n rest next text is begins counted =
    let less = shorter rest begins in
    let one : length (decoded rest) ≡ suc (length (decoded (after_byte rest))) = ap length (decoded_more rest begins) in
    rw is (record {
      readable = sym (readable_more rest begins) ∙ counted.readable;
      count = omega (arith, one, counted.count);
      within = omega (arith, less, counted.within);
    })

-- One byte more is decoded.
pub decode_more : (items longer rest next text : List ℕ) (byte : ℕ) → longer ≡ items ++ byte ∷ [] → next ≡ after_byte rest →
    begins_with_byte rest ≡ true → first_byte rest ≡ byte → items ++ decoded rest ≡ decoded text →
    longer ++ decoded next ≡ decoded text
decode_more items longer rest next text byte longer_is next_is begins is e =
    let step : decoded rest ≡ byte ∷ decoded (after_byte rest) = decoded_more rest begins ∙ ap (λ c. c ∷ decoded (after_byte rest)) is in
    rw (longer_is, next_is) (append_assoc items (byte ∷ []) (decoded (after_byte rest)) ∙ ap (λ xs. items ++ xs) (sym step) ∙ e)

pub decode_all : (items rest text : List ℕ) → begins_with_byte rest ≡ false → items ++ decoded rest ≡ decoded text → items ≡ decoded text
decode_all items rest text none e = sym (append-nil items) ∙ ap (λ xs. items ++ xs) (sym (decoded_end rest none)) ∙ e

-- ---- Faults

-- The first of two faults, or the second where there is no first.
pub or_here : {X : Type 0} (a b whole : Option X) (fault : X) → Some fault ≡ a → option_or a b ≡ whole → Some fault ≡ whole
or_here a b whole fault is e = ap (λ o. option_or o b) is ∙ e

pub or_next : {X : Type 0} (a b whole : Option X) → None ≡ a → option_or a b ≡ whole → b ≡ whole
or_next a b whole is e = ap (λ o. option_or o b) is ∙ e

pub count_start : (text : List ℕ) → IsCounted 0 text text
count_start text = record {
  readable = refl;
  count = (let h : 0 + length (decoded text) ≡ length (decoded text) = omega arith in h);
  within = (let h : 0 + length text ≤ length text = omega arith in h);
}

-- What the count says where no byte is left to read.
pub length_none : (n : ℕ) (rest text : List ℕ) → begins_with_byte rest ≡ false → (length rest == 0) ≡ false →
    IsCounted n rest text → None ≡ (if is_readable_link text then Some (length (decoded text)) else None)
length_none n rest text none some counted =
    rw (sym counted.readable ∙ readable_end rest none ∙ some) refl

pub length_some : (n : ℕ) (rest text : List ℕ) → begins_with_byte rest ≡ false → (length rest == 0) ≡ true →
    IsCounted n rest text → Some n ≡ (if is_readable_link text then Some (length (decoded text)) else None)
length_some n rest text none empty counted =
    let zero_left : length (decoded rest) ≡ 0 = ap length (decoded_end rest none) in
    let all : n ≡ length (decoded text) = omega (arith, zero_left, counted.count) in
    rw (sym counted.readable ∙ readable_end rest none ∙ empty) (ap Some all)

-- ---- A buffer

pub fits_more : (n : ℕ) (rest text : List ℕ) → begins_with_byte rest ≡ true →
    n + length (decoded rest) ≡ length (decoded text) → length (decoded text) ≤ 90 → n < 90
fits_more n rest text begins count few =
    let one : length (decoded rest) ≡ suc (length (decoded (after_byte rest))) = ap length (decoded_more rest begins) in
    omega (arith, one, count, few)

pub fill_count : (n : ℕ) (rest next text : List ℕ) → next ≡ after_byte rest → begins_with_byte rest ≡ true →
    n + length (decoded rest) ≡ length (decoded text) → n + 1 + length (decoded next) ≡ length (decoded text)
fill_count n rest next text is begins count =
    let one : length (decoded rest) ≡ suc (length (decoded (after_byte rest))) = ap length (decoded_more rest begins) in
    rw is (omega (arith, one, count))

pub fill_more : (buffer : List ℕ) (n : ℕ) (rest next text : List ℕ) (byte : ℕ) → n < length buffer → next ≡ after_byte rest →
    begins_with_byte rest ≡ true → first_byte rest ≡ byte → take n buffer ++ decoded rest ≡ decoded text →
    take (n + 1) (set buffer n byte) ++ decoded next ≡ decoded text
fill_more buffer n rest next text byte within next_is begins is e =
    decode_more (take n buffer) (take (n + 1) (set buffer n byte)) rest next text byte (take_more_set buffer n byte within) next_is begins is e

pub fill_all : (buffer : List ℕ) (n : ℕ) (rest text : List ℕ) → begins_with_byte rest ≡ false →
    take n buffer ++ decoded rest ≡ decoded text → n + length (decoded rest) ≡ length (decoded text) →
    take (length (decoded text)) buffer ≡ decoded text
fill_all buffer n rest text none e count =
    let zero_left : length (decoded rest) ≡ 0 = ap length (decoded_end rest none) in
    let all : n ≡ length (decoded text) = omega (arith, zero_left, count) in
    rw (← all) (decode_all (take n buffer) rest text none e)

-- ---- Parity

pub even_more : (segments later : List (List ℕ)) (segment : List ℕ) (even whole : Bool) → segments ≡ segment ∷ later →
    cond even (length segments % 2 == 0) (not (length segments % 2 == 0)) ≡ whole →
    cond (not even) (length later % 2 == 0) (not (length later % 2 == 0)) ≡ whole
even_more segments later segment even whole cut e =
    let P : List (List ℕ) → Type 0 = λ xs. cond even (length xs % 2 == 0) (not (length xs % 2 == 0)) ≡ whole in
    flip (length later) even whole (subst P cut e)
  where
    flip : (n : ℕ) (even whole : Bool) → cond even (suc n % 2 == 0) (not (suc n % 2 == 0)) ≡ whole →
        cond (not even) (n % 2 == 0) (not (n % 2 == 0)) ≡ whole
    flip n true whole e = sym (other n) ∙ e
      where
        other : (n : ℕ) → (suc n % 2 == 0) ≡ not (n % 2 == 0)
        other n = grind (arith, common_steps)
    flip n false whole e = sym (other n) ∙ e
      where
        other : (n : ℕ) → not (suc n % 2 == 0) ≡ (n % 2 == 0)
        other n = grind (arith, common_steps)

pub even_end : (even whole : Bool) → cond even true (not true) ≡ whole → even ≡ whole
even_end true whole e = e
even_end false whole e = e

-- One qualifier more.
pub qualifiers_next : (first second a b : List ℕ) (place n : ℕ) (elements later : List Element) (e : Element)
    (whole : Option LinkReadError) → elements ≡ e ∷ later → None ≡ written_fault place e → n ≡ number e →
    None ≡ order_fault first second place n → a ≡ after_first (λ m. m == n) first → b ≡ after_first (λ m. m == n) second →
    qualifiers_fault first second place elements ≡ whole → qualifiers_fault a b (place + 1) later ≡ whole
qualifiers_next first second a b place n elements later e whole cut written n_is order a_is b_is known =
    let rest : Option LinkReadError = qualifiers_fault (after_first (λ m. m == number e) first)
    (after_first (λ m. m == number e) second) (place + 1) later in
    let here : None ≡ order_fault first second place (number e) = order ∙ ap (order_fault first second place) n_is in
    ap (λ x. qualifiers_fault x b (place + 1) later) (a_is ∙ ap (λ m. after_first (λ k. k == m) first) n_is)
    ∙ ap (λ x. qualifiers_fault (after_first (λ m. m == number e) first) x (place + 1) later)
    (b_is ∙ ap (λ m. after_first (λ k. k == m) second) n_is)
    ∙ or_next (order_fault first second place (number e)) rest whole here
    (or_next (written_fault place e) (option_or (order_fault first second place (number e)) rest) whole written
    (ap (qualifiers_fault first second place) (sym cut) ∙ known))
