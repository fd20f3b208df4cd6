-- A text has exactly one first invalid byte, or none; it has none exactly if it is valid.
use Rattle.qrcode_base.proofs.Prelude.{◌≡◌, ℕ, zero, suc, ◌<◌, ◌≤◌, refl, sym, ap, ◌∙◌, arith, subst, List, [], ◌∷◌, length, take, Bool, true, Option, Some}
use Rattle.qrcode_base.proofs.Prelude.{None, All, Contains, slice_get, if◌then◌else◌, take-length, false≢true, cases_lt, slice_get_within, slice_get-get_or}
use Rattle.qrcode_base.proofs.Prelude.{Mode, Numeric, Alphanumeric, Byte, Kanji, is_between, IsDigit, alphabet, is_alphanumeric, is_kanji_pair, IsKanjiText}
use Rattle.qrcode_base.proofs.Prelude.{is_kanji_text, IsValid, is_valid, longest_beginning, first_invalid, IsFirstInvalid, FirstInvalid, and_parts}
use Rattle.qrcode_base.proofs.Alphabet.{is_alphanumeric-inside, is_alphanumeric-from_inside}
use Rattle.std.specs.Prelude.{option_map, ◌↔◌}
use Rattle.std.{specs.List.list_all, proofs.lemmas.List.Sums.AllPass-from_list_all, proofs.lemmas.List.Sums.list_all-from_AllPass}

-- ---- The test of a text

passes_all : (P : ℕ → Type 0) (test : ℕ → Bool) (text : List ℕ) → ((c : ℕ) → P c → test c ≡ true) → All P text → list_all test text ≡ true
passes_all P test text each h = list_all-from_AllPass test text (λ k d within. each _ (h k d within))

holds_of_all : (P : ℕ → Type 0) (test : ℕ → Bool) (text : List ℕ) → ((c : ℕ) → test c ≡ true → P c) → list_all test text ≡ true → All P text
holds_of_all P test text each h = λ k d within. each _ (AllPass-from_list_all test text h k d within)

kanji-passes : (text : List ℕ) → IsKanjiText text → is_kanji_text text ≡ true
unfolding is_kanji_text
kanji-passes [] h = refl
kanji-passes (a ∷ []) h = absurd h
kanji-passes (a ∷ b ∷ rest) h = grind (arith, kanji-passes rest)

kanji-holds : (text : List ℕ) → is_kanji_text text ≡ true → IsKanjiText text
unfolding is_kanji_text
kanji-holds [] h = tt
kanji-holds (a ∷ []) h = false≢true h
kanji-holds (a ∷ b ∷ rest) h = let parts = and_parts (is_kanji_pair a b) (is_kanji_text rest) h in (parts.0, kanji-holds rest parts.1)

valid-passes : (mode : Mode) (text : List ℕ) → IsValid mode text → is_valid mode text ≡ true
unfolding is_valid
valid-passes Numeric text h = passes_all IsDigit (is_between 48 57) text (λ c d. grind arith) h
valid-passes Alphanumeric text h = passes_all (λ c. Contains alphabet c) is_alphanumeric text is_alphanumeric-from_inside h
valid-passes Byte text h = passes_all (λ c. c < 256) (is_between 0 255) text (λ c d. grind arith) h
valid-passes Kanji text h = kanji-passes text h

valid-holds : (mode : Mode) (text : List ℕ) → is_valid mode text ≡ true → IsValid mode text
unfolding is_valid
valid-holds Numeric text h = holds_of_all IsDigit (is_between 48 57) text (λ c d. grind arith) h
valid-holds Alphanumeric text h = holds_of_all (λ c. Contains alphabet c) is_alphanumeric text is_alphanumeric-inside h
valid-holds Byte text h = holds_of_all (λ c. c < 256) (is_between 0 255) text (λ c d. grind arith) h
valid-holds Kanji text h = kanji-holds text h

-- ---- The longest prefix that passes the test

longest-within : (test : List ℕ → Bool) (text : List ℕ) (n : ℕ) → longest_beginning test text n ≤ n
unfolding longest_beginning
longest-within test text zero = omega arith
longest-within test text (suc n) = grind (arith, longest-within test text n)

longest-passes : (test : List ℕ → Bool) (text : List ℕ) (n : ℕ) → test [] ≡ true → test (take (longest_beginning test text n) text) ≡ true
unfolding longest_beginning
longest-passes test text zero h = h
longest-passes test text (suc n) h = grind (arith, longest-passes test text n h)

step_longest : (test : List ℕ → Bool) (text : List ℕ) (b : Bool) (n m : ℕ) → test (take (suc n) text) ≡ b →
    ((k : ℕ) → m < k → k ≤ n → test (take k text) ≡ true → ⊥) → (k : ℕ) → (if b then suc n else m) < k → k ≤ suc n → test (take k text) ≡ true → ⊥
step_longest test text b n m e before k above within h = grind arith

longest-longest : (test : List ℕ → Bool) (text : List ℕ) (n k : ℕ) → longest_beginning test text n < k → k ≤ n → test (take k text) ≡ true → ⊥
unfolding longest_beginning
longest-longest test text zero k above within h = omega arith
longest-longest test text (suc n) k above within h = step_longest test text (test (take (suc n) text)) n (longest_beginning test text n) refl
    (longest-longest test text n) k above within h

-- ---- The byte after it

past_end : (text : List ℕ) (k : ℕ) → slice_get text k ≡ None → k ≤ length text → k ≡ length text
past_end text k none within = grind (arith, slice_get-get_or text k 0, cases_lt k (length text))

empty_valid : (mode : Mode) → is_valid mode [] ≡ true
empty_valid mode = grind (arith, valid-passes)

found_behind : (mode : Mode) (text : List ℕ) (place : ℕ) (found : Option ℕ) → slice_get text place ≡ found →
    place ≡ longest_beginning (is_valid mode) text (length text) → FirstInvalid (IsValid mode) text (option_map (λ byte. (place, byte)) found)
found_behind mode text place None none at =
    let within : place ≤ length text = omega (arith, longest-within (is_valid mode) text (length text)) in
    let whole : take place text ≡ text = ap (λ (k : ℕ). take k text) (past_end text place none within) ∙ take-length text in
    let passes = subst (λ (k : ℕ). is_valid mode (take k text) ≡ true) (sym at) (longest-passes (is_valid mode) text (length text) (empty_valid mode)) in
    subst (λ (t : List ℕ). IsValid mode t) whole (valid-holds mode (take place text) passes)
found_behind mode text place (Some byte) some at = grind (arith, valid-holds, longest-passes, longest-longest, valid-passes)

pub first_invalid-first : (mode : Mode) (text : List ℕ) → FirstInvalid (IsValid mode) text (first_invalid mode text)
unfolding first_invalid
first_invalid-first mode text = grind (arith, found_behind)

-- ---- No other byte is the first invalid one

not_valid : (valid : List ℕ → Type 0) (text : List ℕ) (position byte : ℕ) → IsFirstInvalid valid text position byte → valid text → ⊥
not_valid valid text position byte first whole = grind (arith, slice_get_within text position byte first.byte_is, take-length text)

not_before : (valid : List ℕ → Type 0) (text : List ℕ) (p q : ℕ × ℕ) → IsFirstInvalid valid text p.0 p.1 → IsFirstInvalid valid text q.0 q.1 → p.0 < q.0 → ⊥
not_before valid text p q first second before = grind (arith, slice_get_within)

same_found : (text : List ℕ) (p q : ℕ × ℕ) → p.0 ≡ q.0 → slice_get text p.0 ≡ Some p.1 → slice_get text q.0 ≡ Some q.1 → Some p ≡ Some q
same_found text p q place first second = grind arith

one_first : (valid : List ℕ → Type 0) (text : List ℕ) (first second : Option (ℕ × ℕ)) → FirstInvalid valid text first →
    FirstInvalid valid text second → first ≡ second
one_first valid text None None h k = refl
one_first valid text None (Some q) h k = absurd (not_valid valid text q.0 q.1 k h)
one_first valid text (Some p) None h k = absurd (not_valid valid text p.0 p.1 h k)
one_first valid text (Some p) (Some q) h k = grind (arith, not_before valid text p q h k, not_before valid text q p k h, same_found text p q)

-- The first invalid byte is what `first_invalid` returns.
pub first_invalid-is : (mode : Mode) (text : List ℕ) (found : Option (ℕ × ℕ)) → FirstInvalid (IsValid mode) text found → found ≡ first_invalid mode text
first_invalid-is mode text found h = one_first (IsValid mode) text found (first_invalid mode text) h (first_invalid-first mode text)

nothing_found : (valid : List ℕ → Type 0) (text : List ℕ) (found : Option (ℕ × ℕ)) → FirstInvalid valid text found → (valid text) ↔ (found ≡ None)
nothing_found valid text None h = (λ v. refl, λ e. h)
nothing_found valid text (Some p) h = (λ v. absurd (not_valid valid text p.0 p.1 h v), λ e. absurd (cc))

pub none_where_valid : (mode : Mode) (text : List ℕ) → (IsValid mode text) ↔ (first_invalid mode text ≡ None)
none_where_valid mode text = nothing_found (IsValid mode) text (first_invalid mode text) (first_invalid-first mode text)

-- ---- What callers of the four types use

pub valid_where_none : (mode : Mode) (text : List ℕ) → None ≡ first_invalid mode text → IsValid mode text
valid_where_none mode text e = (none_where_valid mode text).1 (sym e)

pub first_where_some : (mode : Mode) (text : List ℕ) (place byte : ℕ) → Some (place, byte) ≡ first_invalid mode text →
    IsFirstInvalid (IsValid mode) text place byte
first_where_some mode text place byte e = subst (λ (found : Option (ℕ × ℕ)). FirstInvalid (IsValid mode) text found) (sym e) (first_invalid-first mode text)
