-- Values by their numbers.
use Rattle.std.proofs.Common.{◌≡◌, ◌↔◌, ℕ, Bool, true, ◌<◌, List, length, map, slice_set, slice_index_or, arith, Bor, refl, ap, zero, suc}
use Rattle.std.proofs.Common.{[], ◌∷◌, take, drop, ◌+◌, ◌-◌, sym, subst, bytes_eq}
use Rattle.std.specs.Prelude.{Option, Some, None, MatchOption, set, get_or}
use Rattle.std.specs.Option.{option_copied}
use Rattle.std.specs.Prelude.{Ok, Err}
use Rattle.std.specs.Char.{to_ascii_lowercase}
use Rattle.label_words.specs.Choices.{has_ending}
use Rattle.std.specs.Str.Pattern.{StripsPrefix, FindsTextPrefix, LacksTextAt}
use Rattle.label_words.specs.Words.{Scan, Wrong, read_word, read_words, rest_after}
use Rattle.std.proofs.lemmas.Slice.Eq.{bytes_eq-Decides}
use Rattle.std.proofs.lemmas.List.{drop-map, length-map, take-append-drop}
use Rattle.std.proofs.lemmas.Grind.{common_steps}

map_set : {A B : Type 0} (f : A → B) (xs : List A) (n : ℕ) (x : A) → map f (set xs n x) ≡ set (map f xs) n (f x)
map_set f [] n x = refl
map_set f (y ∷ ys) zero x = refl
map_set f (y ∷ ys) (suc n) x = ap (λ zs. f y ∷ zs) (map_set f ys n x)

pub set_value : (values : List (Option (Bor (List ℕ)))) (n : ℕ) (word : Bor (List ℕ)) → n < length values →
    map option_copied (slice_set values n (Some word)) ≡ set (map option_copied values) n (Some word.now)
set_value values n word within = map_set option_copied values n (Some word)

pub get_value : (values : List (Option (Bor (List ℕ)))) (n : ℕ) (other : Option (Bor (List ℕ))) → n < length values →
    option_copied (slice_index_or values n other) ≡ get_or (map option_copied values) n None
get_value values n other within = grind (arith, common_steps)

-- ---- One word after the other

abbrev pub no_word : Bor (List ℕ)
no_word = record { ref_ptr = (0, 0); now = [] }

words_at : (words : List (Bor (List ℕ))) (k : ℕ) → k < length words →
    drop k (map (λ word. word.now) words) ≡ (slice_index_or words k no_word).now ∷ drop (k + 1) (map (λ word. word.now) words)
words_at words k within = grind (arith, common_steps, drop-map, length-map)

goes_on : (r next : Scan) (word : List ℕ) (words : List (List ℕ)) → read_word r word ≡ Ok next →
    read_words r (word ∷ words) ≡ read_words next words
goes_on r next word words is = rw (is, read_words) refl

stops : (r : Scan) (wrong : Wrong) (word : List ℕ) (words : List (List ℕ)) → read_word r word ≡ Err wrong →
    read_words r (word ∷ words) ≡ Err wrong
stops r wrong word words is = rw (is, read_words) refl

pub next_word : (r next : Scan) (words : List (Bor (List ℕ))) (k : ℕ) → k < length words →
    read_word r (slice_index_or words k no_word).now ≡ Ok next →
    read_words r (drop k (map (λ word. word.now) words)) ≡ read_words next (drop (k + 1) (map (λ word. word.now) words))
next_word r next words k within is = rw (words_at words k within) (goes_on r next _ _ is)

pub wrong_word : (r : Scan) (wrong : Wrong) (words : List (Bor (List ℕ))) (k : ℕ) → k < length words →
    read_word r (slice_index_or words k no_word).now ≡ Err wrong →
    read_words r (drop k (map (λ word. word.now) words)) ≡ Err wrong
wrong_word r wrong words k within is = rw (words_at words k within) (stops r wrong _ _ is)

-- a word of the scan, right or wrong
pub ruleset scanned = (next_word, wrong_word)

-- ---- Parts of a word

same_bytes : (same : Bool) (xs ys : List ℕ) → (same ≡ true) ↔ (xs ≡ ys) → same ≡ bytes_eq xs ys
same_bytes same xs ys is = grind (arith, bytes_eq-Decides xs ys)

rest_whole : (k : ℕ) (xs : List ℕ) → take (length xs - k) (drop k xs) ≡ drop k xs
rest_whole k xs = grind (arith, common_steps)

pub ends : (same : Bool) (name ending : List ℕ) (k : ℕ) → k ≡ length name - length ending →
    (same ≡ true) ↔ (map to_ascii_lowercase (take (length name - k) (drop k name)) ≡ map to_ascii_lowercase ending) →
    same ≡ has_ending name ending
unfolding has_ending
ends same name ending k is test =
    subst (λ rest. same ≡ bytes_eq (map to_ascii_lowercase rest) (map to_ascii_lowercase ending))
    (subst (λ m. take (length name - k) (drop k name) ≡ drop m name) is (rest_whole k name)) (same_bytes same _ _ test)

strips : (start word rest : List ℕ) → StripsPrefix (FindsTextPrefix start) word rest → rest_after start word ≡ Some rest
unfolding rest_after
strips start word rest is = grind (arith, common_steps, bytes_eq-Decides (take (length start) word) start)

lacks : (start word : List ℕ) → LacksTextAt start word 0 → rest_after start word ≡ None
unfolding rest_after
lacks start word none =
    grind (arith, none (drop (length start) word), take-append-drop (length start) word, bytes_eq-Decides (take (length start) word) start)

pub stripped : (start word : List ℕ) (rest : Option (Bor (List ℕ))) →
    MatchOption rest (LacksTextAt start word 0) (λ x. StripsPrefix (FindsTextPrefix start) word x.now) →
    option_copied rest ≡ rest_after start word
stripped start word None h = sym (lacks start word h)
stripped start word (Some x) h = sym (strips start word x.now h)
