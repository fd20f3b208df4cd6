-- Lists over a range of numbers, with one number more.
use Rattle.std.proofs.Common.{◌≡◌, ℕ, zero, suc, ◌+◌, ◌<◌, replicate, refl, List, [], ◌∷◌, ◌++◌, map, sym, ◌∙◌, ap, arith, append-nil, append_assoc}
use Rattle.std.specs.List.{flat_map, range_with_len}
use Rattle.std.proofs.lemmas.{Grind.flat_map-append, Grind.replicate_next, List.FromFn.map-range_with_len_more, List.Folds.flat_map-map}

-- what is joined over one number more
pub flat_map_from : {A : Type 0} (f : ℕ → List A) (from n : ℕ) → flat_map f (range_with_len from (n + 1)) ≡ flat_map f (range_with_len from n) ++ f (from + n)
flat_map_from f from n =
    let each : List _ → List _ = λ xs. xs in
    sym (flat_map-map each f (range_with_len from (n + 1)))
    ∙ ap (flat_map each) (map-range_with_len_more f from n (from + n) refl)
    ∙ flat_map-append each (map f (range_with_len from n)) (f (from + n) ∷ [])
    ∙ simp (flat_map-map, append-nil)

pub flat_map_range : {A : Type 0} (f : ℕ → List A) (n : ℕ) → flat_map f (range_with_len 0 (n + 1)) ≡ flat_map f (range_with_len 0 n) ++ f n
flat_map_range f n =
    let each : List _ → List _ = λ xs. xs in
    sym (flat_map-map each f (range_with_len 0 (n + 1)))
    ∙ ap (flat_map each) (map-range_with_len_more f 0 n n (omega arith))
    ∙ flat_map-append each (map f (range_with_len 0 n)) (f n ∷ [])
    ∙ simp (flat_map-map, append-nil)

-- one piece more after what was there at the start
pub joined : {A : Type 0} (start before old piece new next : List A) → next ≡ before ++ piece → old ≡ start ++ before → new ≡ old ++ piece → new ≡ start ++ next
joined start before old piece new next more was adds = grind (arith, append_assoc)

-- four pieces, one after the other
pub four_pieces : {A : Type 0} (a b c d : List A) → ((a ++ b) ++ c) ++ d ≡ a ++ (b ++ (c ++ d))
four_pieces a b c d = simp append_assoc

-- five pieces
pub five_pieces : {A : Type 0} (a b c d e : List A) → (((a ++ b) ++ c) ++ d) ++ e ≡ a ++ (b ++ (c ++ (d ++ e)))
five_pieces a b c d e = simp append_assoc

-- six pieces, and seven
pub six_pieces : {A : Type 0} (a b c d e f : List A) → ((((a ++ b) ++ c) ++ d) ++ e) ++ f ≡ a ++ (b ++ (c ++ (d ++ (e ++ f))))
six_pieces a b c d e f = simp append_assoc

pub seven_pieces : {A : Type 0} (a b c d e f g : List A) → (((((a ++ b) ++ c) ++ d) ++ e) ++ f) ++ g ≡ a ++ (b ++ (c ++ (d ++ (e ++ (f ++ g)))))
seven_pieces a b c d e f g = simp append_assoc

-- equal values
pub equal_values : {A : Type 0} (f : ℕ → A) (a n : ℕ) → ((k : ℕ) → k < n → f (a + k) ≡ f a) → map f (range_with_len a n) ≡ replicate n (f a)
equal_values f a zero same = refl
equal_values f a (suc n) same =
    let last : suc n ≡ n + 1 = omega arith in
    ap (λ k. map f (range_with_len a k)) last
    ∙ (map-range_with_len_more f a n (a + n) refl
    ∙ (ap (λ l. l ++ f (a + n) ∷ []) (equal_values f a n (λ k below. same k (omega arith)))
    ∙ (ap (λ r. replicate n (f a) ++ r ∷ []) (same n (omega arith))
    ∙ (sym (replicate_next n (f a)) ∙ ap (λ k. replicate k (f a)) (sym last)))))
