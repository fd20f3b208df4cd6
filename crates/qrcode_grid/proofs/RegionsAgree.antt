-- Where the regions of a symbol meet they agree: what any of them says of a cell is its colour.
-- Only the timing patterns and the alignment patterns meet.
use Rattle.qrcode_grid.proofs.Prelude.{◌≡◌, ℕ, pos, negsuc, ◌<◌, ◌≤◌, ◌+◌, ◌-◌, ◌*◌, ap, ◌∙◌, sym, refl, subst, arith, inl, inr, List, [], ◌∷◌, ◌++◌, Bool}
use Rattle.qrcode_grid.proofs.Prelude.{true, false, not, ◌==◌, ◌&&◌, ◌||◌, nat_le, nat_lt, cond, ◌%◌, fold, All, IfSome, Option, Some, None, is_some, option_or}
use Rattle.qrcode_grid.proofs.Prelude.{cases_eq, cases_lt, false≢true, nat_tests, All-nil, All-cons, Color, Light, Dark, Version, Normal, Micro, IsVersion}
use Rattle.qrcode_grid.proofs.Prelude.{width_of, bit_at, digit_color, finder, timing, digit_at, format_first, format_second, format_micro, written}
use Rattle.qrcode_grid.proofs.Prelude.{version_copies, alignments, alignment_coordinates, functional_color, regions, common_steps}
use Rattle.qrcode_grid.proofs.{Tests.all_pass, Tests.passes, Tests.both, Areas.finder_test, Areas.finder_is, Areas.timing_test, Areas.first_test}
use Rattle.qrcode_grid.proofs.{Areas.first_is, Areas.second_test, Areas.second_is, Areas.micro_is, Areas.version_is, Areas.some-if, Areas.some-option_map}

abbrev Agree : Option Color → Option Color → Type 0
Agree a b = (c d : Color) → a ≡ Some c → b ≡ Some d → c ≡ d

-- two regions that never both say something
apart_agree : (a b : Option Color) (s t : Bool) → is_some a ≡ s → is_some b ≡ t → (s && t) ≡ false → Agree a b
apart_agree a0 a1 a2 a3 a4 a5 a6 a7 a8 a9 a10 = grind (arith, false≢true)

abbrev EachAgrees : Option Color → List (Option Color) → Type 0
EachAgrees r [] = Unit {0}
EachAgrees r (s ∷ ss) = Agree r s × EachAgrees r ss

abbrev PairsAgree : List (Option Color) → Type 0
PairsAgree [] = Unit {0}
PairsAgree (r ∷ rs) = EachAgrees r rs × PairsAgree rs

fold_some : (c : Color) (rs : List (Option Color)) → fold option_or (Some c) rs ≡ Some c
fold_some c [] = refl
fold_some c (r ∷ rs) = fold_some c rs

-- if a region says a colour, it is the one that was found
abbrev pub Says : Option Color → Option Color → Type 0
Says found r = IfSome r (λ c. found ≡ Some c)

each_says : (found : Option Color) (c : Color) → found ≡ Some c → (rs : List (Option Color)) → EachAgrees (Some c) rs → All (Says found) rs
each_says found c e [] h = All-nil (Says found)
each_says found c e (None ∷ rs) h = All-cons (Says found) None rs tt (each_says found c e rs h.1)
each_says found c e (Some d ∷ rs) h = All-cons (Says found) (Some d) rs (e ∙ ap Some (h.0 c d refl refl)) (each_says found c e rs h.1)

all_say : (rs : List (Option Color)) → PairsAgree rs → All (Says (fold option_or None rs)) rs
all_say [] h = All-nil (Says None)
all_say (None ∷ rs) h = All-cons (Says (fold option_or None rs)) None rs tt (all_say rs h.1)
all_say (Some c ∷ rs) h = grind (arith, All-cons, fold_some, each_says)

and_false : (b : Bool) → (b && false) ≡ false
and_false b = grind (arith)

-- the copies of the version word
abbrev copy_test : ℕ → ℕ → ℕ → Bool
copy_test w x y = nat_lt x 6 && nat_le (w - 11) y && nat_lt y (w - 8)

abbrev copies_test : ℕ → ℕ → ℕ → Bool
copies_test w x y = copy_test w x y || copy_test w y x

copies_are : (n x y : ℕ) → is_some (version_copies n x y) ≡ (nat_le 7 n && copies_test (4 * n + 17) x y)
copies_are n x y = grind (arith, common_steps, version_is)

-- regions that lie where these tests say
abbrev Tested : List Bool → List (Option Color) → Type 0
Tested ts [] = Unit {0}
Tested [] (r ∷ rs) = ⊥
Tested (t ∷ ts) (r ∷ rs) = (is_some r ≡ t) × Tested ts rs

abbrev any : List Bool → Bool
any [] = false
any (t ∷ ts) = t || any ts

-- no region meets a later one
abbrev Apart : List Bool → Type 0
Apart [] = Unit {0}
Apart (t ∷ ts) = ((t && any ts) ≡ false) × Apart ts

and_or : (s t u : Bool) → (s && (t || u)) ≡ false → ((s && t) ≡ false) × ((s && u) ≡ false)
and_or s t u h = grind (arith, false≢true)

each_apart : (s : Bool) (a : Option Color) (ts : List Bool) (rs : List (Option Color)) → is_some a ≡ s → Tested ts rs → (s && any ts) ≡ false → EachAgrees a rs
each_apart s a ts [] p q e = tt
each_apart s a [] (r ∷ rs) p q e = absurd q
each_apart s a (t ∷ ts) (r ∷ rs) p q e = let h = and_or s t (any ts) e in (apart_agree a r s t p q.0 h.0, each_apart s a ts rs p q.1 h.1)

pairs_apart : (ts : List Bool) (rs : List (Option Color)) → Tested ts rs → Apart ts → PairsAgree rs
pairs_apart ts [] q e = tt
pairs_apart [] (r ∷ rs) q e = absurd q
pairs_apart (t ∷ ts) (r ∷ rs) q e = (each_apart t r ts rs q.0 q.1 e.0, pairs_apart ts rs q.1 e.1)

-- a region that agrees with others may be put among them
each_insert : (r a : Option Color) (before after : List (Option Color)) → EachAgrees r (before ++ after) → Agree r a → EachAgrees r (before ++ a ∷ after)
each_insert r a [] after h e = (e, h)
each_insert r a (s ∷ before) after h e = (h.0, each_insert r a before after h.1 e)

pairs_insert : (a : Option Color) (before after : List (Option Color)) → PairsAgree (before ++ after) → EachAgrees a (before ++ after) →
    PairsAgree (before ++ a ∷ after)
pairs_insert a [] after h e = (e, h)
pairs_insert a (r ∷ before) after h e = (each_insert r a before after h.0 (λ c d p q. sym (e.0 d c q p)), pairs_insert a before after h.1 e.1)

-- the regions but the alignment patterns lie apart; v says whether there are version words
abbrev finder_tests : ℕ → ℕ → ℕ → List Bool
finder_tests w x y = finder_test 3 3 x y ∷ finder_test (w - 4) 3 x y ∷ finder_test 3 (w - 4) x y ∷ []

abbrev word_tests : ℕ → Bool → ℕ → ℕ → List Bool
word_tests w v x y = (x == 8 && y == w - 8) ∷ first_test x y ∷ second_test w x y ∷ (v && copies_test w x y) ∷ []

normal_apart : (w x y : ℕ) (v : Bool) → 21 ≤ w → x < w → y < w → Apart (finder_tests w x y ++ timing_test 6 8 (w - 9) x y ∷ word_tests w v x y)
normal_apart w x y v wide l m = (
  grind (arith, nat_tests),
  (
    grind (arith, nat_tests),
    (
      grind (arith, nat_tests),
      (grind (arith, nat_tests), (grind (arith, nat_tests), (grind (arith, nat_tests), (grind (arith, nat_tests), (and_false (v && copies_test w x y), tt))))),
    ),
  ),
)

-- they lie in strips along the twins, and there no alignment pattern meets them: computed
mid_row : (w x y : ℕ) (v : Bool) → 21 ≤ w → 9 ≤ x → x + 11 < w → any (finder_tests w x y ++ word_tests w v x y) ≡ false
mid_row w x y v wide a b = grind (arith, nat_tests)

abbrev meets_word : ℕ → ℕ → ℕ → Bool
meets_word n x y = any (finder_tests (4 * n + 17) x y ++ word_tests (4 * n + 17) (nat_le 7 n) x y)

abbrev is_clear_at : ℕ → ℕ → ℕ → Bool
is_clear_at n x y = not (is_some (alignments (4 * n + 17) (alignment_coordinates n) x y) && meets_word n x y)

abbrev strip_clear : ℕ → ℕ → ℕ → Bool
strip_clear n k j = is_clear_at n k j && (is_clear_at n k (4 * n + 6 + j) && is_clear_at n (4 * n + 6 + j) k)

abbrev strips_clear : ℕ → Bool
strips_clear n = all_pass (λ k. all_pass (strip_clear n k) 0 11) 0 9

strip_at : (n k j : ℕ) → 1 ≤ n → n ≤ 40 → k < 9 → j < 11 → strip_clear n k j ≡ true
strip_at n k j low high h i =
    passes (strip_clear n k) 0 11 j (passes (λ k. all_pass (strip_clear n k) 0 11) 0 9 k (passes strips_clear 1 40 n (refl) low (omega arith)) (omega arith)
    (omega arith)) (omega arith) (omega arith)

not_true : (b : Bool) → not b ≡ true → b ≡ false
not_true b h = grind (arith, false≢true)

abbrev Clear : ℕ → ℕ → ℕ → Type 0
Clear n x y = (is_some (alignments (4 * n + 17) (alignment_coordinates n) x y) && meets_word n x y) ≡ false

far_at : (n k z : ℕ) → 1 ≤ n → n ≤ 40 → k < 9 → 4 * n + 6 ≤ z → z < 4 * n + 17 → Clear n k z × Clear n z k
far_at n k z low high h from to =
    let e : 4 * n + 6 + (z - (4 * n + 6)) ≡ z = omega arith in
    let at = both _ _ (both _ _ (strip_at n k (z - (4 * n + 6)) low high h (omega arith))).1 in
    (subst (Clear n k) e (not_true _ at.0), subst (λ (j : ℕ). Clear n j k) e (not_true _ at.1))

none_there : (n x y : ℕ) → meets_word n x y ≡ false → Clear n x y
none_there n x y e = ap (λ b. is_some (alignments (4 * n + 17) (alignment_coordinates n) x y) && b) e ∙ and_false _

clear : (n x y : ℕ) → 1 ≤ n → n ≤ 40 → x < 4 * n + 17 → y < 4 * n + 17 → Clear n x y
clear n x y low high l m = elim (cases_lt x 9) [
  | inl a ↦ elim (cases_lt y 9) [
    | inl b ↦ not_true _ (both _ _ (strip_at n x y low high a (omega arith))).0
    | inr b ↦ elim (cases_lt (y + 11) (4 * n + 17)) [
      | inl c ↦ none_there n x y (grind (arith, nat_tests))
      | inr c ↦
          (far_at n x y low high a (omega arith) m).0
    ]
  ]
  | inr a ↦ elim (cases_lt y 9) [
    | inl b ↦ elim (cases_lt (x + 11) (4 * n + 17)) [
      | inl c ↦ none_there n x y (mid_row (4 * n + 17) x y (nat_le 7 n) (omega arith) a c)
      | inr c ↦
          (far_at n y x low high b (omega arith) l).1
    ]
    | inr b ↦ none_there n x y (grind (arith, nat_tests))
  ]
]

-- the alignment patterns have the colours of the timing patterns where they meet them: computed
abbrev agree : Option Color → Option Color → Bool
agree (Some Dark) (Some Light) = false
agree (Some Light) (Some Dark) = false
agree a b = true

agree-sound : (a b : Option Color) → agree a b ≡ true → Agree a b
agree-sound a0 a1 a2 a3 a4 a5 a6 = grind (arith, false≢true)

abbrev timing_agrees : ℕ → ℕ → ℕ → Bool
timing_agrees n x y = agree (timing 6 8 (4 * n + 17 - 9) x y) (alignments (4 * n + 17) (alignment_coordinates n) x y)

abbrev timings_agree : ℕ → Bool
timings_agree n = all_pass (λ k. timing_agrees n k 6 && timing_agrees n 6 k) 0 (4 * n + 17)

timing_agree : (n x y : ℕ) → 1 ≤ n → n ≤ 40 → x < 4 * n + 17 → y < 4 * n + 17 →
    Agree (timing 6 8 (4 * n + 17 - 9) x y) (alignments (4 * n + 17) (alignment_coordinates n) x y)
timing_agree n x y low high l m =
    let w = 4 * n + 17 in
    let at : (k : ℕ) → k < w → (timing_agrees n k 6 && timing_agrees n 6 k) ≡ true =
    λ k h. passes (λ k. timing_agrees n k 6 && timing_agrees n 6 k) 0 w k (passes timings_agree 1 40 n (refl) low (omega arith))
    (omega arith) (omega arith) in
    elim (cases_eq y 6) [
      | inl row ↦ agree-sound _ _ (ap (timing_agrees n x) row ∙ (both _ _ (at x l)).0)
      | inr off ↦ elim (cases_eq x 6) [
        | inl column ↦ agree-sound _ _ (ap (λ k. timing_agrees n k y) column ∙ (both _ _ (at y m)).1)
        | inr neither ↦ apart_agree _ _ _ _ (some-if (timing_test 6 8 (w - 9) x y) (cond ((x + y) % 2 == 0) Dark Light)) refl (grind (arith, nat_tests))
      ]
    ]

normal_pairs : (n format x y : ℕ) → 1 ≤ n → n ≤ 40 → x < 4 * n + 17 → y < 4 * n + 17 → PairsAgree (regions (Normal (pos n)) format x y)
normal_pairs n format x y low high l m =
    let w = 4 * n + 17 in
    let v = nat_le 7 n in
    let a = alignments w (alignment_coordinates n) x y in
    let t = timing 6 8 (w - 9) x y in
    let finders : List (Option Color) = finder 3 3 x y ∷ finder (w - 4) 3 x y ∷ finder 3 (w - 4) x y ∷ [] in
    let dark = cond (x == 8 && y == w - 8) (Some Dark) None in
    let words : List (Option Color) = written format format_first x y ∷ written format (format_second w) x y ∷ version_copies n x y ∷ [] in
    let in_words : Tested (word_tests w v x y) (dark ∷ words) = (
      some-if (x == 8 && y == w - 8) Dark,
      (
        some-option_map (λ k. digit_color (bit_at format k)) (digit_at format_first x y) ∙ first_is x y,
        (
          some-option_map (λ k. digit_color (bit_at format k)) (digit_at (format_second w) x y)
              ∙ second_is w x y (omega arith) l m,
          (copies_are n x y, tt),
        ),
      ),
    ) in
    let in_timing : is_some t ≡ timing_test 6 8 (w - 9) x y = some-if (timing_test 6 8 (w - 9) x y) (cond ((x + y) % 2 == 0) Dark Light) in
    pairs_insert a (finders ++ t ∷ dark ∷ []) words
    (pairs_apart (finder_tests w x y ++ timing_test 6 8 (w - 9) x y ∷ word_tests w v x y) (finders ++ t ∷ dark ∷ words)
    (finder_is 3 3 x y, (finder_is (w - 4) 3 x y, (finder_is 3 (w - 4) x y, (in_timing, in_words)))) (normal_apart w x y v (omega arith) l m))
    (each_insert a t finders (dark ∷ words)
    (each_apart (is_some a) a (finder_tests w x y ++ word_tests w v x y) (finders ++ dark ∷ words) refl
    (finder_is 3 3 x y, (finder_is (w - 4) 3 x y, (finder_is 3 (w - 4) x y, in_words))) (clear n x y low high l m))
    (λ c d p q. sym (timing_agree n x y low high l m d c q p)))

abbrev micro_test : ℕ → ℕ → Bool
micro_test x y = (y == 8 && nat_lt x 9 && not (x == 0)) || (x == 8 && nat_lt y 9 && not (y == 0))

-- What any region says of a cell is its functional colour.
pub regions_say : (version : Version) (format x y : ℕ) → IsVersion version → x < width_of version → y < width_of version →
    All (λ says. IfSome says (λ c. functional_color version format x y ≡ Some c)) (regions version format x y)
regions_say (Normal (pos n)) format x y h l m = all_say (regions (Normal (pos n)) format x y) (normal_pairs n format x y h.0 h.1 l m)
regions_say (Normal (negsuc n)) format x y h l m = absurd h
regions_say (Micro (pos n)) format x y h l m =
    let w = 2 * n + 9 in
    all_say (regions (Micro (pos n)) format x y)
    (pairs_apart (finder_test 3 3 x y ∷ timing_test 0 8 (w - 1) x y ∷ micro_test x y ∷ []) (regions (Micro (pos n)) format x y) (
      finder_is 3 3 x y,
      (
        some-if (timing_test 0 8 (w - 1) x y) (cond ((x + y) % 2 == 0) Dark Light),
        (some-option_map (λ k. digit_color (bit_at format k)) (digit_at format_micro x y) ∙ micro_is x y, tt),
      ),
    )
    ((grind (arith, nat_tests), (grind (arith, nat_tests), (and_false (micro_test x y), tt)))))
regions_say (Micro (negsuc n)) format x y h l m = absurd h
