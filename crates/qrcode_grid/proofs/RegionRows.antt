-- Regions that say nothing, and what regions say together.
use Rattle.qrcode_grid.proofs.Prelude.{◌≡◌, ◌-◌, ◌≤◌, zero, suc, ℕ, ◌<◌, ◌+◌, ◌*◌, ap, refl, arith, false, nat_lt, nat_le, ◌==◌, ◌&&◌, ◌||◌, ◌≢◌, Option, None}
use Rattle.qrcode_grid.proofs.Prelude.{[], ◌∷◌, get_or, ◌/◌, map, ◌∙◌, leb, cond, inl, inr, Bool, true, ◌%◌, fold, option_or, Light, Dark, nat_tests}
use Rattle.qrcode_grid.proofs.Prelude.{Color, Module, VERSION_WORDS, drawn_over, finder, timing, version_copies, alignments, alignment_coordinates}
use Rattle.qrcode_grid.proofs.Prelude.{near, alignment_count, alignment_at, alignment_coordinate, version_word, common_steps, range_with_len}
use Rattle.qrcode_grid.proofs.Prelude.{get_or-map-range_with_len, abs_diff, min, cases_lt, leb-true, Some}
use Rattle.qrcode_grid.proofs.Prelude.{List, length, drop, drop_more, drop_all, length-map-range_with_len}
use Rattle.qrcode_grid.proofs.Tests.{all_pass, passes, both}

pub no_version : (n x y : ℕ) → n < 7 → version_copies n x y ≡ None
no_version n x y h = grind (arith, common_steps)

-- the cells in which no version word lies
no_version_cell : (n x y : ℕ) → (nat_lt x 6 && nat_le (4 * n + 17 - 11) y && nat_lt y (4 * n + 17 - 8)) ≡ false →
    (nat_lt y 6 && nat_le (4 * n + 17 - 11) x && nat_lt x (4 * n + 17 - 8)) ≡ false → version_copies n x y ≡ None
no_version_cell n x y t u = grind (arith, common_steps)

pub no_version_before : (n x y : ℕ) → 7 ≤ n → y < 6 → x + 11 < 4 * n + 17 → version_copies n x y ≡ None
no_version_before n x y some row before = no_version_cell n x y (grind (arith, nat_tests, some, row)) (grind (arith, nat_tests, before))

pub no_version_behind : (n x y : ℕ) → 7 ≤ n → y < 6 → 4 * n + 17 ≤ x + 8 → version_copies n x y ≡ None
no_version_behind n x y some row behind = no_version_cell n x y (grind (arith, nat_tests, some, row)) (grind (arith, nat_tests, behind))

pub no_version_between : (n x y : ℕ) → 6 ≤ y → y + 11 < 4 * n + 17 → version_copies n x y ≡ None
no_version_between n x y low high = no_version_cell n x y (grind (arith, nat_tests, high)) (grind (arith, nat_tests, low))

pub no_version_beside : (n x y : ℕ) → 7 ≤ n → 4 * n + 17 ≤ y + 11 → 6 ≤ x → version_copies n x y ≡ None
no_version_beside n x y some low beside = no_version_cell n x y (grind (arith, nat_tests, beside)) (grind (arith, nat_tests, some, low))

pub no_version_below : (n x y : ℕ) → 7 ≤ n → 4 * n + 17 ≤ y + 8 → version_copies n x y ≡ None
no_version_below n x y some low = no_version_cell n x y (grind (arith, nat_tests, low)) (grind (arith, nat_tests, some, low))

pub no_alignments : (n w x y : ℕ) → n < 2 → alignments w (alignment_coordinates n) x y ≡ None
no_alignments n w x y h = grind (arith)

-- the cells in which no timing pattern lies
no_timing : (line from to x y : ℕ) → ((y == line && nat_le from x && nat_le x to) || (x == line && nat_le from y && nat_le y to))
    ≡ false → timing line from to x y ≡ None
no_timing line from to x y t = ap (λ b. cond b (Some (cond ((x + y) % 2 == 0) Dark Light)) None) t

pub no_timing_above : (line from to x y : ℕ) → y ≢ line → y < from → timing line from to x y ≡ None
no_timing_above line from to x y other above = no_timing line from to x y (grind (arith, nat_tests, other, above))

pub no_timing_below : (line from to x y : ℕ) → y ≢ line → to < y → timing line from to x y ≡ None
no_timing_below line from to x y other below = no_timing line from to x y (grind (arith, nat_tests, other, below))

pub no_timing_beside : (line from to x y : ℕ) → y ≢ line → x ≢ line → timing line from to x y ≡ None
no_timing_beside line from to x y row column = no_timing line from to x y (grind (arith, nat_tests, row, column))

pub no_timing_before : (line from to x : ℕ) → line < from → x < from → timing line from to x line ≡ None
no_timing_before line from to x order before = no_timing line from to x line (grind (arith, nat_tests, order, before))

pub no_timing_behind : (line from to x : ℕ) → line < from → to < x → timing line from to x line ≡ None
no_timing_behind line from to x order behind = no_timing line from to x line (grind (arith, nat_tests, order, behind))

-- the columns or rows that are too far from the centre of a finder pattern
pub far_before : (center first k : ℕ) → first ≡ center - 4 → k < first → 4 < abs_diff center k
far_before center first k is before = grind (arith, common_steps)

pub far_behind : (center end width k : ℕ) → end ≡ min (center + 5) width → end ≤ k → k < width → 4 < abs_diff center k
far_behind center end width k is behind inside = grind (arith, common_steps)

-- the cells that are too far for a finder pattern
pub no_finder_column : (center_x center_y x y : ℕ) → 4 < abs_diff center_x x → finder center_x center_y x y ≡ None
no_finder_column center_x center_y x y far = grind (arith, common_steps)

pub no_finder_row : (center_x center_y x y : ℕ) → 4 < abs_diff center_y y → finder center_x center_y x y ≡ None
no_finder_row center_x center_y x y far = grind (arith, common_steps)

-- what the first of some regions says is drawn last
pub drawn_three : (a b c : Option Color) (m : Module) → drawn_over (fold option_or None (a ∷ b ∷ c ∷ [])) m ≡ drawn_over a (drawn_over b (drawn_over c m))
drawn_three a b c m = grind (arith, common_steps)

pub drawn_seven : (a b c d e f g : Option Color) (m : Module) → drawn_over (fold option_or None (a ∷ b ∷ c ∷ d ∷ e ∷ f ∷ g ∷ [])) m
    ≡ drawn_over a (drawn_over b (drawn_over c (drawn_over d (drawn_over e (drawn_over f (drawn_over g m))))))
drawn_seven a b c d e f g m = grind (arith, common_steps, drawn_three)

-- Steps of the loops that look a region up.

pub near_more : (f : ℕ → ℕ) (x k c : ℕ) → k < c → 2 < abs_diff (f k) x →
    near (map f (range_with_len k (c - k))) x ≡ near (map f (range_with_len (k + 1) (c - (k + 1)))) x
near_more f x k c h far = grind (arith, common_steps)

-- the count of centre coordinates, as the code has it
pub alignment_count_is : (n : ℕ) → 1 < n → alignment_count n ≡ n / 7 + 2
alignment_count_is n h = let e : leb n 1 ≡ false = (grind (arith, nat_tests)) in ap (λ b. cond b 0 (n / 7 + 2)) e

-- a centre coordinate after the first, as the code has it
pub coordinate_is : (n k step : ℕ) → 1 < n → 1 ≤ k → step ≡ cond (n == 32) 26 ((4 * n + 2 * (n / 7 + 2) + 1) / (2 * (n / 7 + 2) - 2) * 2) →
    4 * n + 10 - (n / 7 + 2 - 1 - k) * step ≡ alignment_coordinate n k
coordinate_is n k step some behind_first is = grind (arith, nat_tests, is, alignment_count_is n some)

-- a list of the centre coordinates
pub centers_count : (n : ℕ) (centers : List ℕ) → centers ≡ alignment_coordinates n → length centers ≡ alignment_count n
centers_count n centers is = ap length is ∙ length-map-range_with_len (alignment_coordinate n) 0 (alignment_count n)

pub center_is : (n k : ℕ) (xs centers : List ℕ) → xs ≡ centers → centers ≡ alignment_coordinates n → k < alignment_count n
    → get_or xs k 0 ≡ alignment_coordinate n k
center_is n k xs centers same is h =
    ap (λ (ys : List ℕ). get_or ys k 0) (same ∙ is) ∙ get_or-map-range_with_len (alignment_coordinate n) 0 (alignment_count n) k k 0 h (omega arith)

-- the version words of the versions 7 to 40, computed
pub version_words_are : map version_word (range_with_len 7 34) ≡ VERSION_WORDS
version_words_are = refl

pub version_word_at : (n : ℕ) → 7 ≤ n → n ≤ 40 → get_or VERSION_WORDS (n - 7) 0 ≡ version_word n
version_word_at n low high = cc (get_or-map-range_with_len version_word 7 34 (n - 7) n 0 (omega arith) (omega arith))

-- The coordinates from place k on: the one there is near, or what follows decides.

pub near_found : (cs : List ℕ) (k x : ℕ) → k < length cs → abs_diff (get_or cs k 0) x ≤ 2 → near (drop k cs) x ≡ Some (get_or cs k 0)
near_found cs k x h e = grind (arith, common_steps, drop_more)

pub near_past : (cs : List ℕ) (k x : ℕ) → k < length cs → 2 < abs_diff (get_or cs k 0) x → near (drop k cs) x ≡ near (drop (k + 1) cs) x
near_past cs k x h e = grind (arith, common_steps, drop_more)

pub near_end : (cs : List ℕ) (k x : ℕ) → length cs ≤ k → near (drop k cs) x ≡ None
near_end cs k x h = grind (arith, common_steps, drop_all)

-- The cells of a row that no alignment pattern covers: before, between and after the five cells of
-- each centre.

-- computed: the centre coordinates are five apart and more, and each has its five cells in the grid
abbrev is_rising : ℕ → Bool
is_rising n = all_pass (λ j. all_pass (λ i. nat_le (alignment_coordinate n i + 5) (alignment_coordinate n j)) 0 j) 0 (alignment_count n)

abbrev is_inside : ℕ → Bool
is_inside n = all_pass (λ k. nat_le 2 (alignment_coordinate n k) && nat_le (alignment_coordinate n k + 3) (4 * n + 17)) 0 (alignment_count n)

inside : all_pass is_inside 0 41 ≡ true
inside = refl

apart : (n i j : ℕ) → n ≤ 40 → i < j → j < alignment_count n → alignment_coordinate n i + 5 ≤ alignment_coordinate n j
apart n i j high order within =
    leb-true _ _ (passes (λ i. nat_le (alignment_coordinate n i + 5) (alignment_coordinate n j)) 0 j i
    (passes (λ j. all_pass (λ i. nat_le (alignment_coordinate n i + 5) (alignment_coordinate n j)) 0 j) 0 (alignment_count n) j
    (passes is_rising 0 41 n (refl) (omega arith) (omega arith)) (omega arith) (omega arith)) (omega arith) (omega arith))

pub cells_inside : (n k : ℕ) → n ≤ 40 → k < alignment_count n → (2 ≤ alignment_coordinate n k) × (alignment_coordinate n k + 3 ≤ 4 * n + 17)
cells_inside n k high within =
    let t = both _ _ (passes (λ k. nat_le 2 (alignment_coordinate n k) && nat_le (alignment_coordinate n k + 3) (4 * n + 17)) 0 (alignment_count n) k
    (passes is_inside 0 41 n inside (omega arith) (omega arith)) (omega arith) (omega arith)) in
    (leb-true _ _ t.0, leb-true _ _ t.1)

-- the first column after the cells of the centres before a number
abbrev pub behind : ℕ → ℕ → ℕ
behind n zero = 0
behind n (suc k) = alignment_coordinate n k + 3

far_from_all : (f : ℕ → ℕ) (x c m k : ℕ) → k + m ≡ c → ((i : ℕ) → i < c → 2 < abs_diff (f i) x) → near (map f (range_with_len k (c - k))) x ≡ None
far_from_all f x c zero k e far = let none : c - k ≡ 0 = omega arith in ap (λ m. near (map f (range_with_len k m)) x) none
far_from_all f x c (suc m) k e far = grind (arith, common_steps, near_more, far_from_all f x c m (k + 1) (omega arith) far)

before_far : (n k i x : ℕ) → n ≤ 40 → k ≤ alignment_count n → i < k → behind n k ≤ x → 2 < abs_diff (alignment_coordinate n i) x
before_far n k i x h l m e = grind (arith, apart)

all_from_zero : (n x : ℕ) → near (map (alignment_coordinate n) (range_with_len 0 (alignment_count n - 0))) x ≡ None → near (alignment_coordinates n) x ≡ None
all_from_zero n x e = grind arith

-- between two centres no coordinate is near
pub none_between : (n k x : ℕ) → n ≤ 40 → k < alignment_count n → behind n k ≤ x → x + 2 < alignment_coordinate n k → near (alignment_coordinates n) x ≡ None
none_between n k x high within low last =
    all_from_zero n x (far_from_all (alignment_coordinate n) x (alignment_count n) (alignment_count n) 0 (omega arith) (λ i inside. elim (cases_lt i k) [
      | inl before ↦ before_far n k i x high (omega arith) before low
      | inr after ↦ (grind (arith, common_steps, apart))
    ]))

-- nor after the last
pub none_behind : (n x : ℕ) → n ≤ 40 → behind n (alignment_count n) ≤ x → near (alignment_coordinates n) x ≡ None
none_behind n x high low =
    all_from_zero n x (far_from_all (alignment_coordinate n) x (alignment_count n) (alignment_count n) 0 (omega arith)
    (λ i inside. before_far n (alignment_count n) i x high (omega arith) inside low))

pub behind_before : (n k : ℕ) → n ≤ 40 → k < alignment_count n → behind n k + 2 ≤ alignment_coordinate n k
behind_before n k h l = grind (arith, cells_inside, apart)

pub no_pattern : (w : ℕ) (o p : Option ℕ) (x y : ℕ) → o ≡ None → alignment_at w o p x y ≡ None
no_pattern w o p x y h = grind (arith)

pub no_pattern_row : (w : ℕ) (o p : Option ℕ) (x y : ℕ) → p ≡ None → alignment_at w o p x y ≡ None
no_pattern_row w o p x y h = grind (arith)

pub behind_within : (n k : ℕ) → n ≤ 40 → k ≤ alignment_count n → behind n k ≤ 4 * n + 17
behind_within n k h l = grind (arith, cells_inside)
