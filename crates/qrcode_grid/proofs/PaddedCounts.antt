-- What is counted over all places of a padded grid, by its lines, its squares and its modules.
use Rattle.qrcode_grid.proofs.Prelude.{◌≡◌, ℕ, zero, suc, ◌+◌, ◌-◌, ◌*◌, ◌<◌, ◌≤◌, ◌==◌, ◌&&◌, Bool, false, cond, List, length, get_or, count_by, refl, ap, ◌∙◌}
use Rattle.qrcode_grid.proofs.Prelude.{sym, arith, ◌∷◌, ◌||◌, take, drop, inl, inr, range_with_len, mul-le-mul_right, add-mul, cases_lt, nat_tests}
use Rattle.qrcode_grid.proofs.Prelude.{sum_below, count_below, row, column, line_penalty, is_byte_square_at, is_dark_byte, AreTwins, IsPadded, cell, has}
use Rattle.qrcode_grid.proofs.Prelude.{has_five, has_six, has_finder, has_square, places, stride, is_quiet, common_steps, get_or_past, length-map, length-chunk}
use Rattle.qrcode_grid.proofs.Prelude.{get_or-chunk, length-range_with_len, get_or-map-range_with_len}
use Rattle.qrcode_grid.proofs.Windows.{are_light, is_pattern, and_seven, window_is, no_pattern}
use Rattle.qrcode_grid.specs.declared.canvas.scoring.lists.Feature.TheVariants.{Finder, Square, Dark}
use Rattle.qrcode_grid.proofs.LongRuns.{twin_within, twin, twin_past, five_of, six_of, runs_are}
use Rattle.qrcode_grid.proofs.Totals.{total-add, total-cong, total-mul, total-plus, total-none}
use Rattle.qrcode_grid.{specs.Penalty.is_finder_like, proofs.MarkedLanes.count_as_sum, proofs.MarkedLanes.count_one_more}

-- What is counted over the places of a padded grid is what its rows and columns count.

-- The columns of a grid, module by module.

pub length-column : (w : ℕ) (modules : List ℕ) (x : ℕ) → length (column w modules x) ≡ w
length-column w modules x = length-map (range_with_len 0 w) (λ y. get_or modules (y * w + x) 0) ∙ length-range_with_len 0 w

pub get_or-column : (w : ℕ) (modules : List ℕ) (x y : ℕ) → y < w → get_or (column w modules x) y 0 ≡ get_or modules (y * w + x) 0
get_or-column w modules x y h = get_or-map-range_with_len (λ y. get_or modules (y * w + x) 0) 0 w y y 0 (omega arith) (omega arith)

-- a place in a row lies before each later row
pub row_before : (s r x y : ℕ) → r < y → x < s → r * s + x < y * s
row_before s r x y h l = omega (arith, mul-le-mul_right s h, add-mul r 1 s, l)

module _ (w : ℕ) (cells : List ℕ) (y : ℕ) (square : length cells ≡ w * w) (inside : y < w) where
  whole : y * w + w - y * w ≡ w
  whole = omega arith

  pub length-row : length (row w cells y) ≡ w
  length-row = ap (λ k. length (take k (drop (y * w) cells))) whole ∙ length-chunk (y * w) w cells (omega (arith, square, mul-le-mul_right w inside))

  pub get_or-row : (x : ℕ) → x < w → get_or (row w cells y) x 0 ≡ get_or cells (y * w + x) 0
  get_or-row x h = ap (λ k. get_or (take k (drop (y * w) cells)) x 0) whole ∙ get_or-chunk (y * w) w cells x 0 h

count_places : (p : ℕ → Bool) (n : ℕ) → count_by p (range_with_len 0 n) ≡ count_below p n
count_places p zero = refl
count_places p (suc n) = grind (arith, count_one_more p n (p n) refl, count_places p n)

-- a line with the four modules of the quiet zone before it
abbrev quiet : List ℕ → List ℕ
quiet line = 0 ∷ 0 ∷ 0 ∷ 0 ∷ line

-- a line by its places: four light modules, the line, and light modules after it
quiet_from : (line : List ℕ) (n t : ℕ) (f : ℕ → ℕ) → length line ≡ n → ((t : ℕ) → t < 4 → f t ≡ 0) → ((i : ℕ) → i < n → f (4 + i) ≡ get_or line i 0) →
    (n + 4 ≤ t → f t ≡ 0) → f t ≡ get_or (quiet line) t 0
quiet_from line n t f long before here after = grind (arith, cases_lt, get_or_past, common_steps)

same_modules : (a b c d : ℕ) (e : Bool) → a ≡ c → b ≡ d → e ≡ (c == d) → (a == b) ≡ e
same_modules a b c d e ea eb ee = ap (λ n. n == b) ea ∙ ap (λ n. c == n) eb ∙ sym ee

module _ (w : ℕ) (cells padded : List ℕ) (is : IsPadded w cells padded) (square : length cells ≡ w * w) where
  abbrev far : ℕ
  far = stride w

  pub in_column : (x t : ℕ) → x < w → get_or padded (t * far + x) 0 ≡ get_or (quiet (column w cells x)) t 0
  in_column x t hx =
      quiet_from (column w cells x) w t (λ t. get_or padded (t * far + x) 0) (length-column w cells x)
      (λ t h. is.above (t * far + x) (row_before far t x 4 h (omega (arith, hx))))
      (λ i h. is.grid x i hx h ∙ sym (get_or-column w cells x i h))
      (λ h. let past : 4 + w ≤ t = omega (arith, h) in is.below (t * far + x) (omega (arith, mul-le-mul_right far past)))

  pub in_row : (y t : ℕ) → y < w → t < w + 8 → get_or padded (y * far + t + 4 * (far - 1)) 0 ≡ get_or (quiet (row w cells y)) t 0
  in_row y t hy ht =
      let f : ℕ → ℕ = λ t. get_or padded (y * far + t + 4 * (far - 1)) 0 in
      quiet_from (row w cells y) w t f (length-row w cells y square hy)
      (λ t h.
      let e : y * far + t + 4 * (far - 1) ≡ (3 + y) * far + (far + t - 4) = omega (arith, add-mul 3 y far, h) in
      ap (λ k. get_or padded k 0) e ∙ is.beside (far + t - 4) (3 + y) (omega (arith, h)) (omega (arith, h)))
      (λ i h.
      let e : y * far + (4 + i) + 4 * (far - 1) ≡ (4 + y) * far + i = omega (arith, add-mul 4 y far) in
      ap (λ k. get_or padded k 0) e ∙ is.grid i y h hy ∙ sym (get_or-row w cells y square hy i h))
      (λ h.
      let e : y * far + t + 4 * (far - 1) ≡ (4 + y) * far + (t - 4) = omega (arith, add-mul 4 y far, h) in
      ap (λ k. get_or padded k 0) e ∙ is.beside (t - 4) (4 + y) (omega (arith, h)) (omega (arith, h, ht)))

  pub column_twin : (twins : List ℕ) → AreTwins w far w (w - 1) padded twins → (x t : ℕ) → x < w →
      get_or twins (t * far + x) 0 ≡ cond (twin (column w cells x) t) 1 0
  column_twin twins are x t hx = grind (arith, length-column, cases_lt, add-mul, get_or-column, same_modules, twin_within, mul-le-mul_right, twin_past)

  pub row_twin : (twins : List ℕ) → AreTwins w 1 (w - 1) w padded twins → (y t : ℕ) → y < w → t < far →
      get_or twins (y * far + t) 0 ≡ cond (twin (row w cells y) t) 1 0
  row_twin twins are y t hy ht = grind (arith, length-row, cases_lt, add-mul, get_or-row, same_modules, twin_within, twin_past)

one_is : (b : Bool) → (cond b 1 0 == 1) ≡ b
one_is b = grind arith

and_same : (a b c d a' b' c' d' : Bool) → a ≡ a' → b ≡ b' → c ≡ c' → d ≡ d' → (a && b && c && d) ≡ (a' && b' && c' && d')
and_same a b c d a' b' c' d' ea eb ec ed = grind (arith, common_steps)

-- where a module is light that has to be dark there is no pattern
no_third : (step : ℕ) (cells : List ℕ) (k : ℕ) → cell step cells k 6 ≡ 0 → has_finder step cells k ≡ false
no_third step cells k e = grind (arith, nat_tests)

no_last : (step : ℕ) (cells : List ℕ) (k : ℕ) → cell step cells k 10 ≡ 0 → has_finder step cells k ≡ false
no_last step cells k e = grind (arith, nat_tests)

-- a line of n modules, by the places of its twins and of its modules, each a step after the last
module _ (line twins padded : List ℕ) (n step : ℕ) (at from : ℕ → ℕ) (long : length line ≡ n)
    (next : (j i : ℕ) → at j + i * step ≡ at (j + i)) (next_from : (j i : ℕ) → from j + i * step ≡ from (j + i))
    (on : (t : ℕ) → t < n + 4 → get_or twins (at t) 0 ≡ cond (twin line t) 1 0)
    (lit : (t : ℕ) → t < n + 8 → get_or padded (from t) 0 ≡ get_or (quiet line) t 0) where
  twin_here : (j i k : ℕ) → j < n → i ≤ 4 → j + i ≡ k → (cell step twins (at j) i == 1) ≡ twin line k
  twin_here j i k h l e = grind (arith, one_is, twin)

  five_here : (j : ℕ) → j < n → has_five step twins (at j) ≡ five_of line j
  five_here j h = grind (arith, and_same, twin_here)

  six_here : (j : ℕ) → j < n → has_six step twins (at j) ≡ six_of line j
  six_here j h = ap (λ b. b && (cell step twins (at j) 4 == 1)) (five_here j h) ∙ ap (λ b. five_of line j && b) (twin_here j 4 (j + 4) h (omega arith) refl)

  module_here : (j i k : ℕ) → j + i < n + 8 → j + i ≡ k → cell step padded (from j) i ≡ get_or (quiet line) k 0
  module_here j i k h e = ap (λ p. get_or padded p 0) (next_from j i) ∙ lit (j + i) h ∙ ap (λ p. get_or (quiet line) p 0) e

  light_here : (j i k : ℕ) → j + 6 < n → i ≤ 11 → j + i ≡ k → is_quiet step padded (from j) i ≡ are_light (quiet line) k
  light_here j i k h l e = grind (arith, module_here, and_same)

  finder_within : (j : ℕ) → j + 6 < n → has_finder step padded (from j) ≡ is_finder_like (quiet line) j
  finder_within j h =
      let is : (a i k : ℕ) → i ≤ 14 → j + i ≡ k → (cell step padded (from j) i == a) ≡ (get_or (quiet line) k 0 == a) =
      λ a i k l e. ap (λ m. m == a) (module_here j i k (omega (arith, h, l)) e) in
      let p = j + 4 in
      let pattern = and_seven _ _ _ _ _ _ _ _ _ _ _ _ _ _ (is 1 4 p (omega arith) refl) (is 0 5 (p + 1) (omega arith) (omega arith))
      (is 1 6 (p + 2) (omega arith) (omega arith))
      (is 1 7 (p + 3) (omega arith) (omega arith)) (is 1 8 (p + 4) (omega arith) (omega arith)) (is 0 9 (p + 5) (omega arith) (omega arith))
      (is 1 10 (p + 6) (omega arith) (omega arith)) in
      ap (λ t. t && (is_quiet step padded (from j) 0 || is_quiet step padded (from j) 11)) pattern
      ∙ ap (λ t. is_pattern (quiet line) p && (t || is_quiet step padded (from j) 11)) (light_here j 0 j h (omega arith) (omega arith))
      ∙ ap (λ t. is_pattern (quiet line) p && (are_light (quiet line) j || t)) (light_here j 11 (j + 11) h (omega arith) refl)
      ∙ sym (window_is (quiet line) j)

  -- a pattern that would reach past the end of the line is none: a module that has to be dark
  -- is light
  finder_past : (j : ℕ) → j < n → n ≤ j + 6 → has_finder step padded (from j) ≡ is_finder_like (quiet line) j
  finder_past j h past =
      let none : (k : ℕ) → n + 4 ≤ k → get_or (quiet line) k 0 ≡ 0 = λ k l. get_or_past (quiet line) k 0 (omega (arith, l, long)) in
      elim (cases_lt (j + 2) n) [
        | inl near ↦ no_last step padded (from j) (module_here j 10 (j + 10) (omega (arith, near)) refl ∙ none (j + 10) (omega (arith, past)))
        | inr far ↦ no_third step padded (from j) (module_here j 6 (j + 6) (omega (arith, h)) refl ∙ none (j + 6) (omega (arith, far)))
      ]
      ∙ sym (no_pattern (quiet line) j (none (j + 4 + 6) (omega (arith, past))))

  finder_here : (j : ℕ) → j < n → has_finder step padded (from j) ≡ is_finder_like (quiet line) j
  finder_here j h = elim (cases_lt (j + 6) n) [ inl within ↦ finder_within j within | inr past ↦ finder_past j h past ]

  pub line_is : line_penalty line + 2 * count_below (λ j. has_six step twins (at j)) n
      ≡ 3 * count_below (λ j. has_five step twins (at j)) n + 40 * count_below (λ j. has_finder step padded (from j)) n
  line_is =
      let same : (p q : ℕ → Bool) → ((j : ℕ) → j < n → p j ≡ q j) → count_below p n ≡ count_below q (length line) = λ p q e.
      total-cong (λ j. cond (p j) 1 0) (λ j. cond (q j) 1 0) n (λ j h. ap (λ b. cond b 1 0) (e j h)) ∙ ap (count_below q) (sym long) in
      let fives = same (λ j. has_five step twins (at j)) (five_of line) five_here in
      let sixes = same (λ j. has_six step twins (at j)) (six_of line) six_here in
      let finders = same (λ j. has_finder step padded (from j)) (is_finder_like (quiet line)) finder_here in
      omega (arith, runs_are line, fives, sixes, finders)

-- the sum of a table, by rows and by columns
exchanged : (f : ℕ → ℕ → ℕ) (h w : ℕ) → sum_below (λ y. sum_below (f y) w) h ≡ sum_below (λ x. sum_below (λ y. f y x) h) w
exchanged f zero w = sym (total-none (λ x. 0) w (λ k l. refl))
exchanged f (suc h) w = ap (λ t. t + sum_below (f h) w) (exchanged f h w) ∙ sym (total-plus (λ x. sum_below (λ y. f y x) h) (f h) w)

weighed : (f g h k : ℕ → ℕ) (n : ℕ) → ((i : ℕ) → i < n → f i + 2 * g i ≡ 3 * h i + 40 * k i) →
    sum_below f n + 2 * sum_below g n ≡ 3 * sum_below h n + 40 * sum_below k n
weighed f g h k zero e = refl
weighed f g h k (suc n) e = omega (arith, weighed f g h k n (λ i l. e i (omega (arith, l))), e n (omega arith))

-- a count over all places, where none past the rows of the grid counts
module _ (w : ℕ) (p : ℕ → Bool) (beside : (x y : ℕ) → w ≤ x → x < stride w → y < w → p (y * stride w + x) ≡ false) (below : (k : ℕ) →
    w * stride w ≤ k → p k ≡ false) where
  abbrev f : ℕ → ℕ
  f = λ k. cond (p k) 1 0

  in_row_only : (y : ℕ) → y < w → sum_below (λ x. f (y * stride w + x)) (stride w) ≡ count_below (λ x. p (y * stride w + x)) w
  in_row_only y h = grind (arith, total-none, total-add)

  pub over_rows : count_below p (places w) ≡ sum_below (λ y. count_below (λ x. p (y * stride w + x)) w) w
  over_rows =
      let d = places w - w * stride w in
      let all : places w ≡ w * stride w + d = omega arith in
      let none = total-none (λ k. f (w * stride w + k)) d (λ k l. ap (λ b. cond b 1 0) (below (w * stride w + k) (omega arith))) in
      ap (sum_below f) all
      ∙ omega (
        arith,
        total-add f (w * stride w) d,
        none,
        total-mul f w (stride w),
        total-cong (λ y. sum_below (λ x. f (y * stride w + x)) (stride w)) (λ y. count_below (λ x. p (y * stride w + x)) w) w in_row_only,
      )

no_five : (step : ℕ) (twins : List ℕ) (k : ℕ) → get_or twins k 0 ≡ 0 → has_five step twins k ≡ false
no_five step twins k e = grind (arith, nat_tests)

no_six : (step : ℕ) (twins : List ℕ) (k : ℕ) → get_or twins k 0 ≡ 0 → has_six step twins k ≡ false
no_six step twins k e = ap (λ b. b && (cell step twins k 4 == 1)) (no_five step twins k e)

no_finder : (step : ℕ) (cells : List ℕ) (k i : ℕ) → k + 4 * step ≡ i → get_or cells i 0 ≡ 0 → has_finder step cells k ≡ false
no_finder step cells k i e z = grind (arith, nat_tests)

dark_is : (b : ℕ) → b < 2 → (b == 1) ≡ is_dark_byte b
dark_is b h = grind arith

-- four modules have one colour where both pairs along the rows have, and the first of each
four_modules : (a b c d u v x y : ℕ) → a ≡ cond (u == x) 1 0 → b ≡ cond (v == y) 1 0 → c ≡ u → d ≡ v →
    ((a == 1) && (b == 1) && (c == d)) ≡ ((u == x) && ((u == v) && (u == y)))
four_modules a b c d u v x y ea eb ec ed = grind (arith, nat_tests)

module _ (w step columns rows : ℕ) (padded twins : List ℕ) (are : AreTwins w step columns rows padded twins) (c : columns ≤ w) (r : rows ≤ w) where
  no_twin_beside : (x y : ℕ) → w ≤ x → x < stride w → y < w → get_or twins (y * stride w + x) 0 ≡ 0
  no_twin_beside x y h l hy = grind (arith, cases_lt, mul-le-mul_right)

  no_twin_below : (k : ℕ) → w * stride w ≤ k → get_or twins k 0 ≡ 0
  no_twin_below k h = are.below k (omega (arith, h, mul-le-mul_right (stride w) r))

  pub fives_by_rows : count_below (has_five step twins) (places w) ≡ sum_below (λ y. count_below (λ x. has_five step twins (y * stride w + x)) w) w
  fives_by_rows = grind (arith, over_rows, no_five, no_twin_beside, no_twin_below)

  pub sixes_by_rows : count_below (has_six step twins) (places w) ≡ sum_below (λ y. count_below (λ x. has_six step twins (y * stride w + x)) w) w
  sixes_by_rows = grind (arith, over_rows, no_six, no_twin_beside, no_twin_below)

module _ (w : ℕ) (cells padded : List ℕ) (is : IsPadded w cells padded) (square : length cells ≡ w * w) where
  abbrev s : ℕ
  s = stride w

  finders_by_rows : (step : ℕ) (twins : List ℕ) → step ≤ s → count_below (has Finder w step padded twins) (places w)
      ≡ sum_below (λ y. count_below (λ x. has Finder w step padded twins (y * s + x)) w) w
  finders_by_rows step twins h =
      over_rows w (has Finder w step padded twins)
      (λ x y l below hy. no_finder step padded (y * s + x + 4 * (s - step)) ((4 + y) * s + x) (omega (arith, h, add-mul 4 y s)) (is.beside x (4 + y) l below))
      (λ k l. no_finder step padded (k + 4 * (s - step)) (k + 4 * s) (omega (arith, h)) (is.below (k + 4 * s) (omega (arith, l, add-mul 4 w s))))

  pub columns_are : (twins : List ℕ) → AreTwins w s w (w - 1) padded twins →
      sum_below (λ x. line_penalty (column w cells x)) w + 2 * count_below (has_six s twins) (places w)
      ≡ 3 * count_below (has_five s twins) (places w) + 40 * count_below (has Finder w s padded twins) (places w)
  columns_are twins are =
      let count : (ℕ → Bool) → ℕ → ℕ = λ p x. count_below (λ y. p (y * s + x)) w in
      let line : (x : ℕ) → x < w → line_penalty (column w cells x) + 2 * count (has_six s twins) x
      ≡ 3 * count (has_five s twins) x + 40 * count (has Finder w s padded twins) x = λ x h.
      line_is (column w cells x) twins padded w s (λ t. t * s + x) (λ t. t * s + x + 4 * (s - s)) (length-column w cells x)
      (λ j i. omega (arith, add-mul j i s)) (λ j i. omega (arith, add-mul j i s))
      (λ t l. column_twin w cells padded is square twins are x t h)
      (λ t l. let e : t * s + x + 4 * (s - s) ≡ t * s + x = omega arith in ap (λ k. get_or padded k 0) e ∙ in_column w cells padded is square x t h) in
      let turned : (p : ℕ → Bool) → sum_below (λ y. count_below (λ x. p (y * s + x)) w) w ≡ sum_below (count p) w =
      λ p. exchanged (λ y x. cond (p (y * s + x)) 1 0) w w in
      omega (
        arith,
        weighed (λ x. line_penalty (column w cells x)) (count (has_six s twins)) (count (has_five s twins)) (count (has Finder w s padded twins)) w line,
        fives_by_rows w s w (w - 1) padded twins are (omega arith) (omega arith) ∙ turned (has_five s twins),
        sixes_by_rows w s w (w - 1) padded twins are (omega arith) (omega arith) ∙ turned (has_six s twins),
        finders_by_rows s twins (omega arith) ∙ turned (has Finder w s padded twins),
      )

  pub rows_are : (twins : List ℕ) → AreTwins w 1 (w - 1) w padded twins →
      sum_below (λ y. line_penalty (row w cells y)) w + 2 * count_below (has_six 1 twins) (places w)
      ≡ 3 * count_below (has_five 1 twins) (places w) + 40 * count_below (has Finder w 1 padded twins) (places w)
  rows_are twins are =
      let count : (ℕ → Bool) → ℕ → ℕ = λ p y. count_below (λ x. p (y * s + x)) w in
      let line : (y : ℕ) → y < w → line_penalty (row w cells y) + 2 * count (has_six 1 twins) y
      ≡ 3 * count (has_five 1 twins) y + 40 * count (has Finder w 1 padded twins) y = λ y h.
      line_is (row w cells y) twins padded w 1 (λ t. y * s + t) (λ t. y * s + t + 4 * (s - 1)) (length-row w cells y square h)
      (λ j i. omega arith) (λ j i. omega arith)
      (λ t l. row_twin w cells padded is square twins are y t h (omega (arith, l)))
      (λ t l. in_row w cells padded is square y t h l) in
      omega (
        arith,
        weighed (λ y. line_penalty (row w cells y)) (count (has_six 1 twins)) (count (has_five 1 twins)) (count (has Finder w 1 padded twins)) w line,
        fives_by_rows w 1 (w - 1) w padded twins are (omega arith) (omega arith),
        sixes_by_rows w 1 (w - 1) w padded twins are (omega arith) (omega arith),
        finders_by_rows 1 twins (omega arith),
      )

  no_square : (twins : List ℕ) (k i : ℕ) → i ≤ 1 → get_or twins (k + i * s) 0 ≡ 0 → has_square s padded twins k ≡ false
  no_square twins k zero h e = grind (arith, nat_tests)
  no_square twins k (suc zero) h e = grind (arith, nat_tests)
  no_square twins k (suc (suc i)) h e = absurd (omega (arith, h))

  module _ (twins : List ℕ) (are : AreTwins w 1 (w - 1) w padded twins) (wide : 2 ≤ w) where
    square_here : (x y : ℕ) → x + 1 < w → y + 1 < w → has_square s padded twins (y * s + x) ≡ is_byte_square_at (row w cells y) (row w cells (y + 1)) x
    square_here x y hx hy =
        let a = row w cells y in let b = row w cells (y + 1) in
        let this : y < w = omega (arith, hy) in
        let e0 : y * s + x + 0 * s ≡ y * s + x = omega arith in
        let e1 : y * s + x + 1 * s ≡ (y + 1) * s + x = omega (arith, add-mul y 1 s) in
        let e4 : y * s + x + 4 * s ≡ (4 + y) * s + x = omega (arith, add-mul 4 y s) in
        let e5 : y * s + x + (4 + 1) * s ≡ (4 + (y + 1)) * s + x = omega (arith, add-mul 4 (y + 1) s, add-mul y 1 s) in
        let twin_at : (r : ℕ) → r < w → get_or twins (r * s + x) 0 ≡ cond (get_or (row w cells r) x 0 == get_or (row w cells r) (x + 1) 0) 1 0 = λ r h.
        row_twin w cells padded is square twins are r x h (omega (arith, hx))
        ∙ ap (λ b. cond b 1 0) (twin_within (row w cells r) x (omega (arith, hx, length-row w cells r square h))) in
        let module_at : (r : ℕ) → r < w → get_or padded ((4 + r) * s + x) 0 ≡ get_or (row w cells r) x 0 = λ r h.
        is.grid x r (omega (arith, hx)) h ∙ sym (get_or-row w cells r square h x (omega (arith, hx))) in
        four_modules _ _ _ _ _ _ _ _ (ap (λ k. get_or twins k 0) e0 ∙ twin_at y this) (ap (λ k. get_or twins k 0) e1 ∙ twin_at (y + 1) hy)
        (ap (λ k. get_or padded k 0) e4 ∙ module_at y this) (ap (λ k. get_or padded k 0) e5 ∙ module_at (y + 1) hy)

    squares_of_row : (y : ℕ) → y + 1 < w → count_below (λ x. has_square s padded twins (y * s + x)) w
        ≡ count_below (is_byte_square_at (row w cells y) (row w cells (y + 1))) (w - 1)
    squares_of_row y h =
        let a = row w cells y in let b = row w cells (y + 1) in let this : y < w = omega (arith, h) in
        let last : w ≡ suc (w - 1) = omega (arith, wide) in
        let e0 : y * s + (w - 1) + 0 * s ≡ y * s + (w - 1) = omega arith in
        let none : get_or twins (y * s + (w - 1) + 0 * s) 0 ≡ 0 = ap (λ k. get_or twins k 0) e0 ∙ are.beside (w - 1) y (omega arith) (omega arith) this in
        ap (count_below (λ x. has_square s padded twins (y * s + x))) last
        ∙ omega (
          arith,
          ap {B = ℕ} (λ b. cond b 1 0) (no_square twins (y * s + (w - 1)) 0 (omega arith) none),
          total-cong (λ x. cond (has_square s padded twins (y * s + x)) 1 0) (λ x. cond (is_byte_square_at a b x) 1 0) (w - 1)
              (λ x l. ap (λ b. cond b 1 0) (square_here x y (omega (arith, l)) h)),
        )

    pub squares_are : 3 * count_below (has Square w 1 padded twins) (places w)
        ≡ 3 * sum_below (λ y. count_below (is_byte_square_at (row w cells y) (row w cells (y + 1))) (w - 1)) (w - 1)
    squares_are =
        let p = has Square w 1 padded twins in
        let f : ℕ → ℕ = λ y. count_below (λ x. p (y * s + x)) w in
        let at_first : (k : ℕ) → get_or twins k 0 ≡ 0 → p k ≡ false = λ k e. let e0 : k + 0 * s ≡ k = omega arith in
        no_square twins k 0 (omega arith) (ap (λ k. get_or twins k 0) e0 ∙ e) in
        let rows = over_rows w p (λ x y h l hy. at_first (y * s + x) (are.beside x y (omega (arith, h)) l hy)) (λ k h. at_first k (are.below k h)) in
        let last : w ≡ suc (w - 1) = omega (arith, wide) in
        let bottom = total-none (λ x. cond (p ((w - 1) * s + x)) 1 0) w
        (λ x h. ap (λ b. cond b 1 0) (no_square twins ((w - 1) * s + x) 1 (omega arith)
        (are.below ((w - 1) * s + x + 1 * s) (omega (arith, add-mul (w - 1) 1 s, ap (λ n. n * s) last))))) in
        omega (
          arith,
          rows,
          ap (sum_below f) last,
          bottom,
          total-cong f (λ y. count_below (is_byte_square_at (row w cells y) (row w cells (y + 1))) (w - 1)) (w - 1)
              (λ y h. squares_of_row y (omega (arith, h))),
        )

  pub darks_are : (twins : List ℕ) → ((k : ℕ) → get_or cells k 0 < 2) → count_below (has Dark w 1 padded twins) (places w) ≡ count_by is_dark_byte cells
  darks_are twins small =
      let light : (k : ℕ) → get_or padded (k + 4 * s) 0 ≡ 0 → has Dark w 1 padded twins k ≡ false = λ k e. ap (λ n. n == 1) e in
      let at : (x y : ℕ) → y * s + x + 4 * s ≡ (4 + y) * s + x = λ x y. omega (arith, add-mul 4 y s) in
      over_rows w (has Dark w 1 padded twins)
      (λ x y h l hy. light (y * s + x) (ap (λ k. get_or padded k 0) (at x y) ∙ is.beside x (4 + y) h l))
      (λ k h. light k (is.below (k + 4 * s) (omega (arith, h, add-mul 4 w s))))
      ∙ total-cong (λ y. count_below (λ x. has Dark w 1 padded twins (y * s + x)) w)
      (λ y. sum_below (λ x. cond (is_dark_byte (get_or cells (y * w + x) 0)) 1 0) w) w
      (λ y hy. total-cong (λ x. cond (has Dark w 1 padded twins (y * s + x)) 1 0) (λ x. cond (is_dark_byte (get_or cells (y * w + x) 0)) 1 0) w
      (λ x hx. ap (λ n. cond (n == 1) 1 0) (ap (λ k. get_or padded k 0) (at x y) ∙ is.grid x y hx hy)
      ∙ ap (λ b. cond b 1 0) (dark_is (get_or cells (y * w + x) 0) (small (y * w + x)))))
      ∙ sym (total-mul (λ k. cond (is_dark_byte (get_or cells k 0)) 1 0) w w)
      ∙ sym (count_as_sum is_dark_byte cells (w * w) square)
