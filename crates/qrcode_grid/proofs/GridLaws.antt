-- The laws of the regions, the alignment patterns, the walk, and the code words of both generators.
use Rattle.qrcode_grid.proofs.Prelude.{◌≡◌, ℕ, zero, suc, ◌<◌, ◌≤◌, ◌+◌, ◌*◌, ◌/◌, refl, arith, Bool, not, map, filter, range_with_len, Version, IsVersion}
use Rattle.qrcode_grid.proofs.Prelude.{width_of, timing_column, walk, data_cells, is_functional_cell, common_steps, ◌≢◌, ◌-◌, ◌%◌, ◌==◌, ◌&&◌, ◌||◌, nat_le}
use Rattle.qrcode_grid.proofs.Prelude.{nat_lt, true, false, Option, Some, unwrap_or, subst, ◌^◌, List, abs_diff, eqb-true, leb-true, ltb-true, near, alignments}
use Rattle.qrcode_grid.proofs.Prelude.{alignment_count, alignment_coordinate, alignment_coordinates, ring, position_or_len, cond, nat_tests}
use Rattle.qrcode_grid.proofs.Totals.{numbered_cell_inside, cell_number-numbered_cell, numbered_cell-cell_number, cell_number_below}
use Rattle.qrcode_grid.specs.Regions.{alignment, polynomial_product, code_word, HasOneMultiple, HasOneFormatWord, HasOneVersionWord}
use Rattle.qrcode_grid.specs.Laws.{AreConsistentRegions, HasEveryAlignment, HasItsAlignments, IsWalkOf}
use Rattle.qrcode_grid.proofs.{Areas.is_some-functional_color, Tests.all_pass, Tests.passes, Tests.both, RegionsAgree.regions_say}

pub odd_width : (version : Version) → IsVersion version → width_of version ≡ 2 * (width_of version / 2) + 1
odd_width version h = grind (arith)

pub timing_inside : (version : Version) → IsVersion version → timing_column version < width_of version
timing_inside version h = grind (arith)

-- two tests that agree filter alike
filter-alike : {X : Type 0} (p q : X → Bool) (at : ℕ → X) (a n : ℕ) → ((k : ℕ) → a ≤ k → k < a + n → p (at k) ≡ q (at k)) →
    filter p (map at (range_with_len a n)) ≡ filter q (map at (range_with_len a n))
filter-alike p q at a zero same = refl
filter-alike p q at a (suc n) same = grind (arith, common_steps, filter-alike p q at (a + 1) n)

pub data_cells-by_areas : (version : Version) → IsVersion version →
    data_cells version ≡ filter (λ c. not (is_functional_cell version c.0 c.1)) (walk version)
data_cells-by_areas version h = grind (arith, filter-alike, numbered_cell_inside, odd_width, timing_inside, is_some-functional_color)

-- ---- Alignment patterns

-- each centre coordinate is the one near the five coordinates around it, computed
abbrev is_near_its_own : ℕ → ℕ → ℕ → Bool
is_near_its_own n i u =
    nat_le 6 (alignment_coordinate n i) && unwrap_or (near (alignment_coordinates n) (alignment_coordinate n i + u - 2)) 0 == alignment_coordinate n i

abbrev are_near_their_own : ℕ → Bool
are_near_their_own n = all_pass (λ i. all_pass (is_near_its_own n i) 0 5) 0 (alignment_count n)

some_of : (o : Option ℕ) (c : ℕ) → unwrap_or o 0 ≡ c → 6 ≤ c → o ≡ Some c
some_of o c h l = grind (arith)

pub near_center : (n i x : ℕ) → n ≤ 40 → i < alignment_count n → abs_diff (alignment_coordinate n i) x ≤ 2 →
    near (alignment_coordinates n) x ≡ Some (alignment_coordinate n i)
near_center n i x high within close =
    let c = alignment_coordinate n i in
    let row = passes are_near_their_own 0 41 n refl (omega arith) (omega arith) in
    let at = passes (λ j. all_pass (is_near_its_own n j) 0 5) 0 (alignment_count n) i row (omega arith) (omega arith) in
    let u = x + 2 - c in
    let here = both _ _ (passes (is_near_its_own n i) 0 5 u at (omega arith) (omega (arith, close))) in
    let six : 6 ≤ c = leb-true 6 c here.0 in
    let same : c + u - 2 ≡ x = omega (arith, six, close) in
    subst (λ (y : ℕ). near (alignment_coordinates n) y ≡ Some c) same (some_of _ c (eqb-true _ _ here.1) six)

-- whether a pair of coordinates lies at one of the three finder patterns, by the coordinates and by
-- their places
abbrev is_at_finder : ℕ → ℕ → ℕ → ℕ → Bool
is_at_finder first last a b = (a == first && b == first) || (a == first && b == last) || (a == last && b == first)

-- the first coordinate alone is 6 and the last alone the width less 7, computed
abbrev is_end : ℕ → ℕ → Bool
is_end n i =
    (not (alignment_coordinate n i == 6) || i == 0) && (not (alignment_coordinate n i == 4 * n + 17 - 7) || i == alignment_count n - 1)

end_of : (c i far last : ℕ) → ((not (c == 6) || i == 0) && (not (c == far) || i == last)) ≡ true → (c ≡ 6 → i ≡ 0) × (c ≡ far → i ≡ last)
end_of c i far last h = grind (arith, nat_tests)

ends_are : (n i : ℕ) → n ≤ 40 → i < alignment_count n →
    (alignment_coordinate n i ≡ 6 → i ≡ 0) × (alignment_coordinate n i ≡ 4 * n + 17 - 7 → i ≡ alignment_count n - 1)
ends_are n i high within =
    end_of (alignment_coordinate n i) i (4 * n + 17 - 7) (alignment_count n - 1) (passes (is_end n) 0 (alignment_count n) i
    (passes (λ m. all_pass (is_end m) 0 (alignment_count m)) 0 41 n refl (omega arith) (omega arith)) (omega arith) (omega arith))

apart_by_places : (a b i j far last : ℕ) → (a ≡ 6 → i ≡ 0) × (a ≡ far → i ≡ last) → (b ≡ 6 → j ≡ 0) × (b ≡ far → j ≡ last) →
    is_at_finder 0 last i j ≡ false → is_at_finder 6 far a b ≡ false
apart_by_places a b i j far last h k apart = grind (arith, nat_tests)

every_drawn : (n i j x y : ℕ) → n ≤ 40 → i < alignment_count n → j < alignment_count n →
    is_at_finder 6 (4 * n + 17 - 7) (alignment_coordinate n i) (alignment_coordinate n j) ≡ false →
    ring (alignment_coordinate n i) (alignment_coordinate n j) x y ≤ 2 →
    alignments (4 * n + 17) (alignment_coordinates n) x y ≡ alignment (alignment_coordinate n i) (alignment_coordinate n j) x y
every_drawn n i j x y high hi hj apart close = grind (arith, common_steps, near_center)

-- the step of the alignment patterns is the least even one that reaches, but at 32: computed
abbrev alignment_step : ℕ → ℕ
alignment_step n = cond (n == 32) 26 ((4 * n + 2 * alignment_count n + 1) / (2 * alignment_count n - 2) * 2)

spaced_by_step : (n k : ℕ) → 1 ≤ k → alignment_coordinate n k ≡ 4 * n + 10 - (alignment_count n - 1 - k) * alignment_step n
spaced_by_step n k h = grind arith

abbrev is_least_step : ℕ → Bool
is_least_step n =
    alignment_step n % 2 == 0 &&
    (nat_le n 1 || n == 32 ||
    (nat_le (4 * n + 4) ((alignment_count n - 1) * alignment_step n) && nat_lt ((alignment_count n - 1) * (alignment_step n - 2)) (4 * n + 4)))

abbrev step_reaches : ℕ → ℕ → ℕ → Bool
step_reaches n c s = nat_le (4 * n + 4) ((c - 1) * s) && nat_lt ((c - 1) * (s - 2)) (4 * n + 4)

step_of_test : (n c s : ℕ) → (s % 2 == 0 && (nat_le n 1 || n == 32 || step_reaches n c s)) ≡ true →
    (s % 2 ≡ 0) × ((2 ≤ n → n ≢ 32 → 4 * n + 4 ≤ (c - 1) * s) × (2 ≤ n → n ≢ 32 → (c - 1) * (s - 2) < 4 * n + 4))
step_of_test n c s h = grind (arith, common_steps, both, eqb-true, leb-true, ltb-true)

has_every_alignment : (n : ℕ) → 1 ≤ n → n ≤ 40 → HasEveryAlignment n
has_every_alignment n low high =
    let least_step = step_of_test n (alignment_count n) (alignment_step n) (passes is_least_step 1 40 n refl low (omega arith)) in
    record {
      drawn =
          λ i j x y hi hj apart close. every_drawn n i j x y high hi hj
          (apart_by_places (alignment_coordinate n i) (alignment_coordinate n j) i j (4 * n + 17 - 7) (alignment_count n - 1)
          (ends_are n i high hi) (ends_are n j high hj) apart) close;
      step = alignment_step n;
      spaced = λ k h l. spaced_by_step n k h;
      even = least_step.0;
      reaches = least_step.1.0;
      least = least_step.1.1;
    }

pub has_its_alignments : (version : Version) → IsVersion version → HasItsAlignments version
unfolding HasItsAlignments
has_its_alignments version h = grind (arith, has_every_alignment)

pub consistent_regions : (version : Version) → IsVersion version → AreConsistentRegions version
consistent_regions version h = grind (arith, is_some-functional_color, regions_say)

pub walk_of : (version : Version) → IsVersion version → IsWalkOf (width_of version) (timing_column version)
walk_of version h =
    let w = width_of version in
    let t = timing_column version in
    let odd : w ≡ 2 * (w / 2) + 1 = odd_width version h in
    let low : t < w = timing_inside version h in
    record {
      inside = λ k l. numbered_cell_inside w (w / 2) t k odd low l;
      every = λ x y l m ne. (cell_number_below w (w / 2) t x y odd l m ne low, numbered_cell-cell_number w t x y l m ne low);
      once = λ k l. cell_number-numbered_cell w (w / 2) t k odd l;
    }

-- The code words of the two generators, computed.

-- all multiples of a generator by polynomials of n digits
abbrev multiples : ℕ → ℕ → List ℕ
multiples generator n = map (λ a. polynomial_product n a generator) (range_with_len 0 (2 ^ n))

-- the number of the multiple that begins with the data
abbrev factor : ℕ → ℕ → ℕ → ℕ → ℕ
factor generator n degree data_bits = position_or_len (λ word. word / 2 ^ degree == data_bits) (multiples generator n)

abbrev is_made : ℕ → ℕ → ℕ → ℕ → Bool
is_made generator n degree data_bits =
    nat_lt (factor generator n degree data_bits) (2 ^ n) &&
    ((polynomial_product n (factor generator n degree data_bits) generator == code_word generator n degree data_bits) &&
    (code_word generator n degree data_bits / 2 ^ degree == data_bits))

abbrev is_only : ℕ → ℕ → ℕ → ℕ → Bool
is_only generator n degree a =
    polynomial_product n a generator == code_word generator n degree (polynomial_product n a generator / 2 ^ degree)

one_multiple : (generator n degree data_bits : ℕ) → is_made generator n degree data_bits ≡ true →
    ((a : ℕ) → a < 2 ^ n → is_only generator n degree a ≡ true) → HasOneMultiple generator n degree data_bits
one_multiple generator n degree data_bits made only = grind (arith, common_steps, both, ltb-true, eqb-true)

pub one_format_word : (data_bits : ℕ) → data_bits < 32 → HasOneFormatWord data_bits
one_format_word data_bits h =
    one_multiple 0x537 5 10 data_bits (passes (is_made 0x537 5 10) 0 32 data_bits (refl) (omega arith) (omega arith))
    (λ a l. passes (is_only 0x537 5 10) 0 32 a (refl) (omega arith) l)

pub one_version_word : (number : ℕ) → number < 64 → HasOneVersionWord number
one_version_word number h =
    one_multiple 0x1F25 6 12 number (passes (is_made 0x1F25 6 12) 0 64 number (refl) (omega arith) (omega arith))
    (λ a l. passes (is_only 0x1F25 6 12) 0 64 a (refl) (omega arith) l)
