-- Lanes that mark bytes, and the places of a list counted in rows of them.
use Rattle.qrcode_grid.proofs.Prelude.{◌≡◌, ℕ, zero, suc, ◌+◌, ◌-◌, ◌*◌, ◌<◌, ◌≤◌, ◌==◌, Bool, true, false, not, cond, List, [], map, take, drop, length}
use Rattle.qrcode_grid.proofs.Prelude.{get_or, replicate, refl, ap, ◌∙◌, arith, w8, eqb, eqb-true, bit_at, bit_at-zero, bit_and, bit_count, Marks, count_by}
use Rattle.qrcode_grid.proofs.Prelude.{sum_below, count_below, range_with_len, is_byte_square_at, is_dark_byte, get_or-replicate, get_or-zip2}
use Rattle.qrcode_grid.proofs.Prelude.{length-zip2, length-chunk, get_or-chunk, get_or-map-range_with_len}
use Rattle.qrcode_grid.proofs.Prelude.{length-map-range_with_len, min, nat_tests, ◌/◌}
use Rattle.qrcode_grid.proofs.MarkedLanes.{hit, block_at, next_places, joined, map_same, no_bit, next_rows, count_one_more}
use Rattle.qrcode_grid.proofs.FieldLaws.{passes_below-at}
use Rattle.qrcode_grid.proofs.Totals.{total-add, total-cong}
use Rattle.std.proofs.lemmas.Simd.{get_or-sel_l, length-sel_l, tops_compared, zip2_of_maps, map-map}
use Rattle.std.proofs.{Common.add-zero}
use lib.Lanes.{zip2, chunk, sel_l, top}

bit_of_mark : (t : Bool) (m : ℕ) → m < 8 → bit_at (cond t 255 0) m ≡ cond t 1 0
bit_of_mark true m h = eqb-true _ _ (passes_below-at (λ m. eqb (bit_at 255 m) 1) 8 m refl h)
bit_of_mark false m h = bit_at-zero m

-- what is selected by tests marks the places that pass
select_marks : (ts : List Bool) (test : ℕ → Bool) → length ts ≡ 16 → ((j : ℕ) → j < 16 → get_or ts j false ≡ test j) →
    Marks (sel_l ts (replicate 16 255) (replicate 16 0)) (λ m j. test j)
select_marks ts test l e = grind (arith, length-sel_l, get_or-sel_l, get_or-replicate, bit_of_mark)

pub dark_marked : (bytes : List ℕ) (at : ℕ) → at + 16 ≤ length bytes →
    Marks (sel_l (map (top 7) (zip2 (λ a b. cond (not (a == b)) 255 0) (chunk at 16 bytes) (replicate 16 0))) (replicate 16 255) (replicate 16 0))
    (λ m j. is_dark_byte (get_or bytes (at + j) 0))
dark_marked bytes at inside =
    let xs = chunk at 16 bytes in
    let t : ℕ → ℕ → Bool = λ a b. not (a == b) in
    let long : length xs ≡ 16 = length-chunk at 16 bytes inside in
    let tops : map (top 7) (zip2 (λ a b. cond (t a b) 255 0) xs (replicate 16 0)) ≡ zip2 t xs (replicate 16 0) = tops_compared w8 t xs (replicate 16 0) in
    select_marks _ (λ j. is_dark_byte (get_or bytes (at + j) 0))
    (ap length tops ∙ length-zip2 t xs (replicate 16 0) long ∙ long)
    (λ j h. ap (λ (ts : List Bool). get_or ts j false) tops
    ∙ get_or-zip2 t xs (replicate 16 0) j 0 0 false (omega (arith, long, h)) h
    ∙ ap (λ a. t a (get_or (replicate 16 0) j 0)) (get_or-chunk at 16 bytes j 0 h)
    ∙ ap (λ b. t (get_or bytes (at + j) 0) b) (get_or-replicate 16 j 0 0 h))

pub squares_marked : (u l : List ℕ) (at : ℕ) → at + 17 ≤ length u → length l ≡ length u →
    Marks (sel_l (map (top 7) (zip2 bit_and (zip2 hit (take 16 (drop at u)) (take 16 (drop (at + 1) u)))
    (zip2 bit_and (zip2 hit (take 16 (drop at u)) (take 16 (drop at l))) (zip2 hit (take 16 (drop at u)) (take 16 (drop (at + 1) l))))))
    (replicate 16 255) (replicate 16 0)) (λ m j. is_byte_square_at u l (at + j))
squares_marked u l at inside same =
    let ks : List ℕ = range_with_len at 16 in
    let a : take 16 (drop at u) ≡ map (λ k. get_or u k 0) ks = block_at u at 16 (omega arith) in
    let b : take 16 (drop (at + 1) u) ≡ map (λ k. get_or u (k + 1) 0) ks = (block_at u (at + 1) 16 (omega arith) ∙ next_places u at 16) in
    let c : take 16 (drop at l) ≡ map (λ k. get_or l k 0) ks = block_at l at 16 (omega arith) in
    let d : take 16 (drop (at + 1) l) ≡ map (λ k. get_or l (k + 1) 0) ks = (block_at l (at + 1) 16 (omega arith) ∙ next_places l at 16) in
    let ab = zip2_of_maps hit (λ k. get_or u k 0) (λ k. get_or u (k + 1) 0) ks a b in
    let ac = zip2_of_maps hit (λ k. get_or u k 0) (λ k. get_or l k 0) ks a c in
    let ad = zip2_of_maps hit (λ k. get_or u k 0) (λ k. get_or l (k + 1) 0) ks a d in
    let acd = zip2_of_maps bit_and (λ k. hit (get_or u k 0) (get_or l k 0)) (λ k. hit (get_or u k 0) (get_or l (k + 1) 0)) ks ac ad in
    let all = zip2_of_maps bit_and (λ k. hit (get_or u k 0) (get_or u (k + 1) 0))
    (λ k. bit_and (hit (get_or u k 0) (get_or l k 0)) (hit (get_or u k 0) (get_or l (k + 1) 0))) ks ab acd in
    let tests : map (top 7) (zip2 bit_and (zip2 hit (take 16 (drop at u)) (take 16 (drop (at + 1) u)))
    (zip2 bit_and (zip2 hit (take 16 (drop at u)) (take 16 (drop at l))) (zip2 hit (take 16 (drop at u)) (take 16 (drop (at + 1) l)))))
    ≡ map (is_byte_square_at u l) ks
    = ap (map (top 7)) all ∙ map-map (top 7) (λ k. bit_and (hit (get_or u k 0) (get_or u (k + 1) 0))
    (bit_and (hit (get_or u k 0) (get_or l k 0)) (hit (get_or u k 0) (get_or l (k + 1) 0)))) ks
    ∙ map_same _ (is_byte_square_at u l) (λ k. joined (get_or u k 0 == get_or u (k + 1) 0) (get_or u k 0 ==
    get_or l k 0) (get_or u k 0 == get_or l (k + 1) 0)) ks in
    select_marks _ (λ j. is_byte_square_at u l (at + j))
    (ap length tests ∙ length-map-range_with_len (is_byte_square_at u l) at 16)
    (λ j h. ap (λ (ts : List Bool). get_or ts j false) tests
    ∙ get_or-map-range_with_len (is_byte_square_at u l) at 16 j (at + j) false h refl)

-- rows of lanes after the marked ones have no bit
nothing : (n : ℕ) → sum_below (λ i. 0) n ≡ 0
nothing zero = refl
nothing (suc n) = omega (arith, nothing n)

pub rows_left : (f : ℕ → ℕ) (s d : ℕ) → ((i : ℕ) → s ≤ i → i < s + d → f i ≡ 0) → sum_below f (s + d) ≡ sum_below f s
rows_left f s d h =
    total-add f s d
    ∙ ap (λ t. sum_below f s + t) (total-cong (λ k. f (s + k)) (λ k. 0) d (λ k l. h (s + k) (omega arith) (omega arith)) ∙ nothing d)
    ∙ add-zero (sum_below f s)

-- the places of a block, of which some rows are marked and the others have no bit
pub block_counted : (rows : List (List ℕ)) (test : ℕ → Bool) (at s : ℕ) → s ≤ 16 →
    ((i : ℕ) → i < s → Marks (get_or rows i []) (λ m j. test (at + 16 * i + j))) →
    ((i : ℕ) → s ≤ i → i < 16 → get_or rows i [] ≡ replicate 16 0) →
    count_below test at + sum_below (λ i. bit_count 0 (get_or rows i [])) 16 ≡ count_below test (at + s * 16)
block_counted rows test at s few marks left =
    let whole : 16 ≡ s + (16 - s) = omega (arith, few) in
    let none : (i : ℕ) → s ≤ i → i < s + (16 - s) → bit_count 0 (get_or rows i []) ≡ 0 =
    λ i h l. ap (bit_count 0) (left i h (omega (arith, l, few))) ∙ no_bit 0 in
    ap (λ t. count_below test at + t)
    (ap (sum_below (λ i. bit_count 0 (get_or rows i []))) whole ∙ rows_left (λ i. bit_count 0 (get_or rows i [])) s (16 - s) none)
    ∙ next_rows rows (λ m. test) at s marks 0 (omega arith)

-- where a block begins, and where its last row ends
pub block_begins : (places b : ℕ) → b < (places + 255) / 256 → min (256 * b) (places / 16 * 16) ≡ 256 * b
block_begins places b h = grind (arith, nat_tests)

pub block_ends : (places b s : ℕ) → b < (places + 255) / 256 → s ≡ min ((places - 256 * b) / 16) 16 →
    256 * b + s * 16 ≡ min (256 * (b + 1)) (places / 16 * 16)
block_ends places b s h e = grind (arith, nat_tests)

pub blocks_within : (places b : ℕ) → min (256 * b) (places / 16 * 16) ≤ places
blocks_within places b = grind (arith, nat_tests)

pub counted_places : (p : ℕ → Bool) (n : ℕ) → count_below p n ≡ count_by p (range_with_len 0 n)
counted_places p zero = refl
counted_places p (suc n) =
    let e : n + 1 ≡ suc n = omega arith in
    omega (arith, counted_places p n, count_one_more p n (p n) refl, ap (λ k. count_by p (range_with_len 0 k)) e)
