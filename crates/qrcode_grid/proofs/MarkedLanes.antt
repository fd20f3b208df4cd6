-- Lanes that mark where candidates have something, and what is counted in rows of lanes.
use Rattle.qrcode_grid.proofs.Prelude.{◌≡◌, ℕ, zero, suc, ◌+◌, ◌-◌, ◌%◌, ◌<◌, ◌≤◌, ◌==◌, ◌&&◌, ◌||◌, ◌++◌, Bool, cond, List, map, take, drop, length, get_or}
use Rattle.qrcode_grid.proofs.Prelude.{refl, ap, ◌∙◌, sym, arith, Fits, w8, ◌*◌, ◌^◌, min, count_by, ◌/◌, eqb, true, false, [], ◌∷◌, zero-add, bit_at, bit_not}
use Rattle.qrcode_grid.proofs.Prelude.{bit_and, bit_or, bit_xor, get_or-map, length-map, get_or_past, get_or-append-add, get_or_append_left, length-take-le}
use Rattle.qrcode_grid.proofs.Prelude.{length-drop, bit_at-lt, bit_at-zero, bit_at_or, bit_at_not, bit_at_and, bit_at_xor, and_pow, length-chunk, get_or-chunk}
use Rattle.qrcode_grid.proofs.Prelude.{get_or-zip2, length-zip2, bitmask_splat, ones-mask_l, get_or-replicate, nat_tests, Marks, plane, bit_count, common_steps}
use Rattle.qrcode_grid.proofs.Prelude.{count_ones, slice_range, mod-eq_of_lt, mul-le-mul_right, pow_pos, sum_below, count_below, range_with_len, sum_by-append}
use Rattle.qrcode_grid.proofs.Prelude.{count_by-le-length, length-range_with_len, is_byte_square_at, take-add, inl, inr, cases_eq, subst, set, get_or-set_same}
use Rattle.qrcode_grid.proofs.Prelude.{get_or-set_other}
use Rattle.qrcode_grid.proofs.Totals.{count_by-total, total-cong, total-add, total-mul}
use Rattle.std.proofs.lemmas.Simd.{get_or-put_chunk_at, length-put_chunk, pick_l_whole, pick_l-range_with_len, zip2_of_maps, map-map, mask_l-mod}
use Rattle.std.proofs.{Common.add-zero, Common.suc-add, Math.Pow.pow-lt}
use borrow.Rule.Slice.PartMut.{put_mid}
use lib.Lanes.{zip2, chunk, put_chunk, mask_l, top}
use lib.ListN.{replicate}
use lib.Bits.{bit_and}

-- Bits of sixteen lanes, counted by their place.

sum_three : (f g p q r : ℕ → ℕ) (n : ℕ) → ((j : ℕ) → j < n → f j + 2 * g j ≡ p j + q j + r j)
    → sum_below f n + 2 * sum_below g n ≡ sum_below p n + sum_below q n + sum_below r n
sum_three f g p q r zero h = refl
sum_three f g p q r (suc n) h = omega (arith, sum_three f g p q r n (λ j l. h j (omega arith)), h n (omega arith))

pub length_of : (f : ℕ → ℕ → ℕ) (a b : List ℕ) → length a ≡ 16 → length b ≡ 16 → length (zip2 f a b) ≡ 16
length_of f a b la lb = length-zip2 f a b (la ∙ sym lb) ∙ la

pub lane_of : (f : ℕ → ℕ → ℕ) (a b : List ℕ) → length a ≡ 16 → length b ≡ 16 → (j : ℕ) → j < 16 → get_or (zip2 f a b) j 0 ≡ f (get_or a j 0) (get_or b j 0)
lane_of f a b la lb j h = get_or-zip2 f a b j 0 0 0 (omega (arith, la)) (omega (arith, lb))

pub xor_at : (a b : List ℕ) → length a ≡ 16 → length b ≡ 16 → (m j : ℕ) → j < 16 →
    bit_at (get_or (zip2 bit_xor a b) j 0) m ≡ (bit_at (get_or a j 0) m + bit_at (get_or b j 0) m) % 2
xor_at a b la lb m j h = ap (λ n. bit_at n m) (lane_of bit_xor a b la lb j h) ∙ bit_at_xor (get_or a j 0) (get_or b j 0) m

pub and_at : (a b : List ℕ) → length a ≡ 16 → length b ≡ 16 → (m j : ℕ) → j < 16 →
    bit_at (get_or (zip2 bit_and a b) j 0) m ≡ min (bit_at (get_or a j 0) m) (bit_at (get_or b j 0) m)
and_at a b la lb m j h = ap (λ n. bit_at n m) (lane_of bit_and a b la lb j h) ∙ bit_at_and (get_or a j 0) (get_or b j 0) m

-- the sum and the carry of three rows of lanes
abbrev pub sum_of : List ℕ → List ℕ → List ℕ → List ℕ
sum_of a b c = zip2 bit_xor (zip2 bit_xor a b) c

abbrev pub carry_of : List ℕ → List ℕ → List ℕ → List ℕ
carry_of a b c = zip2 bit_xor a (zip2 bit_and (zip2 bit_xor a b) (zip2 bit_xor a c))

pub length-sum : (a b c : List ℕ) → length a ≡ 16 → length b ≡ 16 → length c ≡ 16 → length (sum_of a b c) ≡ 16
length-sum a b c la lb lc = length_of bit_xor (zip2 bit_xor a b) c (length_of bit_xor a b la lb) lc

pub length-carry : (a b c : List ℕ) → length a ≡ 16 → length b ≡ 16 → length c ≡ 16 → length (carry_of a b c) ≡ 16
length-carry a b c la lb lc = grind (arith, common_steps, length_of)

sum_at : (a b c : List ℕ) → length a ≡ 16 → length b ≡ 16 → length c ≡ 16 → (m j : ℕ) → j < 16
    → bit_at (get_or (sum_of a b c) j 0) m + 2 * bit_at (get_or (carry_of a b c) j 0) m
    ≡ bit_at (get_or a j 0) m + bit_at (get_or b j 0) m + bit_at (get_or c j 0) m
sum_at a b c la lb lc m j h = grind (arith, common_steps, length_of, xor_at, and_at, bit_at-lt)

pub three_rows : (a b c : List ℕ) → length a ≡ 16 → length b ≡ 16 → length c ≡ 16 → (m : ℕ)
    → bit_count m (sum_of a b c) + 2 * bit_count m (carry_of a b c) ≡ bit_count m a + bit_count m b + bit_count m c
unfolding bit_count
three_rows a b c la lb lc m = grind (arith, nat_tests, sum_three, sum_at)

-- a count of a list is a sum over its places
pub count_as_sum : (p : ℕ → Bool) (xs : List ℕ) (n : ℕ) → length xs ≡ n → count_by p xs ≡ sum_below (λ j. cond (p (get_or xs j 0)) 1 0) n
count_as_sum p xs n l = ap (count_by p) (sym (pick_l_whole 0 xs n l)) ∙ count_by-total p (λ k. get_or xs k 0) n

tested : (m b : ℕ) → cond (bit_and b (2 ^ m) == 2 ^ m) 1 0 ≡ bit_at b m
tested m b = grind (arith, nat_tests, and_pow, bit_at-lt, pow_pos)

-- the bit that a shift gives
pub shifted_one : (m : ℕ) → m < 8 → 1 * 2 ^ m % 256 ≡ 2 ^ m
shifted_one m h = grind (arith, common_steps, pow-lt, mod-eq_of_lt)

pub bits_in_mask : (m : ℕ) (lanes : List ℕ) → length lanes ≡ 16 → (t : ℕ) → t ≡ 2 ^ m
    → count_ones (mask_l (map (top 7) (zip2 (λ a b. cond (a == b) 255 0) (zip2 bit_and lanes (replicate 16 t)) (replicate 16 t))) % 2 ^ 64) ≡ bit_count m lanes
unfolding bit_count
bits_in_mask m lanes l t e =
    let n = 2 ^ m in
    let long = length_of bit_and lanes (replicate 16 n) l refl in
    ap (λ y. count_ones (mask_l (map (top 7) (zip2 (λ a b. cond (a == b) 255 0) (zip2 bit_and lanes (replicate 16 y)) (replicate 16 y))) % 2 ^ 64)) e
    ∙ ap count_ones (bitmask_splat w8 (λ a b. a == b) (zip2 bit_and lanes (replicate 16 n)) 16 n long (omega arith))
    ∙ ones-mask_l (λ x. x == n) (zip2 bit_and lanes (replicate 16 n))
    ∙ count_as_sum (λ x. x == n) (zip2 bit_and lanes (replicate 16 n)) 16 long
    ∙ total-cong (λ j. cond (get_or (zip2 bit_and lanes (replicate 16 n)) j 0 == n) 1 0) (λ j. bit_at (get_or lanes j 0) m) 16
    (λ j h. ap (λ x. cond (x == n) 1 0) (lane_of bit_and lanes (replicate 16 n) l refl j h ∙ ap (bit_and (get_or lanes j 0)) (get_or-replicate 16 j n 0 h))
    ∙ tested m (get_or lanes j 0))

sum_le : (f : ℕ → ℕ) (n : ℕ) → ((j : ℕ) → f j < 2) → sum_below f n ≤ n
sum_le f zero h = omega arith
sum_le f (suc n) h = omega (arith, sum_le f n h, h n)

pub bit_count_le : (m : ℕ) (lanes : List ℕ) → bit_count m lanes ≤ 16
unfolding bit_count
bit_count_le m lanes = sum_le (λ j. bit_at (get_or lanes j 0) m) 16 (λ j. bit_at-lt (get_or lanes j 0) m)

pub no_bit : (m : ℕ) → bit_count m (replicate 16 0) ≡ 0
unfolding bit_count
no_bit m = cc (bit_at-zero m)

-- Places counted in rows of sixteen lanes.

pub eqb_true : (a b : ℕ) → eqb a b ≡ true → a ≡ b
eqb_true a b h = grind arith

-- marks are counted
count_marks : (lanes : List ℕ) (test : ℕ → ℕ → Bool) → Marks lanes test → (m : ℕ) → m < 8 → bit_count m lanes ≡ sum_below (λ j. cond (test m j) 1 0) 16
unfolding bit_count
count_marks lanes test marks m h = total-cong (λ j. bit_at (get_or lanes j 0) m) (λ j. cond (test m j) 1 0) 16 (λ j l. marks.bits m j h l)

-- the next s rows of lanes count the next 16 * s places
pub next_rows : (rows : List (List ℕ)) (test : ℕ → ℕ → Bool) (at s : ℕ) →
    ((i : ℕ) → i < s → Marks (get_or rows i []) (λ m j. test m (at + 16 * i + j))) → (m : ℕ) → m < 8
    → count_below (test m) at + sum_below (λ i. bit_count m (get_or rows i [])) s ≡ count_below (test m) (at + s * 16)
next_rows rows test at s marks m h =
    let f : ℕ → ℕ = λ k. cond (test m k) 1 0 in
    let row : (i : ℕ) → i < s → bit_count m (get_or rows i []) ≡ sum_below (λ j. f (at + (i * 16 + j))) 16 = λ i l.
    count_marks (get_or rows i []) (λ m j. test m (at + 16 * i + j)) (marks i l) m h
    ∙ total-cong (λ j. f (at + 16 * i + j)) (λ j. f (at + (i * 16 + j))) 16 (λ j k. let e : at + 16 * i + j ≡ at + (i * 16 + j) = omega arith in ap f e) in
    ap (λ t. sum_below f at + t) (total-cong (λ i. bit_count m (get_or rows i [])) (λ i. sum_below (λ j. f (at + (i * 16 + j))) 16) s row)
    ∙ ap (λ t. sum_below f at + t) (sym (total-mul (λ k. f (at + k)) s 16))
    ∙ sym (total-add f at (s * 16))

one : (b : Bool) → cond b 1 0 ≤ 1
one b = grind arith

-- a count is at most the number of places
pub count_below_le : (p : ℕ → Bool) (n : ℕ) → count_below p n ≤ n
count_below_le p zero = omega arith
count_below_le p (suc n) = omega (arith, count_below_le p n, one (p n))

-- the places of a symbol's chunks are few
pub count_few : (p : ℕ → Bool) (w chunk : ℕ) → w ≤ 177 → chunk ≤ (w * (w + 4) + 255) / 256 → count_below p (256 * chunk) ≤ 40000
count_few p w chunk wide h = grind (arith, mul-le-mul_right, count_below_le)

fewer : (a b : Bool) → cond (a && b) 1 0 ≤ cond a 1 0
fewer a b = grind (arith, common_steps)

-- places that pass two tests are no more than those that pass the first
pub count_both_le : (p q : ℕ → Bool) (n : ℕ) → count_below (λ k. p k && q k) n ≤ count_below p n
count_both_le p q zero = omega arith
count_both_le p q (suc n) = omega (arith, count_both_le p q n, fewer (p n) (q n))

pub plane_at : (m : ℕ) (bytes : List ℕ) (k : ℕ) → get_or (plane m bytes) k 0 ≡ bit_at (get_or bytes k 0) m
plane_at m bytes k = grind (arith, common_steps, get_or-map, get_or_past, length-map, bit_at-zero)

pub length-plane : (m : ℕ) (bytes : List ℕ) → length (plane m bytes) ≡ length bytes
length-plane m bytes = length-map bytes (λ b. bit_at b m)

pub plane_small : (m : ℕ) (bytes : List ℕ) (k : ℕ) → get_or (plane m bytes) k 0 < 2
plane_small m bytes k = omega (arith, plane_at m bytes k, bit_at-lt (get_or bytes k 0) m)

pub marks_and : (a b : List ℕ) (p q : ℕ → ℕ → Bool) → Marks a p → Marks b q → Marks (zip2 bit_and a b) (λ m j. p m j && q m j)
marks_and a b p q ma mb = grind (arith, common_steps, length_of, and_at)

pub marks_or : (a b : List ℕ) (p q : ℕ → ℕ → Bool) → Marks a p → Marks b q → Marks (zip2 bit_or a b) (λ m j. p m j || q m j)
marks_or a b p q ma mb = grind (arith, common_steps, length_of, lane_of, bit_at_or)

pub marks_as : (a : List ℕ) (p q : ℕ → ℕ → Bool) → ((m j : ℕ) → p m j ≡ q m j) → Marks a p → Marks a q
marks_as a p q e ma = record { whole = ma.whole; bits = λ m j hm hj. ma.bits m j hm hj ∙ ap (λ t. cond t 1 0) (e m j) }

-- rows of lanes of which one more is marked
pub row_marked : (test : ℕ → ℕ → ℕ → Bool) (rows : List (List ℕ)) (n : ℕ) (row : List ℕ) → n < length rows →
    ((i : ℕ) → i < n → Marks (get_or rows i []) (test i)) → Marks row (test n) → (i : ℕ) → i < n + 1 → Marks (get_or (set rows n row) i []) (test i)
row_marked test rows n row inside before now i h = grind (arith, cases_eq, get_or-set_same, get_or-set_other)

same_is : (a b : ℕ) → a < 2 → b < 2 → (a + (1 - b)) % 2 ≡ cond (a == b) 1 0
same_is a b h l = grind (arith)

-- a bit of a lane that was loaded
loaded_at : (bytes : List ℕ) (at m j : ℕ) → j < 16 → bit_at (get_or (chunk at 16 bytes) j 0) m ≡ get_or (plane m bytes) (at + j) 0
loaded_at bytes at m j h = ap (λ n. bit_at n m) (get_or-chunk at 16 bytes j 0 h) ∙ sym (plane_at m bytes (at + j))

-- and of its complement
turned_at : (bytes : List ℕ) → ((k : ℕ) → Fits w8 (get_or bytes k 0)) → (at : ℕ) → at + 16 ≤ length bytes → (m j : ℕ) → m < 8 → j < 16
    → bit_at (get_or (map (bit_not w8) (chunk at 16 bytes)) j 0) m ≡ 1 - get_or (plane m bytes) (at + j) 0
turned_at bytes fits at inside m j hm hj =
    grind (
      arith,
      get_or-chunk at 16 bytes j 0 hj,
      get_or-map (bit_not w8) (chunk at 16 bytes) j 0 0 (omega (arith, (length-chunk at 16 bytes inside), hj)),
      bit_at_not w8 (get_or bytes (at + j) 0) m ((fits (at + j)).fits) hm,
      plane_at m bytes (at + j),
    )

pub marks_dark : (bytes : List ℕ) (at : ℕ) → at + 16 ≤ length bytes → Marks (chunk at 16 bytes) (λ m j. get_or (plane m bytes) (at + j) 0 == 1)
marks_dark bytes at inside = grind (arith, common_steps, length-chunk, loaded_at, plane_small)

pub marks_light : (bytes : List ℕ) → ((k : ℕ) → Fits w8 (get_or bytes k 0)) → (at : ℕ) → at + 16 ≤ length bytes
    → Marks (map (bit_not w8) (chunk at 16 bytes)) (λ m j. get_or (plane m bytes) (at + j) 0 == 0)
marks_light bytes fits at inside = grind (arith, common_steps, turned_at bytes fits)

pub marks_same : (bytes : List ℕ) → ((k : ℕ) → Fits w8 (get_or bytes k 0)) → (at other : ℕ) → at + 16 ≤ length bytes → other + 16 ≤ length bytes
    → Marks (zip2 bit_xor (chunk at 16 bytes) (map (bit_not w8) (chunk other 16 bytes))) (λ m j. get_or (plane m bytes) (at + j) 0 ==
    get_or (plane m bytes) (other + j) 0)
marks_same bytes fits at other inside second =
    let a = chunk at 16 bytes in let b = map (bit_not w8) (chunk other 16 bytes) in
    let la = length-chunk at 16 bytes inside in
    let lb = length-map (chunk other 16 bytes) (bit_not w8) ∙ length-chunk other 16 bytes second in
    record {
      whole = length_of bit_xor a b la lb;
      bits = λ m j hm hj.
          xor_at a b la lb m j hj
          ∙ ap (λ t. (t + bit_at (get_or b j 0) m) % 2) (loaded_at bytes at m j hj)
          ∙ ap (λ t. (get_or (plane m bytes) (at + j) 0 + t) % 2) (turned_at bytes fits other second m j hm hj)
          ∙ same_is (get_or (plane m bytes) (at + j) 0) (get_or (plane m bytes) (other + j) 0) (plane_small m bytes (at + j)) (plane_small m bytes (other + j));
    }

-- A part of a list of numbers that is written over.

pub part_here : (at k : ℕ) (xs ys : List ℕ) (j : ℕ) → at ≤ length xs → j < length ys → get_or (put_mid at k xs ys) (at + j) 0 ≡ get_or ys j 0
part_here at k xs ys j within h = grind (arith, common_steps)

pub part_before : (at k : ℕ) (xs ys : List ℕ) (i : ℕ) → i < at → at ≤ length xs → get_or (put_mid at k xs ys) i 0 ≡ get_or xs i 0
part_before at k xs ys i h within = grind (arith, common_steps)

pub part_behind : (at k : ℕ) (xs ys : List ℕ) (i : ℕ) → at + k ≤ i → at + k ≤ length xs → length ys ≡ k → get_or (put_mid at k xs ys) i 0 ≡ get_or xs i 0
part_behind at k xs ys i h within long = grind (arith, common_steps)

-- sixteen lanes that are written into a list of bytes
abbrev pub with_lanes : ℕ → List ℕ → List ℕ → List ℕ
with_lanes at bytes lanes = put_mid at (at + 16 - at) bytes (put_chunk 0 (take (at + 16 - at) (drop at bytes)) lanes)

lanes_long : (at : ℕ) (bytes lanes : List ℕ) → at + 16 ≤ length bytes → length (put_chunk 0 (take (at + 16 - at) (drop at bytes)) lanes) ≡ 16
lanes_long at bytes lanes within = grind (arith, nat_tests, length-take-le, length-drop, length-put_chunk)

lane_put : (at : ℕ) (bytes lanes : List ℕ) (j : ℕ) → length lanes ≡ 16 → at + 16 ≤ length bytes → j < 16 →
    get_or (put_chunk 0 (take (at + 16 - at) (drop at bytes)) lanes) j 0 ≡ get_or lanes j 0
lane_put at bytes lanes j l within h = grind (arith, nat_tests, length-take-le, length-drop, get_or-put_chunk_at)

pub lanes_here : (at : ℕ) (bytes lanes : List ℕ) (j : ℕ) → length lanes ≡ 16 → at + 16 ≤ length bytes → j < 16 →
    get_or (with_lanes at bytes lanes) (at + j) 0 ≡ get_or lanes j 0
lanes_here at bytes lanes j l within h = grind (arith, part_here, lanes_long, lane_put)

pub lanes_before : (at : ℕ) (bytes lanes : List ℕ) (k : ℕ) → at + 16 ≤ length bytes → k < at → get_or (with_lanes at bytes lanes) k 0 ≡ get_or bytes k 0
lanes_before at bytes lanes k within h = part_before at (at + 16 - at) bytes _ k h (omega arith)

pub lanes_behind : (at : ℕ) (bytes lanes : List ℕ) (k : ℕ) → at + 16 ≤ length bytes → at + 16 ≤ k → get_or (with_lanes at bytes lanes) k 0 ≡ get_or bytes k 0
lanes_behind at bytes lanes k within h = grind (arith, part_behind, lanes_long)

pub ruleset dark_marks = (marks_as, marks_dark, common_steps)

pub ruleset bits_gone = (no_bit, get_or-replicate)

pub ruleset three_sums = (length-carry, length-sum, three_rows, common_steps)

-- A mask of four comparisons counts the squares of a block.

-- a lane of ones where two bytes are equal
abbrev pub hit : ℕ → ℕ → ℕ
hit a b = cond (a == b) 255 0

-- the lanes of a block, by their places
pub block_at : (xs : List ℕ) (at n : ℕ) → at + n ≤ length xs → take n (drop at xs) ≡ map (λ k. get_or xs k 0) (range_with_len at n)
block_at xs at n le = sym (pick_l-range_with_len 0 xs at n le)

pub next_places : (xs : List ℕ) (at n : ℕ) → map (λ k. get_or xs k 0) (range_with_len (at + 1) n) ≡ map (λ k. get_or xs (k + 1) 0) (range_with_len at n)
next_places xs at zero = refl
next_places xs at (suc n) = ap (λ (t : List ℕ). get_or xs (at + 1) 0 ∷ t) (next_places xs (at + 1) n)

-- the top bit of three comparisons joined
pub joined : (p q r : Bool) → top 7 (bit_and (cond p 255 0) (bit_and (cond q 255 0) (cond r 255 0))) ≡ p && (q && r)
joined p q r = grind (arith)

pub map_same : {X Y : Type 0} (f g : X → Y) → ((x : X) → f x ≡ g x) → (xs : List X) → map f xs ≡ map g xs
map_same f g same [] = refl
map_same {Y = Y} f g same (x ∷ xs) = ap (λ (t : List Y). f x ∷ t) (map_same f g same xs) ∙ ap (λ (y : Y). y ∷ map g xs) (same x)

-- the places up to more are those up to at, and the ones from there
pub places_append : (a n m : ℕ) → range_with_len a (n + m) ≡ range_with_len a n ++ range_with_len (a + n) m
places_append a zero m = rw (add-zero a, zero-add m) refl
places_append a (suc n) m = rw suc-add (ap (λ (t : List ℕ). a ∷ t) (places_append (a + 1) n m
    ∙ ap (λ k. range_with_len (a + 1) n ++ range_with_len k m) (omega arith)))

-- a count over the places goes on
pub count_of_places : (p : ℕ → Bool) (n m : ℕ) → count_by p (range_with_len 0 (n + m)) ≡ count_by p (range_with_len 0 n) + count_by p (range_with_len n m)
count_of_places p n m = grind (arith, common_steps, places_append, zero-add, sum_by-append)

-- one place more
pub count_one_more : (p : ℕ → Bool) (n : ℕ) (b : Bool) → p n ≡ b → count_by p (range_with_len 0 (n + 1)) ≡ count_by p (range_with_len 0 n) + cond b 1 0
count_one_more p n b is = grind (arith, count_of_places, zero-add)
