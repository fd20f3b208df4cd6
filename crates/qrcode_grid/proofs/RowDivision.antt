-- Division by rows: its turns, long division, and lanes of bytes multiplied in the field.
use Rattle.qrcode_grid.proofs.Prelude.{◌≡◌, ℕ, zero, suc, ◌<◌, ◌≤◌, ◌+◌, ◌-◌, refl, ap, sym, ◌∙◌, arith, List, [], ◌∷◌, ◌++◌, map, length, get_or, take, drop}
use Rattle.qrcode_grid.proofs.Prelude.{replicate, ◌/◌, ◌%◌, cond, eqb, leb, w8, Fits, Bool, false, subst, range_with_len, bit_xor, xor_assoc, xor_zero_r}
use Rattle.qrcode_grid.proofs.Prelude.{xor_self, xor_comm, xor_of_8, append-nil, length-take, length-drop, length-replicate, get_or-take, get_or-drop}
use Rattle.qrcode_grid.proofs.Prelude.{same_lists, get_or_default, drop_more, length-map, take-append-drop, get_or-map, take_at, drop_at}
use Rattle.qrcode_grid.proofs.Prelude.{get_or-map-range_with_len, length-map-range_with_len, map-range_with_len_more, product, power, double, shift_and_add}
use Rattle.qrcode_grid.proofs.Prelude.{value_at, AreBytes, AreTerms, AreRows, IsDivisor, IsDivisionStep, IsRemainder, common_steps, eqb-true}
use Rattle.qrcode_grid.proofs.Prelude.{get_or-zip2, length-zip2}
use Rattle.qrcode_grid.proofs.Prelude.{get_or-replicate, get_or_past, All-same, All-drop, All-take, All-from_get_or, All-get_or, All-append}
use Rattle.qrcode_grid.proofs.FieldLaws.{product-adds_left, product-one_left, product-zero_right, product_assoc, product_comm, product-double}
use Rattle.qrcode_grid.proofs.FieldLaws.{product-zero_left, passes_below-at, xor-zero, product-bounded, power-bounded}
use Rattle.qrcode_grid.proofs.Values.{sums, value_at-append, value_at-zeros, power-first, length-sums, value_at-sums, value_at-multiple}
use Rattle.std.proofs.lemmas.{List.length-append, List.drop-drop, List.take-replicate, Simd.get_or-sel_l, Simd.length-sel_l, Simd.tops_compared}
use lib.Lanes.{Each1, zip2, put_chunk, sel_l, top}
use lib.ListN.{replicate}
use borrow.Rule.Slice.PartMut.{put_mid}

-- The remainder by a monic polynomial that vanishes at a point has the value of what was
-- divided there.

pub value_at-cons : (x : ℕ) (xs : List ℕ) (a : ℕ) → value_at (x ∷ xs) a ≡ bit_xor (product x (power a (length xs))) (value_at xs a)
unfolding value_at
value_at-cons x xs a = refl

-- at a root of a monic polynomial, the leading power is the value of the other terms
leading_power : (gs : List ℕ) (a : ℕ) → value_at (1 ∷ gs) a ≡ 0 → power a (length gs) ≡ value_at gs a
leading_power gs a root = grind (arith, common_steps, xor-zero, product-one_left, power-bounded, value_at-cons)

-- the leading byte's multiple of the divisor is taken away
pub value_at-reduced : (lead : ℕ) (front rest gs : List ℕ) (a : ℕ) → length front ≡ length gs → value_at (1 ∷ gs) a ≡ 0 →
    value_at (sums front (map (λ g. product lead g) gs) ++ rest) a ≡ value_at (lead ∷ (front ++ rest)) a
value_at-reduced lead front rest gs a same root =
    cc (
      length-map gs (λ g. product lead g),
      value_at-sums front (map (λ g. product lead g) gs) a (same ∙ sym (length-map gs (λ g. product lead g))),
      value_at-multiple lead gs a,
      leading_power gs a root,
      xor_comm (value_at front a) (product lead (power a (length front))),
      value_at-cons lead front a,
      value_at-append (sums front (map (λ g. product lead g) gs)) rest a,
      value_at-append (lead ∷ front) rest a,
    )

-- a list that is a sum place by place
get_or-sums : (xs ys : List ℕ) (k : ℕ) → length xs ≡ length ys → k < length xs → get_or (sums xs ys) k 0 ≡ bit_xor (get_or xs k 0) (get_or ys k 0)
unfolding sums
get_or-sums [] ys k same within = absurd (omega (arith, within))
get_or-sums (x ∷ xs) [] k same within = absurd (omega (arith, same))
get_or-sums (x ∷ xs) (y ∷ ys) zero same within = refl
get_or-sums (x ∷ xs) (y ∷ ys) (suc k) same within = get_or-sums xs ys k (omega (arith, same)) (omega (arith, within))

pub sums_from_places : (lead : ℕ) (new front gs : List ℕ) → length new ≡ length front → length front ≡ length gs →
    ((k : ℕ) → k < length new → get_or new k 0 ≡ bit_xor (get_or front k 0) (product lead (get_or gs k 0))) →
    new ≡ sums front (map (λ g. product lead g) gs)
sums_from_places lead new front gs same same' places =
    let multiple = map (λ g. product lead g) gs in
    let long : length (sums front multiple) ≡ length front = length-sums front multiple (same' ∙ sym (length-map gs (λ g. product lead g))) in
    same_lists new (sums front multiple) (same ∙ sym long)
    (λ k d within.
    get_or_default new k d 0 within
    ∙ places k within
    ∙ ap (λ t. bit_xor (get_or front k 0) t) (sym (get_or-map (λ g. product lead g) gs k 0 0 (omega (arith, within, same, same'))))
    ∙ sym (get_or-sums front multiple k (same' ∙ sym (length-map gs (λ g. product lead g))) (omega (arith, within, same)))
    ∙ get_or_default (sums front multiple) k 0 d (omega (arith, within, same, long)))

-- Data followed by the remainder of the data and n zeros vanishes.
pub value_at-completed : (body ec : List ℕ) (n a : ℕ) → length ec ≡ n → value_at ec a ≡ value_at (body ++ replicate n 0) a → value_at (body ++ ec) a ≡ 0
value_at-completed body ec n a len same = grind (arith, value_at-append, length-replicate, value_at-zeros, xor_zero_r, xor_self)

-- ---- one turn of the long division, as the loop writes it

module _ (i n len lead : ℕ) (work divisor : List ℕ) (long : length work ≡ len) (fits : i + 1 + n ≤ len) (leads : lead ≡ get_or work i lead)
    (degree : length divisor ≡ n + 1) (monic : get_or divisor 0 0 ≡ 1) where
  turn-value : (a : ℕ) (new : List ℕ) → value_at divisor a ≡ 0 →
      new ≡ sums (take n (drop (i + 1) work)) (map (λ g. product lead g) (drop 1 divisor)) →
      value_at (new ++ drop n (drop (i + 1) work)) a ≡ value_at (drop i work) a
  turn-value a new root is = grind (arith, common_steps, drop_more, value_at-reduced, length-take, length-drop, take-append-drop, get_or_default)

pub divide_turn : (i n len k lead : ℕ) (work held new front terms divisor tail : List ℕ) (a : ℕ) →
    held ≡ work → length work ≡ len → i + 1 + n ≤ len → k ≡ n → lead ≡ get_or work i lead →
    front ≡ take n (drop (i + 1) work) → terms ≡ drop 1 divisor → length divisor ≡ n + 1 → get_or divisor 0 0 ≡ 1 → value_at divisor a ≡ 0 →
    length new ≡ n →
    ((p : ℕ) → p < length new → get_or new p 0 ≡ bit_xor (get_or front p 0) (product lead (get_or terms p 0))) →
    value_at (drop (i + 1) (take len (put_mid (i + 1) k held new ++ tail))) a ≡ value_at (drop i work) a
divide_turn i n len k lead work held new front terms divisor tail a same long fits kn leads isfront isterms degree monic root newlen places =
    let flen : length (take n (drop (i + 1) work)) ≡ n = simp (length-take, length-drop) (omega arith) in
    let glen : length (drop 1 divisor) ≡ n = simp length-drop (omega arith) in
    let is = sums_from_places lead new (take n (drop (i + 1) work)) (drop 1 divisor) (newlen ∙ sym flen) (flen ∙ sym glen)
    (λ p within. places p within ∙ ap (λ t. bit_xor (get_or t p 0) (product lead (get_or terms p 0))) isfront
    ∙ ap (λ t. bit_xor (get_or (take n (drop (i + 1) work)) p 0) (product lead (get_or t p 0))) isterms) in
    ap (λ t. value_at (drop (i + 1) (take len (put_mid (i + 1) k t new ++ tail))) a) same
    ∙ ap (λ t. value_at t a) (grind (arith, common_steps, length-append, length-take, length-drop, take_at, drop_at))
    ∙ turn-value i n len lead work divisor long fits leads degree monic a new root is

-- the bytes that are left stay bytes
pub divide_bytes : (i n len k lead : ℕ) (work held new front terms tail : List ℕ) →
    held ≡ work → length work ≡ len → i + 1 + n ≤ len → k ≡ n →
    front ≡ take n (drop (i + 1) work) → length new ≡ n →
    ((p : ℕ) → p < length new → get_or new p 0 ≡ bit_xor (get_or front p 0) (product lead (get_or terms p 0))) →
    AreBytes (drop i work) → AreBytes (drop (i + 1) (take len (put_mid (i + 1) k held new ++ tail)))
divide_bytes i n len k lead work held new front terms tail same long fits kn isfront newlen places bytes =
    let P : ℕ → Type 0 = λ x. x < 256 in
    let rest : AreBytes (drop (i + 1) work) = All-same P (drop (i + 1) work) (drop 1 (drop i work)) (sym (drop-drop 1 i work))
    (All-drop P 1 (drop i work) bytes) in
    let front_bytes : AreBytes front = All-same P front (take n (drop (i + 1) work)) isfront (All-take P n (drop (i + 1) work) rest) in
    let flen : length front ≡ n = ap length isfront ∙ simp (length-take, length-drop) (omega arith) in
    let new_bytes : AreBytes new = All-from_get_or P new 0 (λ p within.
    subst P (sym (places p within)) (xor_of_8 (get_or front p 0) (product lead (get_or terms p 0))
    (All-get_or P front p 0 (omega (arith, within, flen, newlen)) front_bytes) (product-bounded lead (get_or terms p 0)))) in
    All-same P _ (new ++ drop n (drop (i + 1) work))
    (ap (λ t. drop (i + 1) (take len (put_mid (i + 1) k t new ++ tail))) same
    ∙ (grind (arith, common_steps, length-append, length-take, length-drop, take_at, drop_at)))
    (All-append P new (drop n (drop (i + 1) work)) new_bytes (All-drop P n (drop (i + 1) work) rest))

-- Lanes of bytes that are multiplied in the field.

-- What one lane of a vector of bytes is, after an operation.

pub lane_add : (xs ys : List ℕ) (n j : ℕ) → length xs ≡ n → length ys ≡ n → j < n →
    get_or (zip2 (λ a b. (a + b) % 256) xs ys) j 0 ≡ (get_or xs j 0 + get_or ys j 0) % 256
lane_add xs ys n j l m h = get_or-zip2 (λ a b. (a + b) % 256) xs ys j 0 0 0 (omega arith) (omega arith)

pub length_add : (xs ys : List ℕ) (n : ℕ) → length xs ≡ n → length ys ≡ n → length (zip2 (λ a b. (a + b) % 256) xs ys) ≡ n
length_add xs ys n l m = length-zip2 (λ a b. (a + b) % 256) xs ys (l ∙ sym m) ∙ l

-- a choice by a comparison
abbrev pub chosen : (ℕ → ℕ → Bool) → List ℕ → List ℕ → List ℕ → List ℕ → List ℕ
chosen t us vs xs ys = sel_l (map (top 7) (zip2 (λ a b. cond (t a b) 255 0) us vs)) xs ys

pub lane_chosen : (t : ℕ → ℕ → Bool) (us vs xs ys : List ℕ) (n j : ℕ) → length us ≡ n → length vs ≡ n → length xs ≡ n → length ys ≡ n → j < n
    → get_or (chosen t us vs xs ys) j 0 ≡ cond (t (get_or us j 0) (get_or vs j 0)) (get_or xs j 0) (get_or ys j 0)
lane_chosen t us vs xs ys n j la lb lx ly h =
    grind (arith, length-zip2 t us vs (la ∙ sym lb), tops_compared w8 t us vs, get_or-sel_l (zip2 t us vs) xs ys j 0, get_or-zip2 t us vs j 0 0 false)

pub length_chosen : (t : ℕ → ℕ → Bool) (us vs xs ys : List ℕ) (n : ℕ) → length us ≡ n → length vs ≡ n → length xs ≡ n → length ys ≡ n →
    length (chosen t us vs xs ys) ≡ n
length_chosen t us vs xs ys n la lb lx ly = grind (arith, common_steps, length-zip2, tops_compared, length-sel_l)

-- a lane is a byte
pub fits_at : (xs : List ℕ) (j : ℕ) → Each1 (Fits w8) xs → get_or xs j 0 < 256
fits_at [] j h = omega arith
fits_at (x ∷ xs) zero h = h.0.fits
fits_at (x ∷ xs) (suc j) h = fits_at xs j h.1

pub lane_xor : (xs ys : List ℕ) (n j : ℕ) → length xs ≡ n → length ys ≡ n → j < n → get_or (zip2 bit_xor xs ys) j 0 ≡ bit_xor (get_or xs j 0) (get_or ys j 0)
lane_xor xs ys n j l m h = get_or-zip2 bit_xor xs ys j 0 0 0 (omega arith) (omega arith)

pub length_xor : (xs ys : List ℕ) (n : ℕ) → length xs ≡ n → length ys ≡ n → length (zip2 bit_xor xs ys) ≡ n
length_xor xs ys n l m = length-zip2 bit_xor xs ys (l ∙ sym m) ∙ l

-- a lane times 2: a shift, reduced where a bit comes out
pub lane_doubled : (v : List ℕ) (j : ℕ) → length v ≡ 32 → j < 32 → get_or v j 0 < 256 →
    get_or (zip2 bit_xor (zip2 (λ a b. (a + b) % 256) v v) (chosen leb (replicate 32 128) v (replicate 32 29) (replicate 32 0))) j 0 ≡ double (get_or v j 0)
unfolding double
lane_doubled v j long h small =
    let a = get_or v j 0 in
    let picked = chosen leb (replicate 32 128) v (replicate 32 29) (replicate 32 0) in
    lane_xor _ picked 32 j (length_add v v 32 long long) (length_chosen leb (replicate 32 128) v (replicate 32 29) (replicate 32 0) 32 refl long refl refl) h
    ∙ ap (λ x. bit_xor x (get_or picked j 0)) (lane_add v v 32 j long long h)
    ∙ ap (λ x. bit_xor ((a + a) % 256) x) (lane_chosen leb (replicate 32 128) v (replicate 32 29) (replicate 32 0) 32 j refl long refl refl h
    ∙ ap (λ t. cond (leb t a) (get_or (replicate 32 29) j 0) (get_or (replicate 32 0) j 0)) (get_or-replicate 32 j 128 0 h)
    ∙ ap (λ t. cond (leb 128 a) t (get_or (replicate 32 0) j 0)) (get_or-replicate 32 j 29 0 h)
    ∙ ap (λ t. cond (leb 128 a) 29 t) (get_or-replicate 32 j 0 0 h))
    ∙ eqb-true _ _ (passes_below-at (λ a. eqb (bit_xor ((a + a) % 256) (cond (leb 128 a) 29 0)) (double a)) 256 a refl small)

-- the multiple by a number from that by its half
pub multiple_from_half : (i c : ℕ) → i < 16 → product i c ≡ bit_xor (double (product (i / 2) c)) (product (i % 2) c)
unfolding double
multiple_from_half i c h =
    cc (
      eqb-true _ _ (passes_below-at (λ i. eqb (bit_xor (double (i / 2)) (i % 2)) i) 16 i refl h),
      product-adds_left (double (i / 2)) (i % 2) c,
      product-double (i / 2) c (omega arith),
    )

pub multiple_even : (i c : ℕ) → i < 16 → i % 2 ≡ 0 → product i c ≡ double (product (i / 2) c)
multiple_even i c h e = grind (arith, common_steps, multiple_from_half, product-zero_left, xor_zero_r)

pub multiple_odd : (i c : ℕ) → i < 16 → c < 256 → i % 2 ≡ 1 → product i c ≡ bit_xor (double (product (i / 2) c)) c
multiple_odd i c h small e = grind (arith, common_steps, multiple_from_half, product-one_left)

-- a lane of an odd multiple, from the even one below it
pub odd_lane : (even terms : List ℕ) (i j : ℕ) → length even ≡ 32 → length terms ≡ 32 → i < 16 → i % 2 ≡ 1 → j < 32 → get_or terms j 0 < 256 →
    get_or even j 0 ≡ double (product (i / 2) (get_or terms j 0)) → get_or (zip2 bit_xor even terms) j 0 ≡ product i (get_or terms j 0)
odd_lane even terms i j la lb below odd h small is = grind (arith, lane_xor, multiple_odd)

-- a byte by its halves
pub product-halves : (f c : ℕ) → f < 256 → product f c ≡ bit_xor (product (f % 16) c) (product (f / 16) (product 16 c))
unfolding double shift_and_add product
product-halves f c h =
    cc (
      eqb-true _ _ (passes_below-at (λ f. eqb (bit_xor (f % 16) (product (f / 16) 16)) f) 256 f refl h),
      product-adds_left (f % 16) (product (f / 16) 16) c,
      product_assoc (f / 16) 16 c,
    )

pub times_one : (a t : ℕ) → a < 256 → product a (product 1 t) ≡ product a t
times_one a t h = sym (product_assoc a 1 t) ∙ ap (λ x. product x t) (product_comm a 1 ∙ product-one_left a h)

zeros_at : (n k : ℕ) → get_or {A = ℕ} (replicate n 0) k 0 ≡ 0
zeros_at zero k = refl
zeros_at (suc n) zero = refl
zeros_at (suc n) (suc k) = zeros_at n k

pub padded_at : (xs : List ℕ) (n k : ℕ) → get_or (xs ++ replicate n 0) k 0 ≡ get_or xs k 0
padded_at [] n k = zeros_at n k
padded_at (x ∷ xs) n zero = refl
padded_at (x ∷ xs) n (suc k) = padded_at xs n k

-- a lane of a vector joined with zeros, one place on
pub lane_moved : (xs : List ℕ) (j : ℕ) → j < 32 → get_or (map (λ k. get_or (xs ++ replicate 32 0) k 0) (range_with_len 1 32)) j 0 ≡ get_or xs (j + 1) 0
lane_moved xs j h =
    cc (get_or-map-range_with_len (λ k. get_or (xs ++ (replicate 32 0)) k 0) 1 32 j (j + 1) 0 h (omega arith), padded_at xs 32 (j + 1))

-- lanes that are written over as many places
put_all : (xs ys : List ℕ) → length xs ≡ length ys → put_chunk 0 xs ys ≡ ys
put_all [] [] h = refl
put_all [] (y ∷ ys) h = absurd (omega (arith, h))
put_all (x ∷ xs) [] h = absurd (omega (arith, h))
put_all (x ∷ xs) (y ∷ ys) h = ap (λ t. y ∷ t) (put_all xs ys (omega (arith, h)))

pub put_in_zeros : (ys : List ℕ) → length ys ≡ 32 → put_chunk 0 (replicate 32 0) ys ≡ ys
put_in_zeros ys h = put_all (replicate 32 0) ys (sym h)

value_at-nothing : (a : ℕ) → value_at [] a ≡ 0
unfolding value_at
value_at-nothing a = refl

value_at-one : (d a : ℕ) → d < 256 → value_at (d ∷ []) a ≡ d
value_at-one d a h = grind (arith, common_steps, value_at-cons, value_at-nothing, xor_zero_r, power-first, product_comm, product-one_left)

value_at-shifted : (xs : List ℕ) (n a : ℕ) → value_at (xs ++ replicate n 0) a ≡ product (value_at xs a) (power a n)
value_at-shifted xs n a = grind (arith, common_steps, value_at-append, length-replicate, value_at-zeros, xor_zero_r)

-- the first lanes
window : List ℕ → ℕ → ℕ → List ℕ
window lanes first n = map (λ k. get_or lanes k 0) (range_with_len first n)

take-window : (lanes : List ℕ) (n : ℕ) → n ≤ length lanes → take n lanes ≡ window lanes 0 n
unfolding window
take-window lanes n h = grind (arith, length-take, same_lists, length-map-range_with_len, get_or_default, get_or-take, get_or-map-range_with_len)

window-more : (lanes : List ℕ) (n : ℕ) → window lanes 0 (suc n) ≡ window lanes 0 n ++ get_or lanes n 0 ∷ []
unfolding window
window-more lanes n = grind (arith, map-range_with_len_more (λ k. get_or lanes k 0) 0 n n (omega arith))

window-first : (lanes : List ℕ) (n : ℕ) → window lanes 0 (suc n) ≡ get_or lanes 0 0 ∷ window lanes 1 n
unfolding window
window-first lanes n = refl

get_or-window : (lanes : List ℕ) (n k : ℕ) → k < n → get_or (window lanes 1 n) k 0 ≡ get_or lanes (k + 1) 0
unfolding window
get_or-window lanes n k h = get_or-map-range_with_len (λ k. get_or lanes k 0) 1 n k (k + 1) 0 h (omega arith)

length-window : (lanes : List ℕ) (first n : ℕ) → length (window lanes first n) ≡ n
unfolding window
length-window lanes first n = length-map-range_with_len (λ k. get_or lanes k 0) first n

regroup : (s p q d : ℕ) → bit_xor (product d q) (product (product s q) p) ≡ product (bit_xor (product s p) d) q
regroup s p q d = grind (arith, common_steps, xor_comm, product_assoc, product_comm, product-adds_left)

module _ (n d : ℕ) (divisor terms seen lanes result : List ℕ) (is : IsDivisor n divisor) (padded : AreTerms divisor terms) (byte : d < 256)
    (before : IsRemainder n divisor seen lanes) (turn : IsDivisionStep terms lanes d result) (long : length result ≡ 32) where
  lead : ℕ
  lead = bit_xor d (get_or lanes 0 0)

  rest : (k : ℕ) → n ≤ k → get_or result k 0 ≡ 0
  unfolding lead
  rest k h = grind (arith, common_steps, get_or_past, lead, product-zero_right)

  reduced : take n result ≡ sums (window lanes 1 n) (map (λ g. product lead g) (drop 1 divisor))
  unfolding lead
  reduced =
      let size : length (take n result) ≡ n = length-take n result ∙ omega (arith, long, is.small) in
      let gs : length (drop 1 divisor) ≡ n = length-drop 1 divisor ∙ omega (arith, is.degree) in
      sums_from_places lead (take n result) (window lanes 1 n) (drop 1 divisor) (size ∙ sym (length-window lanes 1 n)) (length-window lanes 1 n ∙ sym gs)
      (λ k within.
      let below : k < n = omega (arith, size) in
      let inside : k < 32 = omega (arith, is.small) in
      let next : 1 + k ≡ k + 1 = omega arith in
      get_or-take n result k 0 below ∙ turn k inside
      ∙ ap (λ x. bit_xor x (product lead (get_or terms k 0))) (sym (get_or-window lanes n k below))
      ∙ ap (λ t. bit_xor (get_or (window lanes 1 n) k 0) (product lead t)) (padded k inside ∙ ap (λ j. get_or divisor j 0) (sym next)
      ∙ sym (get_or-drop 1 divisor k 0)))

  congruent : (a : ℕ) → value_at divisor a ≡ 0 → value_at (take n result) a ≡ value_at ((seen ++ d ∷ []) ++ replicate n 0) a
  unfolding lead
  congruent a root =
      let gs = drop 1 divisor in
      let front = window lanes 1 n in
      let first = get_or lanes 0 0 in
      let wide : length front ≡ n = length-window lanes 1 n in
      let degree : length gs ≡ n = length-drop 1 divisor ∙ omega (arith, is.degree) in
      let split : divisor ≡ 1 ∷ gs = drop_more divisor 0 0 (omega (arith, is.degree)) ∙ ap (λ t. t ∷ gs) is.monic in
      let whole : value_at (sums front (map (λ g. product lead g) gs)) a ≡ value_at (lead ∷ front) a =
      ap (λ t. value_at t a) (sym (append-nil (sums front (map (λ g. product lead g) gs))))
      ∙ value_at-reduced lead front [] gs a (wide ∙ sym degree) (ap (λ t. value_at t a) (sym split) ∙ root)
      ∙ ap (λ t. value_at (lead ∷ t) a) (append-nil front) in
      let old : value_at (first ∷ front) a ≡ product (product (value_at seen a) (power a n)) (power a 1) =
      ap (λ t. value_at t a) (sym (window-first lanes n) ∙ window-more lanes n ∙ ap (λ z. window lanes 0 n ++ z ∷ []) (before.rest n (omega arith)))
      ∙ (grind (arith, common_steps, value_at-append, value_at-one)) ∙ xor_zero_r (product (value_at (window lanes 0 n) a) (power a 1))
      ∙ ap (λ v. product v (power a 1)) (ap (λ t. value_at t a) (sym (take-window lanes n (omega (arith, before.size, is.small)))) ∙ before.congruent a root
      ∙ value_at-shifted seen n a) in
      ap (λ t. value_at t a) reduced ∙ whole
      ∙ value_at-cons lead front a
      ∙ ap (λ v. bit_xor v (value_at front a)) (ap (λ k. product lead (power a k)) wide ∙ product-adds_left d first (power a n))
      ∙ xor_assoc (product d (power a n)) (product first (power a n)) (value_at front a)
      ∙ ap (bit_xor (product d (power a n))) (ap (λ k. bit_xor (product first (power a k)) (value_at front a)) (sym wide)
      ∙ sym (value_at-cons first front a) ∙ old)
      ∙ regroup (value_at seen a) (power a 1) (power a n) d
      ∙ ap (λ v. product v (power a n)) (sym (grind (arith, common_steps, value_at-append, value_at-one)))
      ∙ sym (value_at-shifted (seen ++ d ∷ []) n a)

  pub next_remainder : IsRemainder n divisor (seen ++ d ∷ []) result
  next_remainder = record { size = long; rest = rest; congruent = congruent }

-- before the first byte all lanes are 0
pub first_remainder : (n : ℕ) (divisor : List ℕ) → n ≤ 32 → IsRemainder n divisor [] (replicate 32 0)
first_remainder n divisor h = record {
  size = refl;
  rest = λ k low. zeros_at 32 k;
  congruent = λ a root. ap (λ t. value_at t a) (take-replicate n 32 0 h);
}

-- rows of the terms, and of 16 times the terms
pub rows_made : (divisor terms twice : List ℕ) (low high : List (List ℕ)) → AreTerms divisor terms →
    ((i j : ℕ) → i < 16 → j < 32 → get_or (get_or low i []) j 0 ≡ product i (get_or terms j 0)) →
    ((j : ℕ) → j < 32 → get_or twice j 0 ≡ double (get_or (get_or low 8 []) j 0)) →
    ((i j : ℕ) → i < 16 → j < 32 → get_or (get_or high i []) j 0 ≡ product i (get_or twice j 0)) → AreRows divisor terms low high
unfolding double
rows_made divisor terms twice low high padded by_low doubled by_high = grind (arith, product-double 8, common_steps, times_one)

-- a list that begins with one is not empty
pub begun : (xs : List ℕ) → get_or xs 0 0 ≡ 1 → length xs ≡ length xs - 1 + 1
begun xs h = grind (arith, common_steps)
