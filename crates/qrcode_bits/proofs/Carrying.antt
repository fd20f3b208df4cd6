-- A piece of text before a plan: some plan of both takes no more bits. The units of the piece are
-- added in front one by one, from its last one on. They are added to the plan's first part as
-- long as the mode of that part is below the piece's. From then on they are added to the piece,
-- which also takes the first part if it has the piece's mode, and the first segment of it if its
-- mode is above.
use Rattle.qrcode_bits.proofs.Prelude.{◌≡◌, ℕ, ◌+◌, ◌-◌, ◌≤◌, List, [], ◌∷◌, ◌++◌, refl, sym, ap, ◌∙◌, subst, arith, ◌⊎◌, inl, inr, Version, Mode, Segment}
use Rattle.qrcode_bits.proofs.Prelude.{join, Bool, true, false, map, if◌then◌else◌, Class, Run, class_mode, class_size, joins, add_unit, runs, run_segment, All}
use Rattle.qrcode_bits.proofs.Prelude.{All-head, All-tail, total_size}
use Rattle.qrcode_bits.proofs.{Runs.joins-same, Runs.class_size-some, Adjoining.Adjoin, Adjoining.Adjoin-runs, Cuts.Below, Cuts.UpTo, Cuts.order}
use Rattle.qrcode_bits.proofs.Cuts.{join-up_to, join-above_second, not_above, bits_of, piece_bits, merge_bits, move_bits}
use Rattle.qrcode_bits.proofs.Cuts.{lower_bits, Cut, Parted, alone, together, some, Cut-some, Cut-first, Cut-longer}

-- A piece of mode `m` has `n` bytes so far, and a plan of `cost` bits comes after it. Either the
-- first part of a cut represents the piece, however many bytes are added in front,
pub record IsOpen (v : Version) (m : Mode) (cost n : ℕ) (ss : List Segment) : Type 0 where
  pub mode : Mode
  pub size : ℕ
  pub rest : ℕ
  pub cut : Cut v ss mode size rest
  pub up_to : UpTo mode m
  pub few : (k x y : ℕ) → x ≡ size + k → y ≡ n + k → bits_of m x + rest ≤ bits_of m y + cost

-- or the bytes so far were added to the plan.
pub record IsShut (v : Version) (m : Mode) (cost n : ℕ) (ss : List Segment) : Type 0 where
  pub bits : ℕ
  pub parted : Parted v ss bits
  pub few : (k y : ℕ) → y ≡ n + k → bits_of m k + bits ≤ bits_of m y + cost

abbrev pub State : Version → Mode → ℕ → ℕ → List Segment → Type 0
State v m cost n ss = IsOpen v m cost n ss ⊎ IsShut v m cost n ss

-- a segment of one unit in front, or a first segment longer by one
pub record IsNew (a : Mode) (z : ℕ) (q : Segment) : Type 0 where
  pub mode : q.mode ≡ a
  pub size : q.end - q.begin ≡ z

pub record IsLonger (a : Mode) (z : ℕ) (r q : Segment) : Type 0 where
  pub mode : q.mode ≡ a
  pub old : r.mode ≡ a
  pub size : q.end - q.begin ≡ z + (r.end - r.begin)

-- the segments with a unit of a mode in front
pub data Added (a : Mode) (z : ℕ) : List Segment → List Segment → Type 0 where
  one_before : {q : Segment} {ss : List Segment} → IsNew a z q → Added a z ss (q ∷ ss)
  one_longer : {r q : Segment} {rs : List Segment} → IsLonger a z r q → Added a z (r ∷ rs) (q ∷ rs)

module _ (v : Version) (m : Mode) (cost n : ℕ) (a : Mode) (within : UpTo a m) (z : ℕ) (full : 1 ≤ z) where
  open-new : (q : Segment) (ss : List Segment) → IsNew a z q → IsOpen v m cost n ss → IsOpen v m cost (z + n) (q ∷ ss)
  open-new q ss new o = record {
    mode = join q.mode o.mode;
    size = z + o.size;
    rest = o.rest;
    cut = together o.cut refl (omega (arith, new.size));
    up_to = join-up_to q.mode o.mode m (subst (λ k. UpTo k m) (sym new.mode) within) o.up_to;
    few = λ k x y e f. o.few (z + k) x y (omega arith) (omega arith);
  }

  open-longer : (r q : Segment) (rs : List Segment) → IsLonger a z r q → IsOpen v m cost n (r ∷ rs) → IsOpen v m cost (z + n) (q ∷ rs)
  open-longer r q rs longer o = record {
    mode = o.mode;
    size = z + o.size;
    rest = o.rest;
    cut = Cut-longer v r q rs o.mode o.size o.rest z (longer.mode ∙ sym longer.old) longer.size o.cut;
    up_to = o.up_to;
    few = λ k x y e f. o.few (z + k) x y (omega arith) (omega arith);
  }

  shut-new : (q : Segment) (ss : List Segment) → IsNew a z q → IsShut v m cost n ss → IsOpen v m cost (z + n) (q ∷ ss)
  shut-new q ss new o = record {
    mode = a;
    size = z;
    rest = o.bits;
    cut = alone (sym new.mode) (omega (arith, new.size)) full o.parted;
    up_to = within;
    few = λ k x y e f. subst (λ i. bits_of m i + o.bits ≤ bits_of m y + cost) (sym e) (o.few (z + k) y (omega arith));
  }

  module _ (r q : Segment) (rs : List Segment) (longer : IsLonger a z r q) where
    -- what is known of a cut if the bytes so far were added to it
    abbrev Few : Mode → ℕ → ℕ → Type 0
    Few j s t = (k y : ℕ) → y ≡ n + k → bits_of m k + (piece_bits v j s + t) ≤ bits_of m y + cost

    lengthened : (j : Mode) (s t : ℕ) → Cut v (r ∷ rs) j s t → Cut v (q ∷ rs) j (z + s) t
    lengthened j s t c = Cut-longer v r q rs j s t z (longer.mode ∙ sym longer.old) longer.size c

    -- the part takes the unit
    shut-below : (j : Mode) (s t : ℕ) → Cut v (r ∷ rs) j s t → Few j s t → Below j m → IsShut v m cost (z + n) (q ∷ rs)
    shut-below j s t c few below = record {
      bits = piece_bits v j (z + s) + t;
      parted = some (lengthened j s t c) refl;
      few = λ k y e. omega (arith, few (z + k) y (omega arith), move_bits j m below z s k (z + s) (z + k) (omega arith) (omega arith));
    }

    -- the piece takes the part
    shut-same : (j : Mode) (s t : ℕ) → Cut v (r ∷ rs) j s t → Few j s t → j ≡ m → IsOpen v m cost (z + n) (q ∷ rs)
    shut-same j s t c few same = record {
      mode = j;
      size = z + s;
      rest = t;
      cut = lengthened j s t c;
      up_to = inl same;
      few = λ k x y e f.
          let had = subst (λ i. bits_of m (z + k) + (piece_bits v i s + t) ≤ bits_of m y + cost) same (few (z + k) y (omega arith)) in
          omega (arith, had, merge_bits m s (z + k) x (omega arith));
    }

    -- the piece takes the part's first segment
    shut-above : (j : Mode) (s t : ℕ) → Cut v (r ∷ rs) j s t → Few j s t → Below m j → IsOpen v m cost (z + n) (q ∷ rs)
    shut-above j s t (alone e f big rest) few above = absurd (not_above a m within (subst (λ k. Below m k) (e ∙ longer.old) above))
    shut-above j s t (together {i = i} {n = size} c e f) few above = record {
      mode = a;
      size = z + (r.end - r.begin);
      rest = piece_bits v i size + t;
      cut = alone (sym longer.mode) (omega (arith, longer.size)) (omega arith) (some c refl);
      up_to = within;
      few = λ k x y g h.
          let lower = lower_bits v i j (subst (UpTo i) (sym e) (join-above_second r.mode i)) size (Cut-some v c) in
          let moved = move_bits m j above (r.end - r.begin) (z + k) size x s (omega arith) f in
          omega (arith, few (z + k) y (omega arith), lower, moved);
    }

    shut-cut : (j : Mode) (s t : ℕ) → Cut v (r ∷ rs) j s t → Few j s t → Below j m ⊎ ((j ≡ m) ⊎ Below m j) → State v m cost (z + n) (q ∷ rs)
    shut-cut j s t c few (inl below) = inr (shut-below j s t c few below)
    shut-cut j s t c few (inr (inl same)) = inl (shut-same j s t c few same)
    shut-cut j s t c few (inr (inr above)) = inl (shut-above j s t c few above)

    shut-longer : IsShut v m cost n (r ∷ rs) → State v m cost (z + n) (q ∷ rs)
    shut-longer o = go o.bits o.parted o.few where
      go : (b : ℕ) → Parted v (r ∷ rs) b → ((k y : ℕ) → y ≡ n + k → bits_of m k + b ≤ bits_of m y + cost) → State v m cost (z + n) (q ∷ rs)
      go b (some {j = j} {s = s} {w = w} c e) few =
          shut-cut j s w c (λ k y f. omega (arith, few k y f))
          (order a j m (subst (λ i. UpTo i j) longer.old (Cut-first v r rs j s w c)) within)

  -- one more unit in front
  add-state : (ss qs : List Segment) → Added a z ss qs → State v m cost n ss → State v m cost (z + n) qs
  add-state ss _ (one_before {q = q} new) (inl o) = inl (open-new q ss new o)
  add-state ss _ (one_before {q = q} new) (inr o) = inl (shut-new q ss new o)
  add-state _ _ (one_longer {r = r} {q = q} {rs = rs} longer) (inl o) = inl (open-longer r q rs longer o)
  add-state _ _ (one_longer {r = r} {q = q} {rs = rs} longer) (inr o) = shut-longer r q rs longer o

-- at the end of the piece
closed : (v : Version) (m : Mode) (cost n : ℕ) (ss : List Segment) → State v m cost n ss →
    (b : ℕ) × Parted v ss b × (b ≤ piece_bits v m n + cost)
closed v m cost n ss (inl o) = (
  piece_bits v o.mode o.size + o.rest,
  some o.cut refl,
  omega (arith, o.few 0 o.size n (omega arith) (omega arith), lower_bits v o.mode m o.up_to o.size (Cut-some v o.cut)),
)
closed v m cost n ss (inr o) = (o.bits, o.parted, omega (arith, o.few 0 n (omega arith)))

-- ---- The units of a piece

abbrev pub segments_of : ℕ → List Class → List Segment
segments_of b cs = map run_segment (runs b cs)

add_unit-added : (c : Class) (b to : ℕ) (rs : List Run) → Adjoin (b + class_size c) (map run_segment rs) to →
    Added (class_mode c) (class_size c) (map run_segment rs) (map run_segment (add_unit c b rs))
add_unit-added c b to [] h = one_before (record { mode = refl; size = omega arith })
add_unit-added c b to (r ∷ rs) h = go (joins c r.class) refl where
  go : (t : Bool) → joins c r.class ≡ t → Added (class_mode c) (class_size c) (map run_segment (r ∷ rs)) (map run_segment
      (if t then record { class = c; begin = b; end = r.end } ∷ rs else record { class = c; begin = b; end = b + class_size c } ∷ r ∷ rs))
  go true e = one_longer (record { mode = refl; old = ap class_mode (sym (joins-same c r.class e)); size = omega arith })
  go false e = one_before (record { mode = refl; size = omega arith })

-- the segments of some units, and those of one more in front
pub units-added : (b : ℕ) (c : Class) (cs : List Class) →
    Added (class_mode c) (class_size c) (segments_of (b + class_size c) cs) (segments_of b (c ∷ cs))
units-added b c cs = add_unit-added c b (b + class_size c + total_size cs) (runs (b + class_size c) cs) (Adjoin-runs (b + class_size c) cs)

-- units that a mode can encode
abbrev pub AreUpTo : Mode → List Class → Type 0
AreUpTo m cs = All (λ c. UpTo (class_mode c) m) cs

carried : (v : Version) (m : Mode) (cost : ℕ) (ds cs : List Class) (b e : ℕ) → e ≡ b + total_size cs → AreUpTo m cs → Parted v (segments_of e ds) cost →
    State v m cost (total_size cs) (segments_of b (cs ++ ds))
carried v m cost ds [] b e at within h = inr (record {
  bits = cost;
  parted = (let same : e ≡ b = omega arith in subst (λ n. Parted v (segments_of n ds) cost) same h);
  few = λ k y f. let same : k ≡ y = omega arith in subst (λ i. bits_of m k + cost ≤ bits_of m i + cost) same (omega arith);
})
carried v m cost ds (c ∷ cs) b e at within h =
    add-state v m cost (total_size cs) (class_mode c) (All-head (λ d. UpTo (class_mode d) m) c cs within) (class_size c) (class_size-some c)
    (segments_of (b + class_size c) (cs ++ ds)) (segments_of b (c ∷ (cs ++ ds))) (units-added b c (cs ++ ds))
    (carried v m cost ds cs (b + class_size c) e (omega arith) (All-tail (λ d. UpTo (class_mode d) m) c cs within) h)

-- A piece of units in front of a plan: some plan of both takes no more bits.
pub one_piece : (v : Version) (m : Mode) (cost : ℕ) (cs ds : List Class) (b : ℕ) → AreUpTo m cs → Parted v (segments_of (b + total_size cs) ds) cost →
    (bits : ℕ) × Parted v (segments_of b (cs ++ ds)) bits × (bits ≤ piece_bits v m (total_size cs) + cost)
one_piece v m cost cs ds b within h =
    closed v m cost (total_size cs) (segments_of b (cs ++ ds)) (carried v m cost ds cs b (b + total_size cs) refl within h)
