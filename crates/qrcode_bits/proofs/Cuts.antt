-- Cuts of segments into parts, described by the first part and the bits of the later ones.
use Rattle.qrcode_bits.proofs.Prelude.{◌≡◌, ℕ, ◌+◌, ◌-◌, ◌*◌, ◌/◌, ◌≤◌, List, [], ◌∷◌, sym, ap, subst, ◌∙◌, arith, ◌⊎◌, inl, Version, ◌++◌, refl, All-nil}
use Rattle.qrcode_bits.proofs.Prelude.{All-cons, flat_map, merged, merged_all, total_bits, segment_bits, IsMergePlan, Mode, Numeric, Alphanumeric, Byte, Kanji}
use Rattle.qrcode_bits.proofs.Prelude.{join, count_width, indicator_width, data_bits, characters, Segment}
use Rattle.qrcode_bits.proofs.{Adjoining.Adjoin, CuttingPlans.IsSome, CuttingPlans.AreNonEmpty, CuttingPlans.joined}

-- ---- Modes in the order of how many bits a byte takes in them

abbrev pub Below : Mode → Mode → Type 0
Below Numeric Alphanumeric = Unit {0}
Below Numeric Byte = Unit {0}
Below Alphanumeric Byte = Unit {0}
Below Kanji Byte = Unit {0}
Below _ _ = ⊥

abbrev pub UpTo : Mode → Mode → Type 0
UpTo j m = (j ≡ m) ⊎ Below j m

-- two modes that can encode what a third one can
pub order : (a j m : Mode) → UpTo a j → UpTo a m → Below j m ⊎ ((j ≡ m) ⊎ Below m j)
order a j m g h = grind arith

pub join-up_to : (a j m : Mode) → UpTo a m → UpTo j m → UpTo (join a j) m
join-up_to a j m g h = grind arith

pub join-above : (a j : Mode) → UpTo a (join a j)
join-above a j = grind arith

pub join-above_second : (a j : Mode) → UpTo j (join a j)
join-above_second a j = grind arith

pub not_above : (a m : Mode) → UpTo a m → Below m a → ⊥
not_above a m g h = grind arith

-- ---- Bits

-- The bits of a number of bytes, rounded up: those of a text, but half a Kanji character
-- takes seven.
abbrev pub bits_of : Mode → ℕ → ℕ
bits_of Numeric n = (10 * n + 2) / 3
bits_of Alphanumeric n = (11 * n + 1) / 2
bits_of Byte n = 8 * n
bits_of Kanji n = (13 * n + 1) / 2

-- with a header
abbrev pub piece_bits : Version → Mode → ℕ → ℕ
piece_bits v m n = indicator_width v + count_width v m + bits_of m n

pub data_bits-below : (m : Mode) (n : ℕ) → data_bits m (characters m n) ≤ bits_of m n
data_bits-below m n = grind arith

-- two pieces of one mode take no less than one
pub merge_bits : (m : Mode) (a b c : ℕ) → c ≡ a + b → bits_of m c ≤ bits_of m a + bits_of m b
merge_bits m a b c e = grind arith

-- bytes move from a mode to one below it
pub move_bits : (j m : Mode) → Below j m → (r s k x y : ℕ) → x ≡ r + s → y ≡ r + k → bits_of j x + bits_of m k ≤ bits_of j s + bits_of m y
move_bits j m h r s k x y e f = grind arith

-- a whole piece in a mode below
pub lower_bits : (v : Version) (j m : Mode) → UpTo j m → (s : ℕ) → 1 ≤ s → piece_bits v j s ≤ piece_bits v m s
lower_bits v j m h s some = grind arith

-- ---- Cuts

-- `Cut`: the segments can be cut so that the first part has this mode and this size, and the
-- later parts take this number of bits. `Parted`: they can be cut so that all parts take this
-- number of bits.
mutual
  pub data Cut (v : Version) : List Segment → Mode → ℕ → ℕ → Type 0 where
    alone : {r : Segment} {rs : List Segment} {j : Mode} {s t : ℕ} → j ≡ r.mode → s ≡ r.end - r.begin → 1 ≤ s → Parted v rs t → Cut v (r ∷ rs) j s t
    together : {r : Segment} {rs : List Segment} {i j : Mode} {n s t : ℕ} → Cut v rs i n t → j ≡ join r.mode i → s ≡ r.end - r.begin + n →
        Cut v (r ∷ rs) j s t

  pub data Parted (v : Version) : List Segment → ℕ → Type 0 where
    none : {t : ℕ} → t ≡ 0 → Parted v [] t
    some : {ss : List Segment} {j : Mode} {s t w : ℕ} → Cut v ss j s w → t ≡ piece_bits v j s + w → Parted v ss t

module _ (v : Version) where
  pub Cut-some : {ss : List Segment} {j : Mode} {s t : ℕ} → Cut v ss j s t → 1 ≤ s
  Cut-some (alone e f full rest) = full
  Cut-some (together c e f) = omega (arith, Cut-some c)

  -- the first segment is in the first part
  pub Cut-first : (r : Segment) (rs : List Segment) (j : Mode) (s t : ℕ) → Cut v (r ∷ rs) j s t → UpTo r.mode j
  Cut-first r rs j s t (alone e f full rest) = inl (sym e)
  Cut-first r rs j s t (together {i = i} c e f) = subst (UpTo r.mode) (sym e) (join-above r.mode i)

  -- a longer first segment
  pub Cut-longer : (r q : Segment) (rs : List Segment) (j : Mode) (s t z : ℕ) → q.mode ≡ r.mode → q.end - q.begin ≡ z + (r.end - r.begin) →
      Cut v (r ∷ rs) j s t → Cut v (q ∷ rs) j (z + s) t
  Cut-longer r q rs j s t z same size (alone e f full rest) = alone (e ∙ sym same) (omega arith) (omega arith) rest
  Cut-longer r q rs j s t z same size (together {i = i} c e f) = together c (e ∙ ap (λ m. join m i) (sym same)) (omega arith)

-- ---- Each cut of adjoining segments is a merge plan

record IsCutPlan (v : Version) (from : ℕ) (ss : List Segment) (j : Mode) (s t : ℕ) : Type 0 where
  first : Segment
  more : List Segment
  later : List (List Segment)
  whole : (first ∷ more) ++ joined later ≡ ss
  nonempty : AreNonEmpty later
  mode : (merged first more).mode ≡ j
  begin : (merged first more).begin ≡ from
  end : (merged first more).end ≡ from + s
  bits : total_bits v (flat_map merged_all later) ≤ t

record IsPartedPlan (v : Version) (ss : List Segment) (t : ℕ) : Type 0 where
  pieces : List (List Segment)
  whole : joined pieces ≡ ss
  nonempty : AreNonEmpty pieces
  bits : total_bits v (flat_map merged_all pieces) ≤ t

segment_bits-below : (v : Version) (m : Segment) (j : Mode) (s from : ℕ) → m.mode ≡ j → m.begin ≡ from → m.end ≡ from + s →
    segment_bits v m ≤ piece_bits v j s
segment_bits-below v m j s from e b f =
    let size : m.end - m.begin ≡ s = omega arith in
    subst (λ k. segment_bits v m ≤ piece_bits v k s) e
    (subst (λ n. segment_bits v m ≤ piece_bits v m.mode n) size (omega (arith, data_bits-below m.mode (m.end - m.begin))))

mutual
  cut-plan : (v : Version) {ss : List Segment} {j : Mode} {s t : ℕ} → Cut v ss j s t → (from to : ℕ) → Adjoin from ss to → IsCutPlan v from ss j s t
  cut-plan v (alone {r = r} e f full rest) from to h =
      let p = parted-plan v rest r.end to h.2 in
      record {
        first = r;
        more = [];
        later = p.pieces;
        whole = ap (λ z. r ∷ z) p.whole;
        nonempty = p.nonempty;
        mode = sym e;
        begin = h.0;
        end = omega arith;
        bits = p.bits;
      }
  cut-plan v (together {r = r} {i = i} c e f) from to h =
      let p = cut-plan v c r.end to h.2 in
      record {
        first = r;
        more = p.first ∷ p.more;
        later = p.later;
        whole = ap (λ z. r ∷ z) p.whole;
        nonempty = p.nonempty;
        mode = ap (join r.mode) p.mode ∙ sym e;
        begin = h.0;
        end = omega (arith, p.end);
        bits = p.bits;
      }

  parted-plan : (v : Version) {ss : List Segment} {t : ℕ} → Parted v ss t → (from to : ℕ) → Adjoin from ss to → IsPartedPlan v ss t
  parted-plan v (none e) from to h = record { pieces = []; whole = refl; nonempty = All-nil IsSome; bits = omega arith }
  parted-plan v (some {j = j} {s = s} c e) from to h =
      let p = cut-plan v c from to h in
      record {
        pieces = (p.first ∷ p.more) ∷ p.later;
        whole = p.whole;
        nonempty = All-cons IsSome (p.first ∷ p.more) p.later (omega arith) p.nonempty;
        bits = omega (arith, segment_bits-below v (merged p.first p.more) j s from p.mode p.begin p.end, p.bits);
      }

-- A merge plan takes no more bits than the cut.
pub parted-merges : (v : Version) (ss : List Segment) (t from to : ℕ) → Parted v ss t → Adjoin from ss to →
    (plan : List Segment) × IsMergePlan ss plan × (total_bits v plan ≤ t)
parted-merges v ss t from to h w =
    let p = parted-plan v h from to w in
    (flat_map merged_all p.pieces, record { pieces = p.pieces; whole = p.whole; nonempty = p.nonempty; merges = refl }, p.bits)
