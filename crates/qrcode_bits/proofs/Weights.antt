-- No plan takes fewer bits than the bytes of each segment in the mode of the segment.
use Rattle.qrcode_bits.proofs.Prelude.{◌≡◌, ℕ, ◌+◌, ◌-◌, ◌*◌, ◌<◌, ◌≤◌, List, [], ◌∷◌, ◌++◌, Some, length, drop, drop-cons, drop_all, refl, suc, sym, ap}
use Rattle.qrcode_bits.proofs.Prelude.{subst, arith}
use Rattle.qrcode_bits.proofs.Prelude.{flat_map, All-head, All-tail, Version, EcLevel, Mode, Numeric, Alphanumeric, Byte, Kanji, capacity, Segment, parsed}
use Rattle.qrcode_bits.proofs.Prelude.{join, data_bits, characters, total_bits, merged, merged_all, segment_at, FitsNot}
use Rattle.qrcode_bits.proofs.{Adjoining.Adjoin, Adjoining.parsed-adjoin, CuttingPlans.AreNonEmpty, CuttingPlans.joined, CuttingPlans.IsSome}
use Rattle.qrcode_bits.proofs.{Choices.some_same}

-- Six times the bits of a byte in a mode, rounded down. Those of pairs are not counted.
abbrev pub sixths : Mode → ℕ
sixths Numeric = 20
sixths Alphanumeric = 33
sixths Byte = 48
sixths Kanji = 0

pub same_sixths : (m : Mode) → elim m [ Numeric ↦ 20 | Alphanumeric ↦ 33 | Byte ↦ 48 | Kanji ↦ 0 ] ≡ sixths m
same_sixths Numeric = refl
same_sixths Alphanumeric = refl
same_sixths Byte = refl
same_sixths Kanji = refl

-- the same of segments, each in its own mode
abbrev pub weight : List Segment → ℕ
weight [] = 0
weight (s ∷ ss) = sixths s.mode * (s.end - s.begin) + weight ss

sixths-bits : (m : Mode) (n : ℕ) → sixths m * n ≤ 6 * data_bits m (characters m n)
sixths-bits m n = grind arith

sixths-join : (a b : Mode) (x y : ℕ) → sixths a * x + sixths b * y ≤ sixths (join a b) * (x + y)
sixths-join a b x y = grind arith

sixths-most : (m : Mode) (n : ℕ) → sixths m * n ≤ 48 * n
sixths-most m n = grind arith

adjoin-reach : (from to : ℕ) (ss : List Segment) → Adjoin from ss to → from ≤ to
adjoin-reach from to [] h = omega (arith, h)
adjoin-reach from to (s ∷ ss) h = let r = adjoin-reach s.end to ss h.2 in omega (arith, r, h.1)

adjoin-split : (from to : ℕ) (xs ys : List Segment) → Adjoin from (xs ++ ys) to → (mid : ℕ) × Adjoin from xs mid × Adjoin mid ys to
adjoin-split from to [] ys h = (from, refl, h)
adjoin-split from to (x ∷ xs) ys h = let w = adjoin-split x.end to xs ys h.2 in (w.0, (h.0, h.1, w.1), w.2)

weight-append : (xs ys : List Segment) → weight (xs ++ ys) ≡ weight xs + weight ys
weight-append [] ys = omega arith
weight-append (x ∷ xs) ys = let e = weight-append xs ys in omega (arith, e)

weight-most : (from to : ℕ) (ss : List Segment) → Adjoin from ss to → weight ss ≤ 48 * (to - from)
weight-most from to [] h = omega arith
weight-most from to (s ∷ ss) h =
    let r = weight-most s.end to ss h.2 in
    let reach = adjoin-reach s.end to ss h.2 in
    let one = sixths-most s.mode (s.end - s.begin) in omega (arith, r, reach, one, h.0, h.1)

-- segments that are joined into one
record IsJoined (s : Segment) (ss : List Segment) (from to : ℕ) : Type 0 where
  begin : (merged s ss).begin ≡ from
  end : (merged s ss).end ≡ to
  few : weight (s ∷ ss) ≤ sixths (merged s ss).mode * (to - from)

weight-merged : (s : Segment) (ss : List Segment) (from to : ℕ) → Adjoin from (s ∷ ss) to → IsJoined s ss from to
weight-merged s [] from to h =
    let size : s.end - s.begin ≡ to - from = omega (arith, h.0, h.2) in
    let same = ap (λ k. sixths s.mode * k) size in record { begin = h.0; end = h.2; few = omega (arith, same) }
weight-merged s (t ∷ ts) from to h =
    let w = weight-merged t ts s.end to h.2 in
    let reach = adjoin-reach s.end to (t ∷ ts) h.2 in
    let size : (s.end - s.begin) + (to - s.end) ≡ to - from = omega (arith, reach, h.0, h.1) in
    let both = sixths-join s.mode (merged t ts).mode (s.end - s.begin) (to - s.end) in
    let same = ap (λ k. sixths (join s.mode (merged t ts).mode) * k) size in
    record { begin = h.0; end = w.end; few = omega (arith, w.few, both, same) }

weight-pieces : (v : Version) (pieces : List (List Segment)) (from to : ℕ) → AreNonEmpty pieces → Adjoin from (joined pieces) to →
    weight (joined pieces) ≤ 6 * total_bits v (flat_map merged_all pieces)
weight-pieces v [] from to some h = omega arith
weight-pieces v ([] ∷ ps) from to some h = absurd (omega (arith, All-head IsSome [] ps some))
weight-pieces v ((s ∷ ss) ∷ ps) from to some h =
    let w = adjoin-split from to (s ∷ ss) (joined ps) h in
    let m : Segment = merged s ss in
    let one = weight-merged s ss from w.0 w.1 in
    let size : w.0 - from ≡ m.end - m.begin = omega (arith, one.begin, one.end) in
    let same = ap (λ k. sixths m.mode * k) size in
    let bits = sixths-bits m.mode (m.end - m.begin) in
    let rest = weight-pieces v ps w.0 to (All-tail IsSome (s ∷ ss) ps some) w.2 in
    let all = weight-append (s ∷ ss) (joined ps) in
    omega (arith, all, one.few, same, bits, rest)

-- Segments that weigh more than a version holds do not fit it.
pub heavy_unfit : (front : ℕ) (message : List ℕ) (v : Version) (l : EcLevel) (limit : ℕ) → capacity v l ≡ Some limit →
    6 * limit < weight (parsed message) → FitsNot front message v l
heavy_unfit front message v l limit known heavy plan w =
    let p = w.planned in
    let few = weight-pieces v p.pieces 0 (length message) p.nonempty
    (subst (λ ss. Adjoin 0 ss (length message)) (sym p.whole) (parsed-adjoin message)) in
    let whole = ap weight p.whole in
    let bits = ap (total_bits v) p.merges in
    let same = some_same w.limit limit (capacity v l) w.has_level known in
    omega (arith, few, whole, bits, same, heavy, w.within)

-- ---- The weight, counted

pub light : (message : List ℕ) → length message ≤ 7089 → weight (parsed message) ≤ 340272
light message short = let most = weight-most 0 (length message) (parsed message) (parsed-adjoin message) in omega (arith, most, short)

pub weighed_more : (segments : List Segment) (i sum : ℕ) → i < length segments → sum + weight (drop i segments) ≡ weight segments →
    sum + sixths (segment_at segments i).mode * ((segment_at segments i).end - (segment_at segments i).begin) + weight (drop (i + 1) segments) ≡ weight segments
weighed_more segments i sum inside known =
    let next : suc i ≡ i + 1 = omega arith in
    let first = ap weight (drop-cons segments i (record { mode = Numeric; begin = 0; end = 0 }) inside) in
    let rest = ap (λ k. weight (drop k segments)) next in
    omega (arith, known, first, rest)

pub weighed_all : (segments : List Segment) (i sum : ℕ) → length segments ≤ i → sum + weight (drop i segments) ≡ weight segments → sum ≡ weight segments
weighed_all segments i sum over known = grind (arith, drop_all)
