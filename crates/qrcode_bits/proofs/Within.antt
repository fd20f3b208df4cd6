-- Units that lie within units that some plan fits have a plan that takes no more bits.
use Rattle.qrcode_bits.proofs.Prelude.{◌≡◌, ℕ, ◌+◌, ◌-◌, ◌≤◌, List, [], ◌∷◌, ◌++◌, length, take, drop, refl, sym, ap, ◌∙◌, subst, arith, inl, cases_lt}
use Rattle.qrcode_bits.proofs.Prelude.{drop_all, length-drop, slice_range, take-append-drop, All-nil, All-cons, All-head, All-tail, All-append, All-take}
use Rattle.qrcode_bits.proofs.Prelude.{All-drop, flat_map, append_assoc, append-nil, common_steps, Version, Mode, Kanji, join, Segment, merged, merged_all}
use Rattle.qrcode_bits.proofs.Prelude.{segment_bits, total_bits, data_bits, characters, IsMergePlan, Class, class_mode, class_size, parsed, units, All-weaker}
use Rattle.qrcode_bits.proofs.Prelude.{total_size}
use Rattle.std.proofs.lemmas.List.{drop-append-le, take-append-le, take_all}
use Rattle.std.proofs.Math.Seq.{drop-append-add, take-append-add}
use Rattle.qrcode_bits.proofs.{Adjoining.Adjoin, Adjoining.parsed-adjoin, Adjoining.size-append, Adjoining.size-cut, CuttingPlans.AreNonEmpty}
use Rattle.qrcode_bits.proofs.{CuttingPlans.joined, CuttingPlans.IsSome, Carrying.Added, Carrying.one_before, Carrying.one_longer, Carrying.AreUpTo}
use Rattle.qrcode_bits.proofs.{Carrying.segments_of, Carrying.units-added, Cuts.UpTo, Cuts.bits_of, Cuts.piece_bits, Cuts.join-above, Cuts.join-above_second}
use Rattle.qrcode_bits.proofs.Shortest.{Bundle, AreCoded, all_classes, bundle_bits, bundles-plan}

-- ---- A merge plan as bundles of units

up_to-same : (j m k : Mode) → UpTo j m → UpTo m k → UpTo j k
up_to-same j m k g h = grind arith

up_to-more : (m k : Mode) (cs : List Class) → UpTo m k → AreUpTo m cs → AreUpTo k cs
up_to-more m k cs h w = All-weaker (λ c. UpTo (class_mode c) m) (λ c. UpTo (class_mode c) k) (λ c g. up_to-same (class_mode c) m k g h) cs w

-- segments of units in turn, which their modes can encode
abbrev Covers : List Segment → List Class → Type 0
Covers [] cs = cs ≡ []
Covers (s ∷ ss) cs =
    (own : List Class) × (rest : List Class) × (cs ≡ own ++ rest) × AreUpTo s.mode own × (s.end - s.begin ≡ total_size own) × Covers ss rest

covers-added : (c : Class) (cs : List Class) (ss qs : List Segment) → Added (class_mode c) (class_size c) ss qs → Covers ss cs → Covers qs (c ∷ cs)
covers-added c cs ss _ (one_before {q = q} w) h = (
  c ∷ [],
  cs,
  refl,
  All-cons (λ d. UpTo (class_mode d) q.mode) c [] (inl (sym w.mode)) (All-nil (λ d. UpTo (class_mode d) q.mode)),
  omega (arith, w.size),
  h,
)
covers-added c cs _ _ (one_longer {q = q} w) h = (
  c ∷ h.0,
  h.1,
  ap (λ z. c ∷ z) h.2,
  All-cons (λ d. UpTo (class_mode d) q.mode) c h.0 (inl (sym w.mode)) (subst (λ m. AreUpTo m h.0) (w.old ∙ sym w.mode) h.3),
  omega (arith, w.size, h.4),
  h.5,
)

covers-units : (b : ℕ) (cs : List Class) → Covers (segments_of b cs) cs
covers-units b [] = refl
covers-units b (c ∷ cs) =
    covers-added c cs (segments_of (b + class_size c) cs) (segments_of b (c ∷ cs)) (units-added b c cs) (covers-units (b + class_size c) cs)

-- segments that are joined into one, and those after them
record IsBundled (first : Segment) (more rest : List Segment) (from to : ℕ) (cs : List Class) : Type 0 where
  own : List Class
  others : List Class
  whole : cs ≡ own ++ others
  coded : AreUpTo (merged first more).mode own
  begin : (merged first more).begin ≡ from
  end : (merged first more).end ≡ from + total_size own
  later : Covers rest others
  after : Adjoin (merged first more).end rest to

bundled : (first : Segment) (more rest : List Segment) (from to : ℕ) (cs : List Class) → Adjoin from (first ∷ (more ++ rest)) to →
    Covers (first ∷ (more ++ rest)) cs → IsBundled first more rest from to cs
bundled first [] rest from to cs h c =
    record { own = c.0; others = c.1; whole = c.2; coded = c.3; begin = h.0; end = omega (arith, c.4, h.0, h.1); later = c.5; after = h.2 }
bundled first (next ∷ more) rest from to cs h c =
    let p = bundled next more rest first.end to c.1 h.2 c.5 in
    let m = (merged next more).mode in
    record {
      own = c.0 ++ p.own;
      others = p.others;
      whole = c.2 ∙ (ap (λ z. c.0 ++ z) p.whole ∙ sym (append_assoc c.0 p.own p.others));
      coded = All-append (λ d. UpTo (class_mode d) (join first.mode m)) c.0 p.own
          (up_to-more first.mode (join first.mode m) c.0 (join-above first.mode m) c.3)
          (up_to-more m (join first.mode m) p.own (join-above_second first.mode m) p.coded);
      begin = h.0;
      end = omega (arith, size-append c.0 p.own, c.4, h.0, h.1, p.end);
      later = p.later;
      after = p.after;
    }

-- units of the Kanji mode are pairs
even-size : (cs : List Class) → AreUpTo Kanji cs → (k : ℕ) × (total_size cs ≡ k + k)
even-size [] h = (0, refl)
even-size (c ∷ cs) h =
    let k = even-size cs (All-tail (λ d. UpTo (class_mode d) Kanji) c cs h) in
    let two = pair-size c (All-head (λ d. UpTo (class_mode d) Kanji) c cs h) in (1 + k.0, omega (arith, k.1, two)) where
      pair-size : (c : Class) → UpTo (class_mode c) Kanji → class_size c ≡ 2
      pair-size c h = grind arith

whole_bits : (m : Mode) (n : ℕ) → (m ≡ Kanji → (k : ℕ) × (n ≡ k + k)) → bits_of m n ≡ data_bits m (characters m n)
whole_bits m n h = grind (arith, h)

own_bits : (v : Version) (s : Segment) (from : ℕ) (cs : List Class) → s.begin ≡ from → s.end ≡ from + total_size cs → AreUpTo s.mode cs →
    piece_bits v s.mode (total_size cs) ≡ segment_bits v s
own_bits v s from cs e f h =
    let size : s.end - s.begin ≡ total_size cs = omega arith in
    let w = whole_bits s.mode (total_size cs) (λ k. even-size cs (subst (λ m. AreUpTo m cs) k h)) in grind (arith, w, size)

plan_bundles : (v : Version) (pieces : List (List Segment)) (from to : ℕ) (cs : List Class) → AreNonEmpty pieces → Adjoin from (joined pieces) to →
    Covers (joined pieces) cs →
    (bs : List Bundle) × AreCoded bs × (all_classes bs ≡ cs) × (bundle_bits v bs ≡ total_bits v (flat_map merged_all pieces))
plan_bundles v [] from to cs full h c = ([], tt, sym c, refl)
plan_bundles v ([] ∷ pieces) from to cs full h c = absurd (omega (arith, All-head IsSome [] pieces full))
plan_bundles v ((first ∷ more) ∷ pieces) from to cs full h c =
    let p = bundled first more (joined pieces) from to cs h c in
    let rest = plan_bundles v pieces (merged first more).end to p.others (All-tail IsSome (first ∷ more) pieces full) p.after p.later in (
      record { mode = (merged first more).mode; classes = p.own } ∷ rest.0,
      (p.coded, rest.1),
      ap (λ z. p.own ++ z) rest.2 ∙ sym p.whole,
      omega (arith, own_bits v (merged first more) from p.own p.begin p.end p.coded, rest.3),
    )

-- ---- The units from one place to another

drop-over : (n : ℕ) (xs ys : List Class) → drop n (xs ++ ys) ≡ drop n xs ++ drop (n - length xs) ys
drop-over n xs ys = grind (arith, cases_lt (length xs) n, drop-append-le n xs ys, drop-append-add xs ys (n - length xs), drop_all)

take-over : (n : ℕ) (xs ys : List Class) → take n (xs ++ ys) ≡ take n xs ++ take (n - length xs) ys
take-over n xs ys = grind (arith, cases_lt (length xs) n, take-append-le n xs ys, take-append-add xs ys (n - length xs), append-nil, take_all)

slice-over : (xs ys : List Class) (a b : ℕ) → a ≤ b → slice_range (xs ++ ys) a b ≡ slice_range xs a b ++ slice_range ys (a - length xs) (b - length xs)
slice-over xs ys a b h =
    let left : b - a - length (drop a xs) ≡ b - length xs - (a - length xs) = omega (arith, length-drop a xs) in
    ap (take (b - a)) (drop-over a xs ys) ∙ (take-over (b - a) (drop a xs) (drop (a - length xs) ys)
    ∙ ap (λ n. take (b - a) (drop a xs) ++ take n (drop (a - length xs) ys)) left)

size-slice : (cs : List Class) (a b : ℕ) → a ≤ b → total_size (slice_range cs a b) ≤ total_size cs
size-slice cs a b h =
    let whole = ap total_size (take-append-drop b cs) in omega (arith, size-cut cs a b h, size-append (take b cs) (drop b cs), whole)

fewer_bits : (v : Version) (m : Mode) (n s : ℕ) → n ≤ s → piece_bits v m n ≤ piece_bits v m s
fewer_bits v m n s h = grind arith

-- the same bundles with these units alone
abbrev cut : ℕ → ℕ → List Bundle → List Bundle
cut a b [] = []
cut a b (p ∷ ps) = record { mode = p.mode; classes = slice_range p.classes a b } ∷ cut (a - length p.classes) (b - length p.classes) ps

cut_known : (v : Version) (a b : ℕ) (bs : List Bundle) → a ≤ b → AreCoded bs →
    AreCoded (cut a b bs) × (all_classes (cut a b bs) ≡ slice_range (all_classes bs) a b) × (bundle_bits v (cut a b bs) ≤ bundle_bits v bs)
cut_known v a b [] h coded = (tt, grind (arith, common_steps), omega arith)
cut_known v a b (p ∷ ps) h coded =
    let w = cut_known v (a - length p.classes) (b - length p.classes) ps (omega arith) coded.1 in (
      (All-take (λ c. UpTo (class_mode c) p.mode) (b - a) (drop a p.classes) (All-drop (λ c. UpTo (class_mode c) p.mode) a p.classes coded.0), w.0),
      ap (λ z. slice_range p.classes a b ++ z) w.1 ∙ sym (slice-over p.classes (all_classes ps) a b h),
      omega (arith, fewer_bits v p.mode _ _ (size-slice p.classes a b h), w.2),
    )

pub within-plan : (v : Version) (outer inner : List ℕ) (a b : ℕ) (plan : List Segment) → a ≤ b → units inner ≡ slice_range (units outer) a b →
    IsMergePlan (parsed outer) plan → (less : List Segment) × IsMergePlan (parsed inner) less × (total_bits v less ≤ total_bits v plan)
within-plan v outer inner a b plan h part p =
    let bs = plan_bundles v p.pieces 0 (length outer) (units outer) p.nonempty (subst (λ ss. Adjoin 0 ss (length outer)) (sym p.whole) (parsed-adjoin outer))
    (subst (λ ss. Covers ss (units outer)) (sym p.whole) (covers-units 0 (units outer))) in
    let ws = cut_known v a b bs.0 h bs.1 in
    let w = bundles-plan v inner (cut a b bs.0) ws.0 (ws.1 ∙ (ap (λ cs. slice_range cs a b) bs.2 ∙ sym part)) in
    (w.0, w.1, subst (λ q. total_bits v w.0 ≤ total_bits v q) (sym p.merges) (omega (arith, w.2, ws.2, bs.3)))
