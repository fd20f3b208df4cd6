-- Parsed segments, and those merged from them, are texts of their modes.
use Rattle.qrcode_bits.proofs.Prelude.{◌≡◌, ℕ, ◌+◌, ◌-◌, ◌<◌, ◌≤◌, Bool, true, false, List, [], ◌∷◌, ◌++◌, length, map, take, drop, refl, sym, ap, ◌∙◌, subst}
use Rattle.qrcode_bits.proofs.Prelude.{arith, All, All-tail, slice_range, flat_map, drop-drop, take-add, All-head, All-nil, All-drop, Kanji, join}
use Rattle.qrcode_bits.proofs.Prelude.{is_kanji_pair, IsKanjiText, IsValid, Segment, Class, Pair, Run, class_of, class_mode, class_size, add_unit, runs, units}
use Rattle.qrcode_bits.proofs.Prelude.{run_segment, parsed, AreTexts, merged, merged_all, IsMergePlan, LiesIn, common_steps, All-cons, length-drop, All-weaker}
use Rattle.qrcode_base.{proofs.Joins.join-upper, proofs.Joins.join-upper_second, proofs.Alphabet.is_alphanumeric-inside}
use Rattle.std.proofs.lemmas.List.{length-take-le}
use Rattle.qrcode_bits.proofs.{CuttingPlans.AreNonEmpty, CuttingPlans.joined, CuttingPlans.IsSome, Runs.class_size-some, Runs.joins-same}
use Rattle.qrcode_bits.proofs.{Adjoining.class_of-one, Upward.valid-append, Upward.valid-upward}

-- ---- Slices

-- two neighbouring slices are one
pub slice-join : {X : Type 0} (xs : List X) (a b c : ℕ) → a ≤ b → b ≤ c → slice_range xs a b ++ slice_range xs b c ≡ slice_range xs a c
slice-join xs a b c h k = grind (arith, drop-drop (b - a) a xs, take-add (b - a) (c - b) (drop a xs))

pub length-slice : (xs : List ℕ) (a b : ℕ) → a ≤ b → b ≤ length xs → length (slice_range xs a b) ≡ b - a
length-slice xs a b h k = length-take-le (b - a) (drop a xs) (omega (arith, length-drop a xs))

-- the bytes from an index on
slice-front : (xs rest : List ℕ) (a n : ℕ) → drop a xs ≡ rest → slice_range xs a (a + n) ≡ take n rest
slice-front xs rest a n e = grind arith

drop-further : (xs rest : List ℕ) (a n : ℕ) → drop a xs ≡ rest → drop (a + n) xs ≡ drop n rest
drop-further xs rest a n e = sym (drop-drop n a xs) ∙ ap (λ (z : List ℕ). drop n z) e

-- ---- Units and runs

module _ (whole : List ℕ) where
  pub texts-reach : (from to : ℕ) (ss : List Segment) → AreTexts whole from ss to → from ≤ to
  texts-reach from to [] h = omega arith
  texts-reach from to (s ∷ ss) h = let r = texts-reach s.end to ss h.3 in let f = h.1 in omega arith

  -- a unit joins the run after it, or is a run before it
  texts-add : (c : Class) (b e : ℕ) (rs : List Run) → IsValid (class_mode c) (slice_range whole b (b + class_size c)) →
      AreTexts whole (b + class_size c) (map run_segment rs) e → AreTexts whole b (map run_segment (add_unit c b rs)) e
  texts-add c b e [] v h = let s = class_size-some c in (refl, omega arith, v, h)
  texts-add c b e (r ∷ rs) v h =
      grind (arith, class_size-some c, joins-same c r.class, valid-append (class_mode c) _ (slice_range whole (b + class_size c) r.end) v, slice-join)

  single : All (λ c. c < 256) whole → (b a : ℕ) (rest : List ℕ) → drop b whole ≡ a ∷ rest →
      IsValid (class_mode (class_of a)) (slice_range whole b (b + class_size (class_of a)))
  single are b a rest d = grind (arith, All-head, All-drop, common_steps, slice-front, class_of-one, is_alphanumeric-inside)

  texts-runs : All (λ c. c < 256) whole → (b : ℕ) (bytes : List ℕ) → drop b whole ≡ bytes →
      AreTexts whole b (map run_segment (runs b (units bytes))) (b + length bytes)
  texts-runs are b [] d = omega arith
  texts-runs are b (a ∷ []) d = grind (arith, single)
  texts-runs are b (a ∷ c ∷ rest) d = go (is_kanji_pair a c) refl (texts-runs are (b + 2) rest (drop-further whole (a ∷ c ∷ rest) b 2 d))
      (texts-runs are (b + 1) (c ∷ rest) (drop-further whole (a ∷ c ∷ rest) b 1 d)) where
        go : (t : Bool) → is_kanji_pair a c ≡ t → AreTexts whole (b + 2) (map run_segment (runs (b + 2) (units rest))) (b + 2 + length rest) →
            AreTexts whole (b + 1) (map run_segment (runs (b + 1) (units (c ∷ rest)))) (b + 1 + length (c ∷ rest)) →
            AreTexts whole b (map run_segment (runs b (elim t [ true ↦ Pair ∷ units rest | false ↦ class_of a ∷ units (c ∷ rest) ])))
            (b + length (a ∷ c ∷ rest))
        go true k r q =
            let valid : IsValid Kanji (slice_range whole b (b + 2)) = subst (λ (z : List ℕ). IsKanjiText z)
            (sym (slice-front whole (a ∷ c ∷ rest) b 2 d)) (k, tt) in
            grind (arith, texts-add Pair b (b + 2 + length rest) (runs (b + 2) (units rest)) valid r)
        go false k r q =
            let one : class_size (class_of a) ≡ 1 = class_of-one a in
            grind (arith, texts-add (class_of a) b (b + 1 + length (c ∷ rest)) (runs (b + 1) (units (c ∷ rest))), single are b a (c ∷ rest) d)

  pub texts-parsed : All (λ c. c < 256) whole → AreTexts whole 0 (parsed whole) (length whole)
  texts-parsed are = let e : 0 + length whole ≡ length whole = omega arith in subst (AreTexts whole 0 (parsed whole)) e (texts-runs are 0 whole refl)

  -- ---- Merging

  texts-merged : (s : Segment) (ss : List Segment) (from to : ℕ) → AreTexts whole from (s ∷ ss) to → AreTexts whole from (merged s ss ∷ []) to
  texts-merged s [] from to h = h
  texts-merged s (t ∷ ts) from to h =
      let w = texts-merged t ts s.end to h.3 in
      let m : Segment = merged t ts in
      let both = valid-append (join s.mode m.mode) _ _ (valid-upward (slice_range whole from s.end) (join-upper s.mode m.mode) h.2)
      (valid-upward (slice_range whole s.end m.end) (join-upper_second s.mode m.mode) w.2) in
      grind (arith, slice-join)

  texts-split : (from to : ℕ) (xs ys : List Segment) → AreTexts whole from (xs ++ ys) to → (mid : ℕ) × AreTexts whole from xs mid × AreTexts whole mid ys to
  texts-split from to [] ys h = (from, refl, h)
  texts-split from to (x ∷ xs) ys h = let w = texts-split x.end to xs ys h.3 in (w.0, (h.0, h.1, h.2, w.1), w.2)

  texts-append : (from mid to : ℕ) (xs ys : List Segment) → AreTexts whole from xs mid → AreTexts whole mid ys to → AreTexts whole from (xs ++ ys) to
  texts-append from mid to [] ys h k = subst (λ (n : ℕ). AreTexts whole n ys to) (sym h) k
  texts-append from mid to (x ∷ xs) ys h k = (h.0, h.1, h.2, texts-append x.end mid to xs ys h.3 k)

  pub texts-pieces : (from to : ℕ) (pieces : List (List Segment)) → AreNonEmpty pieces → AreTexts whole from (joined pieces) to →
      AreTexts whole from (flat_map merged_all pieces) to
  texts-pieces from to [] some h = h
  texts-pieces from to ([] ∷ ps) some h = absurd (omega (arith, All-head IsSome [] ps some))
  texts-pieces from to ((s ∷ ss) ∷ ps) some h =
      let w = texts-split from to (s ∷ ss) (joined ps) h in
      texts-append from w.0 to (merged s ss ∷ []) (flat_map merged_all ps) (texts-merged s ss from w.0 w.1)
      (texts-pieces w.0 to ps (All-tail IsSome (s ∷ ss) ps some) w.2)

  -- Each part of a plan of the parsed segments is a text of its mode, and the parts together are
  -- all the bytes.
  pub texts-plan : All (λ c. c < 256) whole → (plan : List Segment) → IsMergePlan (parsed whole) plan → AreTexts whole 0 plan (length whole)
  texts-plan are plan h = grind (arith, texts-pieces, texts-parsed)

  -- ---- Each of some texts

  abbrev pub IsText : Segment → Type 0
  IsText s = (s.begin < s.end) × (s.end ≤ length whole) × IsValid s.mode (slice_range whole s.begin s.end)

  pub texts-each : (from to : ℕ) (ss : List Segment) → AreTexts whole from ss to → to ≤ length whole → All IsText ss
  texts-each from to [] h k = All-nil IsText
  texts-each from to (s ∷ ss) h k = grind (arith, All-cons, texts-reach, texts-each s.end to ss h.3 k)

  -- The parts of a plan lie within the bytes.
  pub plan_lies : All (λ c. c < 256) whole → (plan : List Segment) → IsMergePlan (parsed whole) plan → All (LiesIn (length whole)) plan
  plan_lies are plan h =
      All-weaker IsText (LiesIn (length whole)) (λ s w. (omega (arith, w.0), w.1)) plan (texts-each 0 (length whole) plan (texts-plan are plan h) (omega arith))
