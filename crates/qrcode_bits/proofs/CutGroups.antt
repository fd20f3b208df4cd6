-- Segments that differ in the end of the last one alone have the same groups of starts.
use Rattle.qrcode_bits.proofs.Prelude.{◌≡◌, ℕ, suc, ◌+◌, ◌-◌, ◌*◌, ◌/◌, ◌%◌, ◌<◌, ◌≤◌, List, [], ◌∷◌, length, take, sym, ap, ◌∙◌, arith}
use Rattle.qrcode_bits.proofs.Prelude.{inl, inr, cases_lt, length-append, Version, Mode, Segment, Candidate, Option, Some, None, segment_at, slice_range}
use Rattle.qrcode_bits.proofs.Prelude.{merged_all, total_bits, part_bits, part_mode, first_mode, bits_before, parts_before, plan_bits, period, period_bits}
use Rattle.qrcode_bits.proofs.Prelude.{join}
use Rattle.qrcode_bits.proofs.Prelude.{InBucket, IsBestStart, StandsFor, IsAhead, AreGroups, Groups, IsNoWorse, bucket_mode, chosen_plan, ◌⊎◌}
use Rattle.std.specs.Prelude.{set}
use Rattle.qrcode_bits.specs.Optimizer.{cut_at, unit_size, IsUnitsIn}
use Rattle.std.proofs.lemmas.List.{get_or-set_same, get_or-take, length-take-le, set-get_or, set-set, take_more, take_more_set, take-take}
use Rattle.std.proofs.Math.Seq.{get_or-append_seam, take-append_seam}
use Rattle.qrcode_bits.proofs.{Optimal.IsChosen-unique, Optimal.IsChosen-chosen_plan, Scan.part_mode-more, Scan.part-one, Firsts.slice-first}
use Rattle.qrcode_bits.proofs.Firsts.{agree, chosen-agree}

module _ (version : Version) (a b : List Segment) (n : ℕ) (same : take n a ≡ take n b) where
  costs : (s e : ℕ) → e ≤ n → part_bits a version s e ≡ part_bits b version s e
  costs s e h = ap (λ xs. total_bits version (merged_all xs))
      (sym (slice-first n s e a h) ∙ (ap (λ xs. slice_range xs s e) same ∙ slice-first n s e b h))

  plans : (e : ℕ) → e ≤ n → chosen_plan (part_bits a version) e ≡ chosen_plan (part_bits b version) e
  plans e h = IsChosen-unique
      (chosen-agree (part_bits a version) (part_bits b version) e (λ s k l. costs s k (omega (arith, h, l))) _ (IsChosen-chosen_plan (part_bits a version) e))
      (IsChosen-chosen_plan (part_bits b version) e)

  -- The plans of the segments that are the same take the same bits.
  pub bits-same : (e : ℕ) → e ≤ n → bits_before a version e ≡ bits_before b version e
  bits-same e h =
      agree (part_bits a version) (part_bits b version) e (λ s k l. costs s k (omega (arith, h, l))) e (chosen_plan (part_bits a version) e) (omega arith)
      (IsChosen-chosen_plan (part_bits a version) e).planned ∙ ap (plan_bits (part_bits b version) e) (plans e h)

  module _ (in_a : n < length a) (in_b : n < length b) (modes : (segment_at a n).mode ≡ (segment_at b n).mode)
      (begins : (segment_at a n).begin ≡ (segment_at b n).begin) where
    begin-same : (t : ℕ) → t < n + 1 → (segment_at a t).begin ≡ (segment_at b t).begin
    begin-same t h = elim (cases_lt t n) [
      | inl less ↦ ap (λ s. s.begin) (sym (get_or-take n a t _ less) ∙ (ap (λ xs. segment_at xs t) same ∙ get_or-take n b t _ less))
      | inr past ↦ (let e : t ≡ n = omega (arith, h, past) in rw e begins)
    ]

    mode-same : (t : ℕ) → t < n + 1 → part_mode a t (n + 1) ≡ part_mode b t (n + 1)
    mode-same t h = elim (cases_lt t n) [
      | inl less ↦ (let at : t + suc (n - t - 1) ≡ n = omega (arith, less) in
          let here : part_mode a t n ≡ part_mode b t n =
          ap (λ xs. first_mode (merged_all xs)) (sym (slice-first n t n a (omega arith)) ∙ (ap (λ xs. slice_range xs t n) same
          ∙ slice-first n t n b (omega arith))) in
          part_mode-more a (n - t - 1) t n at in_a ∙ (ap (λ m. join m (segment_at a n).mode) here ∙ (ap (join (part_mode b t n)) modes
          ∙ sym (part_mode-more b (n - t - 1) t n at in_b))))
      | inr past ↦ (let e : t ≡ n = omega (arith, h, past) in rw e (ap first_mode (part-one a n in_a) ∙ (modes ∙ sym (ap first_mode (part-one b n in_b)))))
    ]

    module _ (far : ℕ) where
      bucket-same : (mode : Mode) (j t : ℕ) → InBucket b (n + 1) (n + 1) mode j t → InBucket a (n + 1) (n + 1) mode j t
      bucket-same mode j t h = record {
        below = h.below;
        suffix = mode-same t h.below ∙ h.suffix;
        rest = ap (λ k. k % period (bucket_mode j)) (begin-same t h.below) ∙ h.rest;
      }

      bucket-back : (mode : Mode) (j t : ℕ) → InBucket a (n + 1) (n + 1) mode j t → InBucket b (n + 1) (n + 1) mode j t
      bucket-back mode j t h = record {
        below = h.below;
        suffix = sym (mode-same t h.below) ∙ h.suffix;
        rest = ap (λ k. k % period (bucket_mode j)) (sym (begin-same t h.below)) ∙ h.rest;
      }

      parts-same : (t : ℕ) → t < n + 1 → parts_before a version t ≡ parts_before b version t
      parts-same t h = ap length (plans t (omega (arith, h)))

      stands-same : (mode : Mode) (c : Candidate) → c.start < n + 1 → StandsFor far a version mode c → StandsFor far b version mode c
      stands-same mode c h w = record {
        bits = ap (λ k. c.bits + period_bits mode * (k / period mode)) (sym (begin-same c.start h))
            ∙ (w.bits ∙ ap (λ k. k + period_bits mode * far) (bits-same c.start (omega (arith, h))));
        parts = w.parts ∙ ap (λ k. k + 1) (parts-same c.start h);
      }

      ahead-same : (mode : Mode) (s t : ℕ) → s < n + 1 → t < n + 1 → IsAhead a version mode s t → IsAhead b version mode s t
      ahead-same mode s t h k w =
          let p : (x y : ℕ) → x ≡ y → period_bits mode * (x / period mode) ≡ period_bits mode * (y / period mode) =
          λ x y e. ap (λ z. period_bits mode * (z / period mode)) e in
          let left : bits_before a version s + period_bits mode * ((segment_at a t).begin / period mode)
          ≡ bits_before b version s + period_bits mode * ((segment_at b t).begin / period mode) =
          ap (λ z. z + period_bits mode * ((segment_at a t).begin / period mode)) (bits-same s (omega (arith, h)))
          ∙ ap (λ z. bits_before b version s + z) (p _ _ (begin-same t k)) in
          let right : bits_before a version t + period_bits mode * ((segment_at a s).begin / period mode)
          ≡ bits_before b version t + period_bits mode * ((segment_at b s).begin / period mode) =
          ap (λ z. z + period_bits mode * ((segment_at a s).begin / period mode)) (bits-same t (omega (arith, k)))
          ∙ ap (λ z. bits_before b version t + z) (p _ _ (begin-same s h)) in
          moved _ _ _ _ _ _ _ _ _ _ left (parts-same s h) right (parts-same t k) w where
            moved : (x y m n u v p q s t : ℕ) → x ≡ y → m ≡ n → u ≡ v → p ≡ q → IsNoWorse x m s u p t → IsNoWorse y n s v q t
            moved x y m n u v p q s t e f g h w = record {
              bits = omega (arith, e, g, w.bits);
              parts = λ k. omega (arith, f, h, w.parts (e ∙ (k ∙ sym g)));
              start = λ k l. w.start (e ∙ (k ∙ sym g)) (f ∙ (l ∙ sym h));
            }

      best-same : (mode : Mode) (j : ℕ) (c : Option Candidate) → IsBestStart far a version (bucket_mode j) (InBucket a (n + 1) (n + 1) mode j) c →
          IsBestStart far b version (bucket_mode j) (InBucket b (n + 1) (n + 1) mode j) c
      best-same mode j None w = λ t h. w t (bucket-same mode j t h)
      best-same mode j (Some c) w = (
        bucket-back mode j c.start w.0,
        stands-same (bucket_mode j) c w.0.below w.1,
        λ t h. ahead-same (bucket_mode j) c.start t w.0.below h.below (w.2 t (bucket-same mode j t h)),
      )

      pub groups-same : (groups : Groups) → AreGroups far a version (n + 1) (n + 1) groups → AreGroups far b version (n + 1) (n + 1) groups
      groups-same groups w = λ mode j has. best-same mode j (groups mode j) (w mode j has)

-- ---- Segments up to a place in one of them

module _ (segments : List Segment) (i place : ℕ) (inside : i < length segments) where
  pub cut-length : length (cut_at segments i place) ≡ i + 1
  cut-length = let n = length-append (take i segments) (record (segment_at segments i) { end = place } ∷ []) in
      let m = length-take-le i segments (omega (arith, inside)) in omega (arith, n, m)

  pub cut-first : take i segments ≡ take i (cut_at segments i place)
  cut-first =
      let m = length-take-le i segments (omega (arith, inside)) in
      sym (ap (λ k. take k (cut_at segments i place)) (sym m) ∙ take-append_seam (take i segments) (record (segment_at segments i) { end = place } ∷ []))

  pub cut-last : segment_at (cut_at segments i place) i ≡ record (segment_at segments i) { end = place }
  cut-last =
      let m = length-take-le i segments (omega (arith, inside)) in
      ap (segment_at (cut_at segments i place)) (sym m) ∙ get_or-append_seam (take i segments) (record (segment_at segments i) { end = place }) [] _

  pub cut-groups : (far : ℕ) (version : Version) (groups : Groups) → AreGroups far segments version (i + 1) (i + 1) groups →
      AreGroups far (cut_at segments i place) version (i + 1) (i + 1) groups
  cut-groups far version groups =
      let last = cut-last in let long = cut-length in
      groups-same version segments (cut_at segments i place) i cut-first inside (omega (arith, long)) (ap (λ s. s.mode) (sym last))
      (ap (λ s. s.begin) (sym last)) far groups

-- Cut at the end of a segment they are the first segments.
pub cut-whole : (segments : List Segment) (i : ℕ) → i < length segments → cut_at segments i (segment_at segments i).end ≡ take (i + 1) segments
cut-whole segments i inside = sym (take_more segments i _ inside)

pub bits-whole : (version : Version) (segments : List Segment) (i : ℕ) → i < length segments →
    bits_before (cut_at segments i (segment_at segments i).end) version (i + 1) ≡ bits_before segments version (i + 1)
bits-whole version segments i inside =
    ap (λ xs. bits_before xs version (i + 1)) (cut-whole segments i inside)
    ∙ bits-same version (take (i + 1) segments) segments (i + 1) (take-take (i + 1) (i + 1) segments (omega arith)) (i + 1) (omega arith)

-- ---- A list in which the end of a segment is moved

abbrev pub moved_end : List Segment → ℕ → ℕ → List Segment
moved_end segments i place = set segments i (record (segment_at segments i) { end = place })

pub moved_again : (segments now : List Segment) (i e place : ℕ) → i < length segments → now ≡ moved_end segments i e →
    moved_end now i place ≡ moved_end segments i place
moved_again segments now i e place inside is =
    let at : segment_at now i ≡ record (segment_at segments i) { end = e } =
    ap (λ xs. segment_at xs i) is ∙ get_or-set_same segments i (record (segment_at segments i) { end = e }) _ inside in
    ap (λ s. set now i (record s { end = place })) at
    ∙ (ap (λ xs. set xs i (record (segment_at segments i) { end = place })) is
    ∙ set-set segments i (record (segment_at segments i) { end = e }) (record (segment_at segments i) { end = place }))

pub moved_cut : (segments now : List Segment) (i e place : ℕ) → i < length segments → now ≡ moved_end segments i e →
    take (i + 1) (moved_end now i place) ≡ cut_at segments i place
moved_cut segments now i e place inside is =
    ap (take (i + 1)) (moved_again segments now i e place inside is)
    ∙ take_more_set segments i (record (segment_at segments i) { end = place }) inside

pub moved_back : (segments now : List Segment) (i e : ℕ) → i < length segments → now ≡ moved_end segments i e →
    moved_end now i (segment_at segments i).end ≡ segments
moved_back segments now i e inside is =
    moved_again segments now i e (segment_at segments i).end inside is ∙ set-get_or segments i _

-- ---- Units

pub one_or_two : (m : Mode) → (unit_size m ≡ 1) ⊎ (unit_size m ≡ 2)
one_or_two m = grind arith

counted : (u k begin end : ℕ) → (u ≡ 1) ⊎ (u ≡ 2) → end ≡ begin + u * k → (end - begin) / u ≡ k
counted u k begin end (inl e) is = let at : end ≡ begin + 1 * k = rw e at is in rw e (omega (arith, at))
counted u k begin end (inr e) is = let at : end ≡ begin + 2 * k = rw e at is in rw e (omega (arith, at))

pub scaled : (u a b : ℕ) → (u ≡ 1) ⊎ (u ≡ 2) → a ≤ b → u * a ≤ u * b
scaled u a b (inl e) h = rw e (omega (arith, h))
scaled u a b (inr e) h = rw e (omega (arith, h))

-- a segment of whole units
pub counted_units : (segments : List Segment) (i unit k : ℕ) → unit ≡ unit_size (segment_at segments i).mode → 0 < k →
    IsUnitsIn segments i k (segment_at segments i).end →
    (0 < ((segment_at segments i).end - (segment_at segments i).begin) / unit)
    × ((segment_at segments i).begin + unit * (((segment_at segments i).end - (segment_at segments i).begin) / unit) ≡ (segment_at segments i).end)
counted_units segments i unit k is some w =
    let all : (segment_at segments i).end ≡ (segment_at segments i).begin + unit * k = rw is w.is in
    let n = counted unit k (segment_at segments i).begin (segment_at segments i).end (rw is (one_or_two (segment_at segments i).mode)) all in
    (rw n some, rw n (sym all))
