-- The longest parts that fit are the fewest.
use Rattle.qrcode_core.proofs.Prelude.{◌≡◌, ℕ, zero, suc, ◌+◌, ◌-◌, ◌<◌, ◌≤◌, List, [], ◌∷◌, ◌++◌, length, refl, sym, ap, ◌∙◌, subst, arith, inl, inr}
use Rattle.qrcode_core.proofs.Prelude.{append_assoc}
use Rattle.qrcode_core.proofs.Prelude.{get_or, length-append, All, EcLevel, normal, parsed_bytes, slice_range}
use Rattle.std.proofs.lemmas.List.{append-nil, take_all, length-drop}
use Rattle.std.proofs.lemmas.List.Elements.{All-cons, All-drop, All-nil, All-take}
use Rattle.qrcode_core.proofs.Prelude.{drop, take, parts_from}
use Rattle.qrcode_core.specs.Sequence.{IsSomePartTooLong}
use Rattle.std.proofs.lemmas.Bool.{cases_lt}
use Rattle.std.specs.Prelude.{◌≢◌, slice_index_or}
use Rattle.qrcode_bits.specs.Contents.{content_bits}
use Rattle.qrcode_bits.specs.Places.{IsCutPlace, AreCutPlaces, IsUnitEnd}
use Rattle.qrcode_bits.specs.Plans.{FitsNone, FitsNot}
use Rattle.qrcode_bits.specs.declared.bits.front.Content.{Content}
use Rattle.qrcode_bits.specs.declared.bits.front.Content.TheVariants.{Bytes, Text, Elements}
use Rattle.qrcode_bits.proofs.Cutting.{within_content, start_place, end_place, place_within, place_between, empty_fits}
use Rattle.qrcode_core.proofs.Prelude.{◌*◌, Header, ℤ, nat_abs, capacity, Version, Normal}
use Rattle.qrcode_base.specs.Symbols.{IsNormalNumber}
use Rattle.std.specs.Prelude.{◌/◌, min}
use Rattle.qrcode_core.proofs.Prelude.{common_steps}
use Rattle.std.proofs.Common.{Some}
use Rattle.qrcode_bits.specs.Frame.{Front, front_of, front_bits}
use Rattle.qrcode_bits.proofs.{Lengths.dense_message, Lengths.long_message, Choices.capacity-grows, Texts.length-slice, Contents.length-parsed}
use Rattle.qrcode_bits.proofs.{Contents.parsed-bytes}
use Rattle.qrcode_core.proofs.NoneBetter.{front-long}
use Rattle.qrcode_core.specs.BestCuts.{IsPartTooLong, AreFittingCuts, AreBestCuts}

-- ---- Places by their index

module _ (c : Content) (message places : List ℕ) (are : AreCutPlaces c message places) where
  abbrev place : ℕ → ℕ
  place i = slice_index_or places i 0

  pub places_order : (i j : ℕ) → i ≤ j → j < length places → place i ≤ place j
  places_order i j h k = elim (cases_lt i j) [
    | inl less ↦ (let w = are.increasing i j less k in omega (arith, w))
    | inr past ↦ (let e : i ≡ j = omega (arith, h, past) in subst (λ n. place i ≤ place n) e (omega arith))
  ]

  pub is_place : (i : ℕ) → i < length places → IsCutPlace c message (place i)
  is_place i h = (are.each i h).0

  pub place_inside : (i : ℕ) → i < length places → place i ≤ length message
  place_inside i h = let w = are.each i h in omega (arith, w.1)

  module _ (other : c ≢ Elements) where
    start : (i : ℕ) × (i < length places) × (place i ≡ 0)
    start = are.all 0 (start_place c message other) (omega arith)

    end : (i : ℕ) × (i < length places) × (place i ≡ length message)
    end = are.all (length message) (end_place c message other) (omega arith)

    pub some_place : 0 < length places
    some_place = let w = start in omega (arith, w.1)

    pub first_place : place 0 ≡ 0
    first_place = let w = start in let o = places_order 0 w.0 (omega arith) w.1 in omega (arith, o, w.2)

    pub last_place : (i : ℕ) → i + 1 ≡ length places → place i ≡ length message
    last_place i h =
        let w = end in let o = places_order w.0 i (omega (arith, w.1, h)) (omega (arith, h)) in
        let most = place_inside i (omega (arith, h)) in omega (arith, o, w.2, most)

-- ---- Parts

-- What is known before the part that begins at the place of index `first`, after `n` cuts.
pub record IsCutUpTo (c : Content) (message : List ℕ) (level : EcLevel) (limit : ℕ) (places : List ℕ) (first n : ℕ) (cuts : List ℕ) : Type 0 where
  pub count : length cuts ≡ n
  pub inside : first < length places
  pub before : (ending : List ℕ) → AreFittingCuts c message level limit (slice_index_or places first 0) ending →
      AreFittingCuts c message level limit 0 (cuts ++ ending)
  pub others : (more : List ℕ) → AreFittingCuts c message level limit 0 more →
      (rest : List ℕ) × AreFittingCuts c message level limit (slice_index_or places first 0) rest × (length rest + n ≤ length more)

module _ (c : Content) (message : List ℕ) (level : EcLevel) (limit : ℕ) (other : c ≢ Elements) where
  abbrev TooLong : ℕ → ℕ → Type 0
  TooLong = IsPartTooLong c message level limit

  abbrev Fitting : ℕ → List ℕ → Type 0
  Fitting = AreFittingCuts c message level limit

  part_within : (p q r s : ℕ) → p ≤ q → q ≤ r → r ≤ s → IsCutPlace c message p → IsCutPlace c message q → IsCutPlace c message r → IsCutPlace c message s →
      TooLong q r → TooLong p s
  part_within p q r s = within_content c (20 + length (content_bits c)) limit level message p q r s

  pub later_too_long : (p r s : ℕ) → p ≤ r → r ≤ s → IsCutPlace c message p → IsCutPlace c message r → IsCutPlace c message s → TooLong p r → TooLong p s
  later_too_long p r s h k a b d = part_within p p r s (omega arith) h k a a b d

  -- cuts from a place on, from a later place on
  later_cuts : (d e : ℕ) → d ≤ e → IsCutPlace c message d → IsCutPlace c message e → (cuts : List ℕ) → Fitting d cuts →
      (rest : List ℕ) × Fitting e rest × (length rest ≤ length cuts)
  later_cuts d e h a b [] fit =
      let most = place_within c message e b in let end = end_place c message other in
      ([], (λ long. fit (part_within d e (length message) (length message) h most (omega arith) a b end end long)), omega arith)
  later_cuts d e h a b (x ∷ xs) fit = elim (cases_lt e x) [
    | inl less ↦ (
      x ∷ xs,
      (
        omega (arith, less),
        fit.1,
        (λ long. fit.2 (part_within d e x x h (omega (arith, less))
            (omega arith) a b fit.1 fit.1 long)),
        fit.3,
      ),
      omega arith,
    )
    | inr past ↦ (let w = later_cuts x e past fit.1 b xs fit.3 in (w.0, w.1, omega (arith, w.2)))
  ]

  module _ (places : List ℕ) (are : AreCutPlaces c message places) where
    pub nothing_cut : IsCutUpTo c message level limit places 0 0 []
    nothing_cut =
        let zero_is = first_place c message places are other in
        record {
          count = refl;
          inside = some_place c message places are other;
          before = λ ending h. subst (λ p. Fitting p ending) zero_is h;
          others = λ more h. (more, subst (λ p. Fitting p more) (sym zero_is) h, omega arith);
        }

    module _ (first last n : ℕ) (cuts : List ℕ) (known : IsCutUpTo c message level limit places first n cuts) (from : first ≤ last)
        (inside : last < length places)
        (fits : TooLong (slice_index_or places first 0) (slice_index_or places last 0) → ⊥)
        (longest : (later : ℕ) → last < later → later < length places → TooLong (slice_index_or places first 0) (slice_index_or places later 0)) where
      -- other cuts have one more cut up to the end of the longest part
      one_less : last + 1 < length places → (more : List ℕ) → Fitting (slice_index_or places first 0) more →
          (rest : List ℕ) × Fitting (slice_index_or places last 0) rest × (length rest + 1 ≤ length more)
      one_less before_end [] fit =
          let end : (length places - 1) + 1 ≡ length places = omega (arith, inside) in
          let is = last_place c message places are other (length places - 1) end in
          absurd (fit (subst (λ p. TooLong (slice_index_or places first 0) p) is (longest (length places - 1) (omega (arith, before_end))
          (omega (arith, inside)))))
      one_less before_end (x ∷ xs) fit =
          let at = are.all x fit.1 (let w = place_within c message x fit.1 in omega (arith, w)) in
          elim (cases_lt last at.0) [
            | inl later ↦ absurd (fit.2 (subst (λ p. TooLong (slice_index_or places first 0) p) at.2 (longest at.0 later at.1)))
            | inr up_to ↦ (let o = places_order c message places are at.0 last up_to inside in
                let w = later_cuts x (slice_index_or places last 0) (subst (λ p. p ≤ slice_index_or places last 0) at.2 o) fit.1
                (is_place c message places are last inside) xs fit.3 in (w.0, w.1, omega (arith, w.2)))
          ]

      pub one_cut : last + 1 < length places → IsCutUpTo c message level limit places last (n + 1) (cuts ++ slice_index_or places last 0 ∷ [])
      one_cut before_end = record {
        count = length-append cuts (slice_index_or places last 0 ∷ []) ∙ ap (λ k. k + 1) known.count;
        inside = inside;
        before = λ ending h. subst (Fitting 0) (sym (append_assoc cuts (slice_index_or places last 0 ∷ []) ending))
            (known.before (slice_index_or places last 0 ∷ ending)
            (places_order c message places are first last from inside, is_place c message places are last inside, fits, h));
        others = λ more h. (let w = known.others more h in let r = one_less before_end w.0 w.1 in (r.0, r.1, omega (arith, w.2, r.2)));
      }

      pub all_cut : n < 16 → last + 1 ≡ length places → AreBestCuts c message level limit cuts
      all_cut few end =
          let is = last_place c message places are other last end in
          record {
            fitting = subst (Fitting 0) (append-nil cuts) (known.before [] (subst (λ p. TooLong (slice_index_or places first 0) p → ⊥) is fits));
            few = omega (arith, known.count, few);
            fewest = λ more h. (let w = known.others more h in omega (arith, w.2, known.count));
          }

    -- A part that takes nothing, where places are left, has no cuts after it.
    module _ (first last n : ℕ) (cuts : List ℕ) (known : IsCutUpTo c message level limit places first n cuts) (same : last ≡ first)
        (longest : (later : ℕ) → last < later → later < length places → TooLong (slice_index_or places first 0) (slice_index_or places later 0))
        (before_end : last + 1 < length places) where
      nothing_fits : (more : List ℕ) → Fitting (slice_index_or places first 0) more → ⊥
      nothing_fits [] fit =
          let is = last_place c message places are other (length places - 1) (omega (arith, before_end)) in
          fit (subst (λ p. TooLong (slice_index_or places first 0) p) is (longest (length places - 1) (omega (arith, before_end)) (omega (arith, before_end))))
      nothing_fits (x ∷ xs) fit =
          let at = are.all x fit.1 (let w = place_within c message x fit.1 in omega (arith, w)) in
          elim (cases_lt last at.0) [
            | inl later ↦ fit.2 (subst (λ p. TooLong (slice_index_or places first 0) p) at.2 (longest at.0 later at.1))
            | inr up_to ↦ (let o = places_order c message places are at.0 first (omega (arith, up_to, same)) known.inside in
                let e : x ≡ slice_index_or places first 0 = omega (arith, o, at.2, fit.0) in
                nothing_fits xs (subst (λ p. Fitting p xs) e fit.3))
          ]

      pub none_at_all : (more : List ℕ) → Fitting 0 more → 16 ≤ length more
      none_at_all more h = let w = known.others more h in absurd (nothing_fits w.0 w.1)

    pub none_left : (first n : ℕ) (cuts : List ℕ) → IsCutUpTo c message level limit places first n cuts → 16 ≤ n → (more : List ℕ) → Fitting 0 more →
        16 ≤ length more
    none_left first n cuts known many more h = let w = known.others more h in omega (arith, w.2, many)

-- ---- Whether a part fits

module _ (f : Front) (h : Header) (c : Content) (part : List ℕ) (level : EcLevel) (is : f ≡ front_of (Some h) c) where
  long : length (front_bits f) ≡ 20 + length (content_bits c)
  long = ap (λ (g : Front). length (front_bits g)) is ∙ front-long h c

  same : f.content ≡ c
  same = ap (λ (g : Front). g.content) is

  pub none_of_front : (limit : ℕ) → FitsNone normal (20 + length (content_bits c)) (parsed_bytes c part) level limit →
      FitsNone normal (length (front_bits f)) (parsed_bytes f.content part) level limit
  none_of_front limit none =
      subst (λ (n : ℕ). FitsNone normal n (parsed_bytes f.content part) level limit) (sym long)
      (subst (λ (d : Content). FitsNone normal (20 + length (content_bits c)) (parsed_bytes d part) level limit) (sym same) none)

  pub none_of_part : (limit : ℕ) → FitsNone normal (length (front_bits f)) (parsed_bytes f.content part) level limit →
      FitsNone normal (20 + length (content_bits c)) (parsed_bytes c part) level limit
  none_of_part limit none =
      subst (λ (d : Content). FitsNone normal (20 + length (content_bits c)) (parsed_bytes d part) level limit) same
      (subst (λ (n : ℕ). FitsNone normal n (parsed_bytes f.content part) level limit) long none)

-- ---- A message that is too long for any cuts

module _ (c : Content) (message : List ℕ) (level : EcLevel) (limit : ℕ) (last : limit ≤ 40) (are : All (λ b. b < 256) message) where
  long_part : (p q : ℕ) → p ≤ q → q ≤ length message → p + 7089 < q → IsPartTooLong c message level limit p q
  long_part p q h k more =
      long_message (20 + length (content_bits c)) (parsed_bytes c (slice_range message p q)) level limit last
      (parsed-bytes c (slice_range message p q) (All-take (λ b. b < 256) (q - p) (drop p message) (All-drop (λ b. b < 256) p message are)))
      (let size = length-slice message p q h k in omega (arith, length-parsed c (slice_range message p q), size, more))

  short_part : (p q : ℕ) → p ≤ q → q ≤ length message → (IsPartTooLong c message level limit p q → ⊥) → q ≤ p + 7089
  short_part p q h k fit = elim (cases_lt (p + 7089) q) [
    | inl more ↦ absurd (fit (long_part p q h k more))
    | inr few ↦ few
  ]

  few_bytes : (from : ℕ) (cuts : List ℕ) → from ≤ length message → AreFittingCuts c message level limit from cuts →
      length message ≤ from + 7089 * (length cuts + 1)
  few_bytes from [] h fit = let most = short_part from (length message) h (omega arith) fit in omega (arith, most)
  few_bytes from (x ∷ xs) h fit =
      let inside = place_within c message x fit.1 in
      let most = short_part from x fit.0 inside fit.2 in
      let rest = few_bytes x xs inside fit.3 in omega (arith, most, rest)

  pub many_cuts : 16 * 7089 < length message → (cuts : List ℕ) → AreFittingCuts c message level limit 0 cuts → 16 ≤ length cuts
  many_cuts more cuts fit = let few = few_bytes 0 cuts (omega arith) fit in omega (arith, few, more)

-- ---- Where the search begins

pub is_normal : (z : ℤ) → IsNormalNumber z → ◌≡◌ {A = Version} (Normal z) (normal (nat_abs z))
is_normal z h = grind arith

-- No mode takes fewer than ten bits for three bytes.
pub dense_none : (level : EcLevel) (limit d : ℕ) → limit ≤ 40 → capacity (normal limit) level ≡ Some d →
    (front : ℕ) (bytes : List ℕ) → All (λ b. b < 256) bytes →
    (d / 10 + 1) * 3 ≤ length bytes → FitsNone normal front bytes level limit
dense_none level limit d last known front bytes are long n few plan w =
    let grows = capacity-grows level n limit w.limit d few w.has_level known in
    dense_message front bytes (normal n) level w.limit are w.has_level (omega (arith, grows, long)) plan w

pub far_none : (level : EcLevel) (limit size : ℕ) → limit ≤ 40 → ((front : ℕ) (bytes : List ℕ) → All (λ b. b < 256) bytes → size ≤ length bytes →
    FitsNone normal front bytes level limit) → (front : ℕ) (bytes : List ℕ) → All (λ b. b < 256) bytes → min size 7090 ≤ length bytes →
    FitsNone normal front bytes level limit
far_none level limit size last far front bytes are long = elim (cases_lt 7089 (length bytes)) [
  | inl more ↦ long_message front bytes level limit last are more
  | inr few ↦ far front bytes are (omega (arith, long, few))
]

-- what is some bytes after a place comes after it
pub past_first : (first index p size : ℕ) → 1 ≤ size → (index ≤ first → p + size ≤ p) → first < index
past_first first index p size some far = elim (cases_lt first index) [ inl less ↦ less | inr past ↦ (let w = far past in omega (arith, w, some)) ]

-- What is known of the parts within a window: up to `sure` bytes they fit, from `unsure` bytes on
-- they do not, and none ends between.
pub record IsWindow (c : Content) (window : List ℕ) (level : EcLevel) (limit sure unsure : ℕ) : Type 0 where
  pub fits : (q : ℕ) → IsUnitEnd (parsed_bytes c window) q → q ≤ sure →
      FitsNone normal (20 + length (content_bits c)) (take q (parsed_bytes c window)) level limit → ⊥
  pub too_long : (q : ℕ) → IsUnitEnd (parsed_bytes c window) q → unsure ≤ q →
      FitsNone normal (20 + length (content_bits c)) (take q (parsed_bytes c window)) level limit
  pub close : (q : ℕ) → IsUnitEnd (parsed_bytes c window) q → sure < q → q < unsure → ⊥

no_bytes : (c : Content) (message : List ℕ) (p : ℕ) → parsed_bytes c (slice_range message p p) ≡ []
no_bytes c message p = let none : p - p ≡ 0 = omega arith in rw none (no_more c) where
  no_more : (c : Content) → parsed_bytes c (take 0 (drop p message)) ≡ []
  no_more Bytes = refl
  no_more Text = refl
  no_more Elements = refl

-- A part of no bytes fits.
pub nothing_is_short : (c : Content) (message : List ℕ) (level : EcLevel) (limit p : ℕ) → 1 ≤ limit → IsPartTooLong c message level limit p p → ⊥
nothing_is_short c message level limit p some long =
    empty_fits c level
    (λ n few. subst (λ z. FitsNot (20 + length (content_bits c)) z (normal n) level) (no_bytes c message p) (long n (omega (arith, few, some))))

module _ (c : Content) (message : List ℕ) (level : EcLevel) (limit : ℕ) (valid : All (λ b. b < 256) message) (places : List ℕ)
    (are : AreCutPlaces c message places) (first end : ℕ) (from : first ≤ end) (inside : end < length places)
    (size : ℕ) (longer : (i : ℕ) → end < i → i < length places → slice_index_or places first 0 + size ≤ slice_index_or places i 0)
    (far : (front : ℕ) (bytes : List ℕ) → All (λ b. b < 256) bytes → size ≤ length bytes → FitsNone normal front bytes level limit) where
  abbrev at : ℕ → ℕ
  at i = slice_index_or places i 0

  abbrev window : List ℕ
  window = slice_range message (at first) (at end)

  abbrev TooLongAt : ℕ → Type 0
  TooLongAt i = IsPartTooLong c message level limit (at first) (at i)

  -- parts that end past the window
  past_window : (i : ℕ) → end < i → i < length places → TooLongAt i
  past_window i beyond k =
      let p = places_order c message places are first i (omega (arith, from, beyond)) k in
      let q = place_inside c message places are i k in
      let long = length-slice message (at first) (at i) p q in
      far (20 + length (content_bits c)) (parsed_bytes c (slice_range message (at first) (at i)))
      (parsed-bytes c (slice_range message (at first) (at i)) (All-take (λ b. b < 256) (at i - at first) (drop (at first) message)
      (All-drop (λ b. b < 256) (at first) message valid)))
      (omega (arith, length-parsed c (slice_range message (at first) (at i)), long, longer i beyond k))

  -- the part up to a place in the window
  in_window : (i : ℕ) → first ≤ i → i ≤ end →
      IsUnitEnd (parsed_bytes c window) (at i - at first) ×
      (take (at i - at first) (parsed_bytes c window) ≡ parsed_bytes c (slice_range message (at first) (at i)))
  in_window i h k =
      place_between c message (at first) (at i) (at end) (places_order c message places are first i h (omega (arith, k, inside)))
      (places_order c message places are i end k inside) (is_place c message places are first (omega (arith, h, k, inside)))
      (is_place c message places are i (omega (arith, k, inside))) (is_place c message places are end inside)

  module _ (sure unsure : ℕ) (known : IsWindow c window level limit sure unsure) (last : ℕ) (some : first ≤ last) (up_to : last ≤ end) where
    pub window_fits : at last ≤ at first + sure → TooLongAt last → ⊥
    window_fits near long =
        let w = in_window last some up_to in
        known.fits (at last - at first) w.0 (omega (arith, near))
        (subst (λ z. FitsNone normal (20 + length (content_bits c)) z level limit) (sym w.1) long)

    pub window_last : ((i : ℕ) → last < i → i ≤ end → at first + sure < at i) → (i : ℕ) → last < i → i < length places → TooLongAt i
    window_last past i h k = elim (cases_lt end i) [
      | inl beyond ↦ past_window i beyond k
      | inr within ↦ (let w = in_window i (omega (arith, some, h)) within in
          let far = past i h within in
          subst (λ z. FitsNone normal (20 + length (content_bits c)) z level limit) w.1 (elim (cases_lt (at i - at first) unsure) [
            | inl less ↦ absurd (known.close (at i - at first) w.0 (omega (arith, far)) less)
            | inr more ↦ known.too_long (at i - at first) w.0 more
          ]))
    ]

-- ---- Best cuts are cuts that a sequence takes

rest_whole : (from : ℕ) (message : List ℕ) → slice_range message from (length message) ≡ drop from message
rest_whole from message = grind (arith, common_steps, take_all, length-drop)

module _ (c : Content) (message : List ℕ) (level : EcLevel) (limit : ℕ) where
  pub cuts_within : (from : ℕ) (cuts : List ℕ) → AreFittingCuts c message level limit from cuts → All (λ cut. IsCutPlace c message cut) cuts
  cuts_within from [] h = All-nil (λ cut. IsCutPlace c message cut)
  cuts_within from (x ∷ xs) h = All-cons (λ cut. IsCutPlace c message cut) x xs h.1 (cuts_within x xs h.3)

  pub cuts_short : (from : ℕ) (cuts : List ℕ) → AreFittingCuts c message level limit from cuts → All (λ cut. cut ≤ length message) cuts
  cuts_short from [] h = All-nil (λ cut. cut ≤ length message)
  cuts_short from (x ∷ xs) h = All-cons (λ cut. cut ≤ length message) x xs (place_within c message x h.1) (cuts_short x xs h.3)

  at_least : (from : ℕ) (cuts : List ℕ) → AreFittingCuts c message level limit from cuts → (i d : ℕ) → i < length cuts → from ≤ get_or cuts i d
  at_least from [] h i d k = absurd (omega (arith, k))
  at_least from (x ∷ xs) h zero d k = h.0
  at_least from (x ∷ xs) h (suc i) d k = let w = at_least x xs h.3 i d (omega (arith, k)) in omega (arith, w, h.0)

  pub cuts_ordered : (from : ℕ) (cuts : List ℕ) → AreFittingCuts c message level limit from cuts → (i j d : ℕ) → i ≤ j → j < length cuts →
      get_or cuts i d ≤ get_or cuts j d
  cuts_ordered from [] h i j d k l = absurd (omega (arith, l))
  cuts_ordered from (x ∷ xs) h zero zero d k l = omega arith
  cuts_ordered from (x ∷ xs) h zero (suc j) d k l = at_least x xs h.3 j d (omega (arith, l))
  cuts_ordered from (x ∷ xs) h (suc i) zero d k l = absurd (omega (arith, k))
  cuts_ordered from (x ∷ xs) h (suc i) (suc j) d k l = cuts_ordered x xs h.3 i j d (omega (arith, k)) (omega (arith, l))

  parts_fit : (from : ℕ) (cuts : List ℕ) → AreFittingCuts c message level limit from cuts → (i : ℕ) → i < length cuts + 1 →
      FitsNone normal (20 + length (content_bits c)) (parsed_bytes c (slice_index_or (parts_from from cuts message) i [])) level limit → ⊥
  parts_fit from [] h zero k none = h (subst (λ z. FitsNone normal (20 + length (content_bits c)) (parsed_bytes c z) level limit)
      (sym (rest_whole from message)) none)
  parts_fit from [] h (suc i) k none = omega (arith, k)
  parts_fit from (x ∷ xs) h zero k none = h.2 none
  parts_fit from (x ∷ xs) h (suc i) k none = parts_fit x xs h.3 i (omega (arith, k)) none

  pub none_past : (cuts : List ℕ) → AreFittingCuts c message level limit 0 cuts → IsSomePartTooLong c message cuts level limit → ⊥
  none_past cuts h long = parts_fit 0 cuts h long.0 long.1 long.2
