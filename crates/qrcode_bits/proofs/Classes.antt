-- A chosen plan decides for its version, and that of the last version of a class for the class.
use Rattle.qrcode_bits.proofs.Prelude.{◌≡◌, ℕ, zero, suc, ℤ, ◌+◌, ◌-◌, ◌*◌, ◌^◌, ◌<◌, ◌≤◌, List, [], ◌∷◌, length, ap, subst, arith, inl, inr, Result, Ok, Err}
use Rattle.qrcode_bits.proofs.Prelude.{All, Option, nat_abs, MatchOption, cases_lt, Version, EcLevel, Mode, QrError, DataTooLong, OutOfMemory, capacity}
use Rattle.qrcode_bits.proofs.Prelude.{HasMode, indicator, indicator_width, count_width, ◌%◌, one_shl, AreTexts, HasLinearCosts, IsChosenPlan, total_bits}
use Rattle.qrcode_bits.proofs.Prelude.{IsMergePlan, Fits, FitsNot, FitsNone, normal, IsLeastHolding, IsClass, Header, no_front, Front, front_bits, parsed_bytes}
use Rattle.qrcode_bits.proofs.Prelude.{IsChoice, max, sym, ◌∙◌, ◌⊎◌, normal_from, Stream, IsPlanStream, IsEncoding, IsUnencodable, IsEncodingRefused, HasHeader}
use Rattle.qrcode_bits.proofs.Prelude.{IsPartRefused, IsNormalNumber, LiesIn, common_steps, Segment, parsed, Numeric, Normal, Micro, micro, segment_at, ints}
use Rattle.qrcode_bits.proofs.Prelude.{get_or, rules, drop, drop_all, drop-cons, segment_bits, All-weaker, get_or_default}
use Rattle.qrcode_bits.specs.{Plans.IsMinVersionFrom, Plans.AreCandidates, Push.IsFrontRefused, Push.IsRangeRefused, Push.IsVersionRange}
use mir.Val.{to_z}
use mir.Syntax.{w16}
use Rattle.std.specs.Prelude.{Some, Bool, true, IsTrue, ◌↔◌}
use Rattle.qrcode_base.proofs.Fields.{capacity-held, SameClass}
use Rattle.qrcode_bits.proofs.Choices.{capacity-at, FitsNoneFrom, chosen_decides, fits_normal, capacity-grows, class_choice}
use Rattle.qrcode_bits.proofs.{CuttingPlans.chosen-planned, Adjoining.parsed-linear, Growth.total_bits-rise, Growth.total_bits-same}
use Rattle.qrcode_bits.proofs.Texts.{texts-reach, texts-plan, plan_lies}
pub use Rattle.qrcode_bits.proofs.Choices.{all_blocks}

-- ---- Costs are small

-- the version of a number that is cast
pub normal_is : (n : ℕ) → n ≤ 40 → ◌≡◌ {A = Version} (Normal (to_z w16 n)) (normal n)
normal_is n few = search (arith, rules, ints)

pub micro_is : (n : ℕ) → n ≤ 4 → ◌≡◌ {A = Version} (Micro (to_z w16 n)) (micro n)
micro_is n few = search (arith, rules, ints)

abbrev pub HasSmallHeaders : Version → Type 0
HasSmallHeaders v = (m : Mode) → indicator_width v + count_width v m ≤ 20

module _ (message : List ℕ) (v : Version) (small : HasSmallHeaders v) (short : length message ≤ 7089) where
  pub short-linear : HasLinearCosts (parsed message) v
  short-linear = parsed-linear message v (λ m. omega (arith, small m))

  texts-small : (from to : ℕ) (ss : List Segment) → AreTexts message from ss to → total_bits v ss ≤ 33 * (to - from)
  texts-small from to [] t = omega arith
  texts-small from to (s ∷ ss) t = grind (arith, texts-reach, texts-small s.end to ss t.3)

  pub plan_small : (plan : List Segment) → All (λ c. c < 256) message → IsMergePlan (parsed message) plan → total_bits v plan < 2 ^ 32
  plan_small plan are w = let few = texts-small 0 (length message) plan (texts-plan message are plan w) in omega arith

pub plan_ordered : (message : List ℕ) (plan : List Segment) → All (λ c. c < 256) message → IsMergePlan (parsed message) plan → All (λ s. s.begin ≤ s.end) plan
plan_ordered message plan are w = All-weaker (LiesIn (length message)) (λ s. s.begin ≤ s.end) (λ s h. h.0) plan (plan_lies message are plan w)

-- the bits of the parts that were counted and those of the parts that are left
module _ (v : Version) (items : List Segment) (i size front : ℕ) (so_far : size + total_bits v (drop i items) ≡ front + total_bits v items) where
  pub counted_more : (wide : ℕ) → i < length items → wide ≡ segment_bits v (segment_at items i) →
      size + wide + total_bits v (drop (i + 1) items) ≡ front + total_bits v items
  counted_more wide within is = grind (arith, drop-cons)

  pub counted_all : length items ≤ i → size ≡ front + total_bits v items
  counted_all past = grind (arith, drop_all)

-- each part begins before its end
pub part_ordered : (items : List Segment) (i : ℕ) → All (λ s. s.begin ≤ s.end) items → i < length items → (segment_at items i).begin ≤ (segment_at items i).end
part_ordered items i ordered within = ordered i (record { mode = Numeric; begin = 0; end = 0 }) within

-- ---- One version

pub known_limit : (o : Option ℕ) (limit : ℕ) (e : QrError) →
    MatchOption o (◌≡◌ {A = Result ℕ QrError} (Ok limit) (Err e)) (λ c. ◌≡◌ {A = Result ℕ QrError} (Ok limit) (Ok c)) → o ≡ Some limit
known_limit o limit e h = grind arith

module _ (front : ℕ) (message : List ℕ) (v : Version) (l : EcLevel) (plan : List Segment) (limit : ℕ)
    (chosen : IsChosenPlan (parsed message) v plan) (known : capacity v l ≡ Some limit) where
  -- the chosen plan fits,
  pub chosen_fits_here : All (λ part. HasMode v part.mode) plan → front + total_bits v plan ≤ limit → Fits front message v l plan
  chosen_fits_here has few = record { planned = chosen-planned (parsed message) v plan chosen; limit = limit; has_level = known; has_modes = has; within = few }

  -- or the version lacks a mode of it,
  pub lacks_mode : (All (λ part. HasMode v part.mode) plan → ⊥) → FitsNot front message v l
  lacks_mode lacks = chosen_decides front v l message plan chosen (λ fits. lacks fits.has_modes)

  -- or it takes too many bits.
  pub too_many : limit < front + total_bits v plan → FitsNot front message v l
  too_many over = chosen_decides front v l message plan chosen (λ fits.
      let equal : limit ≡ fits.limit = cc in
      let within = fits.within in omega arith)

-- a mode whose number is too great
pub lacks_number : (v : Version) (m : Mode) (n w : ℕ) → n ≡ indicator v m → w ≡ indicator_width v → w < 64 → 1 * 2 ^ w % 2 ^ 64 ≤ n →
    HasMode v m → ⊥
lacks_number v m n w is width narrow great has = grind (arith, one_shl w 64 narrow)

-- the version has the modes of all parts, if it has that of each
pub modes_all : (v : Version) (items : List Segment) (n : ℕ) → length items ≤ n → ((k : ℕ) → k < n → HasMode v (segment_at items k).mode) →
    All (λ part. HasMode v part.mode) items
modes_all v items n long each = grind (arith, get_or_default)

-- or lacks that of one
pub modes_lack : (v : Version) (items : List Segment) (i : ℕ) → i < length items → (HasMode v (segment_at items i).mode → ⊥) →
    All (λ part. HasMode v part.mode) items → ⊥
modes_lack v items i inside lacks has = grind arith

-- ---- A class of versions

-- what fits a version fits a later one of its class
fits_later : (front n m : ℕ) (message : List ℕ) (l : EcLevel) (plan : List Segment) → n ≤ m → m ≤ 40 → SameClass n m →
    Fits front message (normal n) l plan → Fits front message (normal m) l plan
fits_later front n m message l plan h most class w =
    let some : 1 ≤ n = (capacity-held l n w.limit w.has_level).0 in
    let c = capacity-at l m (omega arith) most in
    let grows = capacity-grows l n m w.limit c.0 h w.has_level c.1 in
    grind (arith, common_steps, total_bits-same, fits_normal)

-- If no plan fits the last version of a class, none fits any version of the class.
pub class_fits_not : (least front : ℕ) (message : List ℕ) (l : EcLevel) (before last : ℕ) → last ≤ 40 → IsClass before last →
    FitsNoneFrom least front message l before → FitsNot front message (normal last) l → FitsNoneFrom least front message l last
class_fits_not least front message l before last most class none unfit n from h plan w = elim (cases_lt before n) [
  | inl late ↦ unfit plan (fits_later front n last message l plan h most (class n late h) w)
  | inr early ↦ none n from early plan w
]

pub front_not : (message : List ℕ) (l : EcLevel) (last front bits : ℕ) (v : Version) → front ≡ bits → v ≡ normal last → FitsNot front message v l →
    FitsNot bits message (normal last) l
front_not message l last front bits v same e h =
    subst (λ (n : ℕ). FitsNot n message (normal last) l) same (subst (λ (u : Version). FitsNot front message u l) e h)

-- ---- The candidates

-- the one that comes next
pub candidates_here : (before limit : ℕ) (xs : List ℕ) (i : ℕ) → i < length xs → AreCandidates before (drop i xs) limit →
    AreCandidates before (get_or xs i 0 ∷ drop (i + 1) xs) limit
candidates_here before limit xs i h w = grind (arith, drop-cons)

-- none is left
pub candidates_end : (before limit : ℕ) (xs : List ℕ) (i : ℕ) → length xs ≤ i → AreCandidates before (drop i xs) limit → limit ≤ before
candidates_end before limit xs i h w = subst (λ (z : List ℕ). AreCandidates before z limit) (drop_all i xs h) w

-- What is known before a candidate: none from the least up to the one before it holds a plan.
pub record IsSearched (least front : ℕ) (message : List ℕ) (l : EcLevel) (limit : ℕ) (left : List ℕ) : Type 0 where
  pub before : ℕ
  pub first : least ≤ before + 1
  pub candidates : AreCandidates before left limit
  pub none : FitsNoneFrom least front message l before

-- ---- Plans

-- the bits of a plan that were counted
pub ruleset small_plans = (counted_more, counted_all, part_ordered)

-- the greater of two numbers
greater : (a b : ℕ) → (a ≤ max a b) × (b ≤ max a b) × ((max a b ≡ a) ⊎ (max a b ≡ b))
greater a b = grind arith

-- a plan of some class, found by its last version, after a number of bits in front
module _ (f : Front) (bytes message : List ℕ) (same : message ≡ parsed_bytes f.content bytes) (l : EcLevel) (least last front size : ℕ) (plan : List Segment)
    (v version : Version) (ahead : front ≡ length (front_bits f)) (is : v ≡ normal last) (chosen : IsChosenPlan (parsed message) v plan)
    (found : Fits front message v l plan) (counted : size ≡ front + total_bits v plan) (smallest : IsMinVersionFrom least size l version) where
  pub front_fits : Fits (length (front_bits f)) message (normal last) l plan
  front_fits = grind arith

  abbrev all_bits : ℕ
  all_bits = length (front_bits f) + total_bits (normal last) plan

  abbrev Least : Type 0
  Least = (number : ℕ) × (version ≡ normal (max least number)) × IsLeastHolding all_bits l number

  least_version : Least
  least_version = grind (arith, front_fits)

  module _ (from : 1 ≤ least) (most : last ≤ 40) (before : ℕ) (first : least ≤ before + 1) (after : before < last) (class : IsClass before last)
      (none : FitsNoneFrom least (length (front_bits f)) message l before) where
    abbrev held : ℕ
    held = least_version.0

    abbrev number : ℕ
    number = max least held

    planned : IsMergePlan (parsed message) plan
    planned = chosen-planned (parsed message) v plan chosen

    early : number ≤ last
    early = let h = least_version.2.least last front_fits.limit front_fits.has_level front_fits.within in
        let g = greater least held in omega (arith, h, g.2, first, after)

    -- no version before the class holds the bits
    late : before < number
    late = let g = greater least held in elim (cases_lt before held) [
      | inl k ↦ omega (arith, k, g.1)
      | inr k ↦ elim (cases_lt before least) [
        | inl b ↦ omega (arith, b, g.0)
        | inr b ↦ (let d = capacity-at l before (omega (arith, from, b)) (omega (arith, after, most)) in
            let grows = capacity-grows l held before least_version.2.limit d.0 k least_version.2.limit_is d.1 in
            let rise = total_bits-rise before last (omega (arith, from, b)) (omega (arith, after)) plan in
            absurd (none before b (omega arith) plan
            (fits_normal (length (front_bits f)) before d.0 message l plan planned d.1 (omega (arith, grows, rise, least_version.2.holds)))))
      ]
    ]

    -- its first version that holds them,
    holding : (d : ℕ) × (capacity (normal number) l ≡ Some d) × (all_bits ≤ d)
    holding = let g = greater least held in
        let d = capacity-at l number (omega (arith, from, g.0)) (omega (arith, early, most)) in
        (d.0, d.1, omega (arith, least_version.2.holds, capacity-grows l held number least_version.2.limit d.0 g.1 least_version.2.limit_is d.1))

    others : (n e : ℕ) → before < n → n < number → capacity (normal n) l ≡ Some e → e < all_bits
    others n e o k known = elim (cases_lt e all_bits) [
      | inl few ↦ few
      | inr enough ↦ (let h = least_version.2.least n e known enough in let g = greater least held in absurd (omega (arith, h, g.2, o, k, first)))
    ]

    -- The chosen plan of the last version of a class fits the least version that holds its bits and
    -- those of the front,
    pub class_fits : Fits (length (front_bits f)) message version l plan
    class_fits =
        let rise = total_bits-rise number last (omega (arith, from, (greater least held).0)) early plan in
        subst (λ (u : Version). Fits (length (front_bits f)) message u l plan) (sym least_version.1)
        (fits_normal (length (front_bits f)) number holding.0 message l plan planned holding.1 (omega (arith, rise, holding.2)))

    -- and is the choice there, if no plan fits a version before the class.
    pub class_encoding : (limit : ℕ) → last ≤ limit → (stream : Stream) → IsPlanStream f bytes version l plan stream →
        IsEncoding (normal_from least) f bytes l (limit - least) stream
    class_encoding limit within stream s =
        let up : least + (number - least) ≡ number = omega (arith, (greater least held).0) in
        record {
          number = number - least;
          plan = plan;
          choice = subst (λ (z : List ℕ). IsChoice (normal_from least) (length (front_bits f)) z l (limit - least) (number - least) plan) same
              (class_choice (length (front_bits f)) message l least before last plan first class none
              (subst (λ (u : Version). IsChosenPlan (parsed message) u plan) is chosen) limit number holding.0 within late early
              (omega (arith, from, (greater least held).0)) holding.1 holding.2 others);
          stream_is = subst (λ (w : Version). IsPlanStream f bytes w l plan stream)
              (least_version.1 ∙ ap (λ (n : ℕ). normal n) (sym up)) s;
        }

-- ---- The versions from 1 on

-- version 0 does not exist
no_first : (front : ℕ) (message : List ℕ) (l : EcLevel) → FitsNot front message (normal 0) l
no_first front message l plan w = let held = (capacity-held l 0 w.limit w.has_level).0 in absurd (omega (arith, held))

next_first : (front : ℕ) (message : List ℕ) (l : EcLevel) (n : ℕ) → FitsNot front message (normal_from 1 n) l → FitsNot front message (normal (suc n)) l
next_first front message l n none = let e : 1 + n ≡ suc n = omega arith in subst (λ (k : ℕ). FitsNot front message (normal k) l) e none

-- What fits none of the versions from 1 on fits none.
pub none_from_one : (front : ℕ) (message : List ℕ) (l : EcLevel) (limit : ℕ) → 1 ≤ limit → FitsNone (normal_from 1) front message l (limit - 1) →
    FitsNone normal front message l limit
none_from_one front message l limit some none zero h = no_first front message l
none_from_one front message l limit some none (suc n) h = next_first front message l n (none n (omega arith))

pub encoding_from_one : (f : Front) (bytes : List ℕ) (l : EcLevel) (limit : ℕ) (stream : Stream) → 1 ≤ limit →
    IsEncoding (normal_from 1) f bytes l (limit - 1) stream → IsEncoding normal f bytes l limit stream
encoding_from_one f bytes l limit stream some e = record {
  number = 1 + e.number;
  plan = e.plan;
  choice = record {
    up_to = omega (arith, e.choice.up_to, some);
    chosen = e.choice.chosen;
    fits = e.choice.fits;
    smallest = before e.choice.smallest;
    fewest = e.choice.fewest;
  };
  stream_is = e.stream_is;
} where
  before : ((n : ℕ) → n < e.number → FitsNot (length (front_bits f)) (parsed_bytes f.content bytes) (normal_from 1 n) l) →
      (n : ℕ) → n < 1 + e.number → FitsNot (length (front_bits f)) (parsed_bytes f.content bytes) (normal n) l
  before none zero h = no_first (length (front_bits f)) (parsed_bytes f.content bytes) l
  before none (suc n) h = next_first (length (front_bits f)) (parsed_bytes f.content bytes) l n (none n (omega arith))

pub refused_from_one : (front : ℕ) (message : List ℕ) (l : EcLevel) (limit : ℕ) (e : QrError) → 1 ≤ limit →
    IsUnencodable (normal_from 1) front message l (limit - 1) e → IsUnencodable normal front message l limit e
refused_from_one front message l limit DataTooLong some none = none_from_one front message l limit some none
refused_from_one front message l limit OutOfMemory some few = few
refused_from_one front message l limit other some none = none

-- ---- Errors

pub refused_front : (f : Front) (bytes : List ℕ) (l : EcLevel) (z : ℤ) (n : ℕ) (e : QrError) → IsNormalNumber z → n ≡ nat_abs z →
    IsUnencodable normal (length (front_bits f)) (parsed_bytes f.content bytes) l n e → IsFrontRefused f bytes l z e
refused_front f bytes l z n e h same r =
    let s = subst (λ (k : ℕ). IsUnencodable normal (length (front_bits f)) (parsed_bytes f.content bytes) l k e) same r in grind (arith, s)

pub refused_limit : (message : List ℕ) (l : EcLevel) (z : ℤ) (n : ℕ) (e : QrError) → IsNormalNumber z → n ≡ nat_abs z → IsUnencodable normal 0 message l n e →
    IsEncodingRefused message l z e
refused_limit message l z n e h same r = refused_front no_front message l z n e h same r

pub refused_range : (f : Front) (bytes : List ℕ) (l : EcLevel) (y z : ℤ) (n m : ℕ) (e : QrError) → IsVersionRange y z → n ≡ nat_abs y → m ≡ nat_abs z →
    IsUnencodable (normal_from n) (length (front_bits f)) (parsed_bytes f.content bytes) l (m - n) e → IsRangeRefused f bytes l y z e
refused_range f bytes l y z n m e h from to r =
    let first = subst (λ (k : ℕ). IsUnencodable (normal_from k) (length (front_bits f)) (parsed_bytes f.content bytes) l (m - k) e) from r in
    let s = subst (λ (k : ℕ). IsUnencodable (normal_from (nat_abs y)) (length (front_bits f)) (parsed_bytes f.content bytes) l (k - nat_abs y) e) to first in
    grind (arith, s)

pub refused_part : (header : Header) (message : List ℕ) (l : EcLevel) (z : ℤ) (n front : ℕ) (e : QrError) → IsNormalNumber z →
    HasHeader (normal (nat_abs z)) (Some header) → n ≡ nat_abs z → front ≡ 20 →
    IsUnencodable normal front message l n e → IsPartRefused header message l z e
refused_part header message l z n front e h p same size r =
    let s = subst (λ (f : ℕ). IsUnencodable normal f message l (nat_abs z) e) size (subst (λ (k : ℕ). IsUnencodable normal front message l k e) same r) in
    grind (arith, s)

pub limit_of : (z y : ℤ) (is : Bool) → y ≡ z → IsTrue is ↔ IsNormalNumber y → is ≡ true → IsNormalNumber z
limit_of z y is e test found = subst IsNormalNumber e (test.0 found)
