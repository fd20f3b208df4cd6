-- The version that bytes take: plans take the same bits in each version of a class.
use Rattle.std.proofs.Common.{◌≡◌, ℕ, ◌+◌, ◌-◌, ◌<◌, ◌≤◌, Bool, false, List, length, inl, inr, refl}
use Rattle.std.proofs.Common.{subst, arith}
use Rattle.std.specs.Prelude.{◌↔◌, All, IsTrue}
use Rattle.std.proofs.lemmas.Bool.{cases_lt}
use Rattle.qrcode_base.proofs.Fields.{SameClass}
use Rattle.qrcode_base.specs.declared.types.EcLevel.{EcLevel}
use Rattle.qrcode_base.specs.declared.types.Version.{Version}
use Rattle.qrcode_bits.specs.Contents.{parsed_bytes}
use Rattle.qrcode_bits.specs.Parsing.{parsed}
use Rattle.qrcode_bits.specs.Plans.{IsChosenPlan, IsClass, IsMergePlan, normal, normal_from}
use Rattle.qrcode_bits.specs.Plans.{total_bits}
use Rattle.qrcode_bits.specs.Spelling.{LiesIn, segment_pieces}
use Rattle.qrcode_bits.specs.declared.bits.front.Content.TheVariants.{Text}
use Rattle.qrcode_bits.specs.declared.optimize.Segment.{Segment}
use Rattle.qrcode_bits.proofs.Choices.{capacity-at}
use Rattle.qrcode_bits.proofs.Classes.{class_fits_not}
use Rattle.qrcode_bits.proofs.CuttingPlans.{chosen-least, chosen-planned}
use Rattle.qrcode_bits.proofs.Contents.{length-parsed, parsed-bytes}
use Rattle.qrcode_bits.proofs.Growth.{total_bits-same}
use Rattle.qrcode_bits.proofs.Lengths.{long_message}
use Rattle.qrcode_bits.proofs.Texts.{plan_lies}
use Rattle.smallest_symbols.specs.Holding.{HoldsBits, IsFirstHolding, NoneHoldsBefore}
use Rattle.smallest_symbols.specs.ByteChoices.{AreFewestBits, AreNeeded, IsByteChoice}
use Rattle.smallest_symbols.specs.ByteChoices.{NoPiecesFitBefore}
use Rattle.smallest_symbols.specs.BytePieces.{NoPiecesFit, NoPiecesFitUpTo, bits_of_pieces}
use Rattle.smallest_symbols.proofs.BytePlans.{fits_plan, pieces_plan, plan_pieces, plan_size}

-- ---- The chosen plan of the last version of a class, which is given as it is cast

turn : (a b : ℕ) → SameClass a b → SameClass b a
turn a b q = grind arith

module _ (bytes : List ℕ) (are : All (λ b. b < 256) bytes) (level : EcLevel) (least first last bits : ℕ) (plan : List Segment) (v : Version)
    (is : v ≡ normal last) (chosen : IsChosenPlan (parsed (parsed_bytes Text bytes)) v plan) (long : bits ≡ total_bits v plan)
    (some : 1 ≤ first) (class : IsClass (first - 1) last) (none : NoPiecesFitBefore least bytes level first) where
  planned : IsMergePlan (parsed (parsed_bytes Text bytes)) plan
  planned = chosen-planned (parsed (parsed_bytes Text bytes)) v plan chosen

  -- In a version of the class the plan takes as many bits,
  same_bits : (n : ℕ) → first ≤ n → n ≤ last → bits ≡ total_bits (normal n) plan
  same_bits n from to =
      let here : bits ≡ total_bits (normal last) plan = subst (λ (u : Version). bits ≡ total_bits u plan) is long in
      let same = total_bits-same n last (omega (arith, some, from)) (omega (arith, some, from, to)) (class n (omega (arith, some, from)) to) plan in
      omega (arith, here, same)

  -- and no pieces take fewer.
  few : (n : ℕ) → first ≤ n → n ≤ last → AreFewestBits (normal n) bytes bits
  few n from to pieces w =
      let other = pieces_plan (normal n) bytes pieces w in
      let here = subst (λ (u : Version). IsChosenPlan (parsed (parsed_bytes Text bytes)) u plan) is chosen in
      let best = chosen-least (parsed (parsed_bytes Text bytes)) (normal last) plan other.0 here other.1 in
      let size : bits ≡ total_bits (normal last) plan = subst (λ (u : Version). bits ≡ total_bits u plan) is long in
      let same = total_bits-same n last (omega (arith, some, from)) (omega (arith, some, from, to)) (class n (omega (arith, some, from)) to) other.0 in
      omega (arith, best, size, same, other.2)

  -- Where no version of the class holds the bits, no pieces fit any.
  pub class_unfit : (end : ℕ) → end ≤ last + 1 → NoneHoldsBefore bits level first end → NoPiecesFitBefore least bytes level end
  class_unfit end within holds n from below pieces w = elim (cases_lt n first) [
    | inl early ↦ none n from early pieces w
    | inr late ↦ (let size = few n late (omega (arith, below, within)) pieces w.pieces_are in
        holds n late below (w.limit, w.has_level, omega (arith, size, w.within)))
  ]

  -- The first version of the class that holds them is the choice.
  module _ (limit number : ℕ) (order : least ≤ first) (most : last ≤ limit) (h : IsFirstHolding bits level first (last + 1) number) where
    here_bits : bits ≡ total_bits (normal number) plan
    here_bits = same_bits number h.from (omega (arith, h.before))

    within : total_bits (normal number) plan ≤ h.holds.0
    within = omega (arith, here_bits, h.holds.2)

    pub class_size : bits ≡ bits_of_pieces (normal number) (segment_pieces bytes plan)
    class_size = let size = plan_size number level h.holds.0 bytes plan are planned h.holds.1 within in omega (arith, here_bits, size)

    pub class_chosen : IsByteChoice least bytes level limit number (segment_pieces bytes plan)
    class_chosen = record {
      from = omega (arith, order, h.from);
      up_to = omega (arith, h.before, most);
      fits = record {
        pieces_are = plan_pieces number level h.holds.0 bytes plan are planned h.holds.1 within;
        limit = h.holds.0;
        has_level = h.holds.1;
        within = omega (arith, class_size, h.holds.2);
      };
      fewest = λ pieces w. let size = few number h.from (omega (arith, h.before)) pieces w in omega (arith, size, class_size);
      smallest = class_unfit number (omega (arith, h.before)) h.least;
    }

-- The segments of a plan lie within the bytes.
pub chosen_lies : (bytes : List ℕ) (v : Version) (plan : List Segment) → All (λ b. b < 256) bytes →
    IsChosenPlan (parsed (parsed_bytes Text bytes)) v plan → All (LiesIn (length bytes)) plan
chosen_lies bytes v plan are chosen =
    subst (λ (n : ℕ). All (LiesIn n) plan) (length-parsed Text bytes)
    (plan_lies (parsed_bytes Text bytes) (parsed-bytes Text bytes are) plan (chosen-planned (parsed (parsed_bytes Text bytes)) v plan chosen))

-- ---- A class that is left out

-- Where the last version of a class does not hold what each plan needs, no pieces fit any version of it.
pub class_skipped : (bytes : List ℕ) (level : EcLevel) (least first last needed : ℕ) → AreNeeded (parsed (parsed_bytes Text bytes)) needed →
    1 ≤ first → first ≤ last → last ≤ 40 → IsClass (first - 1) last → NoPiecesFitBefore least bytes level first → (HoldsBits needed last level → ⊥) →
    NoPiecesFitBefore least bytes level (last + 1)
class_skipped bytes level least first last needed few some order most class none over n from below pieces w = elim (cases_lt n first) [
  | inl early ↦ none n from early pieces w
  | inr late ↦ (let message = parsed_bytes Text bytes in
      let c = capacity-at level last (omega (arith, some, order)) most in
      let short : c.0 < needed = elim (cases_lt c.0 needed) [ inl k ↦ k | inr k ↦ absurd (over (c.0, c.1, k)) ] in
      let all = class_fits_not first 0 message level (first - 1) last most class (λ k a b. absurd (omega (arith, a, b, some)))
      (few message (normal last) level c.0 refl c.1 short) in
      let plan = fits_plan n level bytes pieces w in
      all n late (omega (arith, below)) plan.0 plan.1)
]

-- ---- One version after the other

-- A test that did not find that the version holds the bits.
pub holds_not : (bits number : ℕ) (level : EcLevel) (b : Bool) → IsTrue b ↔ HoldsBits bits number level → b ≡ false → HoldsBits bits number level → ⊥
holds_not bits number level b test off held = let yes : IsTrue b = test.1 held in absurd (cc)

-- What fits none of the versions of a range.
pub none_in_range : (least : ℕ) (bytes : List ℕ) (level : EcLevel) (limit end : ℕ) → least ≤ limit → limit < end → NoPiecesFitBefore least bytes level end →
    NoPiecesFitUpTo (normal_from least) level bytes (limit - least)
none_in_range least bytes level limit end order past none n few = none (least + n) (omega arith) (omega (arith, few, past, order))

-- ---- Many bytes

-- No pieces of more than 7089 bytes fit a version.
pub long_unfit : (n : ℕ) (level : EcLevel) (bytes : List ℕ) → n ≤ 40 → All (λ b. b < 256) bytes → 7089 < length bytes → NoPiecesFit (normal n) level bytes
long_unfit n level bytes last are long pieces w =
    let plan = fits_plan n level bytes pieces w in
    long_message 0 (parsed_bytes Text bytes) level 40 (omega arith) (parsed-bytes Text bytes are) (omega (arith, long, length-parsed Text bytes)) n last
    plan.0 plan.1
