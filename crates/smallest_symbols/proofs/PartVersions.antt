-- The version that a text takes after a header: parts take the same bits in each version of a
-- class.
use Rattle.std.proofs.Common.{◌≡◌, ℕ, ◌+◌, ◌-◌, ◌^◌, ◌<◌, ◌≤◌, List, length, min, inl, inr, subst}
use Rattle.std.proofs.Common.{arith}
use Rattle.std.specs.Prelude.{IfNone, IfSome, None, Option, Some}
use Rattle.std.proofs.lemmas.Bool.{cases_lt}
use Rattle.qrcode_base.proofs.Fields.{SameClass, capacity-held}
use Rattle.qrcode_base.specs.Symbols.{capacity}
use Rattle.qrcode_base.specs.declared.types.EcLevel.{EcLevel}
use Rattle.qrcode_base.specs.declared.types.Version.{Version}
use Rattle.qrcode_bits.specs.Plans.{IsClass, normal}
use Rattle.character_sets.specs.Reading.{Part, has_kanji, has_no_designator}
use Rattle.text_plans.specs.Costs.{bits_of_parts}
use Rattle.text_plans.specs.Manners.{AreLeastIn, ArePartsIn}
use Rattle.text_plans.specs.declared.rules.Manner.{Manner}
use Rattle.text_plans.proofs.Starts.{text_in}
use Rattle.smallest_symbols.specs.Holding.{HoldsBits, IsFirstHolding, NoneHoldsBefore}
use Rattle.smallest_symbols.proofs.TextFrames.{parts_dense}
use Rattle.smallest_symbols.proofs.Valid.{parts_sound}
use Rattle.smallest_symbols.proofs.TextVersions.{long_unfit, none_holds_many, same_total}
use Rattle.smallest_symbols.proofs.TextVersions.{same_written}
use Rattle.smallest_symbols.specs.TextParts.{HaveNoRoomBefore, IsPartChoice, IsTextPartTooLong}
use Rattle.smallest_symbols.specs.TextParts.{NoPartsFitAfterHeader}

-- No parts fit a version before a number, after a header.
abbrev pub NoneFitUpTo : Manner → List ℕ → EcLevel → ℕ → Type 0
NoneFitUpTo manner text level end = (number : ℕ) → number < end → NoPartsFitAfterHeader manner (normal number) level text

-- ---- The versions of a class

-- What is read in a manner is so in each Normal version,
pub same_written_in : (manner : Manner) (n m : ℕ) (text : List ℕ) (parts : List Part) → ArePartsIn manner (normal n) text parts →
    ArePartsIn manner (normal m) text parts
same_written_in manner n m text parts w = record {
  read = w.read;
  had = (same_written n m text parts (text_in manner (normal n) text parts w)).had;
  plain = w.plain;
  mixed = w.mixed;
  begins = w.begins;
}

-- and what is least in one version of a class is so in each.
same_least_in : (manner : Manner) (n m : ℕ) (text : List ℕ) (parts : List Part) → 1 ≤ n → 1 ≤ m → SameClass n m →
    AreLeastIn manner (normal n) text parts → AreLeastIn manner (normal m) text parts
same_least_in manner n m text parts some some_too class w = record {
  written = same_written_in manner n m text parts w.written;
  bits = λ others h. let k = w.bits others (same_written_in manner m n text others h) in
      omega (arith, k, same_total n m some some_too class parts, same_total n m some some_too class others);
  fewest = λ others h e. w.fewest others (same_written_in manner m n text others h)
      (omega (arith, e, same_total n m some some_too class parts, same_total n m some some_too class others));
}

held : (level : EcLevel) (n c : ℕ) → capacity (normal n) level ≡ Some c → (1 ≤ n) × (c ≤ 23648) × (n < 27 → c ≤ 10960) × (n < 10 → c ≤ 1856)
held level n c known = grind (arith, capacity-held level n c known)

-- There is no version 0; more than 550 characters have no room in the versions 1 to 9, and more
-- than 3282 none in those to 26.
pub no_room_small : (count : ℕ) → HaveNoRoomBefore 1 count
no_room_small count n limit level below known = let h = held level n limit known in omega (arith, h.0, below)

pub no_room_middle : (count : ℕ) → 550 < count → HaveNoRoomBefore 10 count
no_room_middle count many n limit level below known = let few = (held level n limit known).3 below in omega (arith, few, many)

pub no_room_large : (count : ℕ) → 3282 < count → HaveNoRoomBefore 27 count
no_room_large count many n limit level below known = let few = (held level n limit known).2 below in omega (arith, few, many)

-- A text of as many characters fits no version that has no room for them.
pub none_before : (manner : Manner) (text : List ℕ) (level : EcLevel) (end count : ℕ) → count ≡ length text → HaveNoRoomBefore end count →
    NoneFitUpTo manner text level end
none_before manner text level end count is none n below parts w =
    let read = (text_in manner (normal n) text parts w.written).read in
    let short = (parts_sound (has_no_designator parts) (has_kanji parts) None parts text read).1 in
    let dense = parts_dense (normal n) parts in
    let room = none n w.limit level below w.has_level in
    omega (arith, short, dense, room, is, w.within)

-- No version holds a text of more than 7089 characters.
pub long_part : (manner : Manner) (text : List ℕ) (level : EcLevel) (limit : ℕ) → 7089 < length text → IsTextPartTooLong manner text level limit
long_part manner text level limit long n few parts w =
    long_unfit n level text long parts
    (record { written = text_in manner (normal n) text parts w.written; limit = w.limit; has_level = w.has_level; within = omega (arith, w.within) })

-- A text that has a choice has at most 7089 characters.
pub short_part : (manner : Manner) (text : List ℕ) (level : EcLevel) (limit number : ℕ) (parts : List Part) →
    IsPartChoice manner text level limit number parts → length text ≤ 7089
short_part manner text level limit number parts choice = elim (cases_lt 7089 (length text)) [
  | inl long ↦ absurd (long_part manner text level limit long number choice.up_to parts choice.fits)
  | inr short ↦ omega (arith, short)
]

-- ---- Sums that stop at the greatest number

module _ (bits sum : ℕ) (level : EcLevel) (first end : ℕ) (is : sum ≡ min (bits + 20) (2 ^ 64 - 1)) where
  -- A version that holds the sum holds the bits after a header,
  pub held_sum : (number : ℕ) → HoldsBits sum number level → HoldsBits (20 + bits) number level
  held_sum number h =
      let most = (held level number h.0 h.1).1 in (h.0, h.1, omega (arith, most, h.2, is))

  -- and the other way round.
  pub sum_held : (number : ℕ) → HoldsBits (20 + bits) number level → HoldsBits sum number level
  sum_held number h = (h.0, h.1, omega (arith, h.2, is))

  pub first_sum : (number : ℕ) → IsFirstHolding sum level first end number → IsFirstHolding (20 + bits) level first end number
  first_sum number h = record {
    from = h.from;
    before = h.before;
    holds = held_sum number h.holds;
    least = λ n from below held. h.least n from below (sum_held n held);
  }

  pub none_sum : NoneHoldsBefore sum level first end → NoneHoldsBefore (20 + bits) level first end
  none_sum none n from below held = none n from below (sum_held n held)

-- ---- The versions up to the end of a class

module _ (manner : Manner) (text : List ℕ) (level : EcLevel) (first last bound : ℕ) (some : 1 ≤ first) (class : IsClass (first - 1) last)
    (none : NoneFitUpTo manner text level first)
    (over : (others : List Part) → ArePartsIn manner (normal last) text others → bound ≤ bits_of_parts (normal last) others) where
  -- Where each list of parts takes a number of bits that no version of the class holds after a
  -- header, none fits.
  class_unfit : (end : ℕ) → end ≤ last + 1 → NoneHoldsBefore (20 + bound) level first end → NoneFitUpTo manner text level end
  class_unfit end within holds n below parts w = elim (cases_lt n first) [
    | inl early ↦ none n early parts w
    | inr late ↦ (let bits = over parts (same_written_in manner n last text parts w.written) in
        let same = same_total n last (omega (arith, late, some)) (omega (arith, late, some, below, within)) (class n (omega (arith, late, some))
        (omega (arith, below, within))) parts in
        holds n late below (w.limit, w.has_level, omega (arith, bits, same, w.within)))
  ]

-- The plan of the last version of a class, which is given as it is cast.
module _ (manner : Manner) (text : List ℕ) (level : EcLevel) (first last : ℕ) (v : Version) (is : v ≡ normal last) (some : 1 ≤ first)
    (class : IsClass (first - 1) last) (none : NoneFitUpTo manner text level first) where
  -- None is in the class where no version of it holds the least bits,
  pub none_of : (bits : ℕ) (parts : List Part) → AreLeastIn manner v text parts → bits ≡ bits_of_parts v parts →
      NoneHoldsBefore (20 + bits) level first (last + 1) → NoneFitUpTo manner text level (last + 1)
  none_of bits parts w long holds =
      let here = subst (λ (u : Version). AreLeastIn manner u text parts) is w in
      let size = subst (λ (u : Version). bits ≡ bits_of_parts u parts) is long in
      class_unfit manner text level first last bits some class none (λ others k. let few = here.bits others k in omega (arith, few, size)) (last + 1)
      (omega arith) holds

  -- or where each list of parts takes more than any version holds.
  pub none_many : ((others : List Part) → ArePartsIn manner v text others → 32768 ≤ bits_of_parts v others) →
      NoneFitUpTo manner text level (last + 1)
  none_many many =
      let over = subst (λ (u : Version). (others : List Part) → ArePartsIn manner u text others → 32768 ≤ bits_of_parts u others) is many in
      class_unfit manner text level first last 32768 some class none over (last + 1) (omega arith) (none_holds_many (20 + 32768) level first (last + 1) (omega arith))

-- The parts that take the fewest bits in the last version of a class, in its first version that
-- holds them after a header.
pub class_chosen : (manner : Manner) (text : List ℕ) (level : EcLevel) (limit first last bits number : ℕ) (parts : List Part) (v : Version) →
    v ≡ normal last → 1 ≤ first → last ≤ limit → IsClass (first - 1) last → NoneFitUpTo manner text level first → AreLeastIn manner v text parts →
    bits ≡ bits_of_parts v parts → IsFirstHolding (20 + bits) level first (last + 1) number →
    IsPartChoice manner text level limit number parts × (bits ≡ bits_of_parts (normal number) parts)
class_chosen manner text level limit first last bits number parts v same some most class none found long h =
    let w = subst (λ (u : Version). AreLeastIn manner u text parts) same found in
    let is = subst (λ (u : Version). bits ≡ bits_of_parts u parts) same long in
    let one : 1 ≤ number = omega (arith, some, h.from) in
    let same_class : SameClass number last = class number (omega (arith, some, h.from)) (omega (arith, h.before)) in
    let last_one : 1 ≤ last = omega (arith, one, h.before) in
    let here = same_total number last one last_one same_class parts in
    let turned : SameClass last number = turn number last same_class in (
      record {
        up_to = omega (arith, h.before, most);
        are_least = same_least_in manner last number text parts last_one one turned w;
        fits = record {
          written = same_written_in manner last number text parts w.written;
          limit = h.holds.0;
          has_level = h.holds.1;
          within = omega (arith, here, is, h.holds.2);
        };
        smallest = class_unfit manner text level first last bits some class none
            (λ others k. let few = w.bits others k in omega (arith, few, is)) number (omega (arith, h.before)) h.least;
      },
      omega (arith, is, here),
    )
  where
    turn : (a b : ℕ) → SameClass a b → SameClass b a
    turn a b q = grind arith

-- ---- Options

pub some_weaker : {T : Type 0} {P Q : T → Type 0} (r : Option T) → ((x : T) → P x → Q x) → IfSome r P → IfSome r Q
some_weaker (Some x) follows h = follows x h
some_weaker None follows h = tt

pub none_weaker : {T P Q : Type 0} (r : Option T) → (P → Q) → IfNone r P → IfNone r Q
none_weaker (Some x) follows h = tt
none_weaker None follows h = follows h
