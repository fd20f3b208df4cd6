-- The version that a text takes: parts take the same bits in each version of a class.
use Rattle.std.proofs.Common.{◌≡◌, pos, ℕ, ◌+◌, ◌-◌, ◌<◌, ◌≤◌, List, [], ◌∷◌, length, inl, inr}
use Rattle.std.proofs.Common.{refl, sym, ap, subst, ◌∙◌, arith}
use Rattle.std.specs.Prelude.{None, Some}
use Rattle.std.proofs.lemmas.Bool.{cases_eq, cases_lt}
use Rattle.std.proofs.lemmas.List.Elements.{All-weaker}
use Rattle.std.proofs.lemmas.Option.{same_Some}
use Rattle.qrcode_base.proofs.Fields.{SameClass, capacity-held, count_width-same}
use Rattle.qrcode_base.specs.Modes.{HasMode, characters, count_width, data_bits, indicator_width}
use Rattle.qrcode_base.specs.declared.types.EcLevel.{EcLevel}
use Rattle.qrcode_base.specs.declared.types.Mode.{Mode}
use Rattle.qrcode_base.specs.declared.types.Version.{Version}
use Rattle.qrcode_base.specs.declared.types.Mode.TheVariants.{Numeric, Alphanumeric, Byte, Kanji}
use Rattle.qrcode_bits.specs.Plans.{IsClass, micro, normal, normal_from}
use Rattle.qrcode_bits.proofs.Reading.{numbered}
use Rattle.qrcode_base.specs.Symbols.{IsMicroNumber, capacity}
use Rattle.character_sets.specs.Reading.{Part, designator, segment, has_kanji, has_no_designator}
use Rattle.text_plans.specs.Costs.{AreLeast, AreTextParts, HasPart, bits_of_part, bits_of_parts}
use Rattle.smallest_symbols.specs.Holding.{IsFirstHolding, NoneHoldsBefore}
use Rattle.smallest_symbols.specs.TextChoices.{IsFittingChoice, IsMicroChoice, IsTextChoice}
use Rattle.smallest_symbols.specs.TextChoices.{NoneFitBefore}
use Rattle.smallest_symbols.specs.TextFrames.{NoPartsFit, NoVersionFits, PartsFit}
use Rattle.smallest_symbols.proofs.TextFrames.{parts_dense, parts_headed}
use Rattle.smallest_symbols.proofs.Valid.{parts_sound}

-- ---- A class of versions

module _ (n m : ℕ) (some : 1 ≤ n) (some_too : 1 ≤ m) (class : SameClass n m) where
  same_bits : (part : Part) → bits_of_part (normal n) part ≡ bits_of_part (normal m) part
  same_bits (designator number) = refl
  same_bits (segment mode bytes) =
      ap (λ (w : ℕ). 4 + w + data_bits mode (characters mode (length bytes))) (count_width-same mode n m some some_too class)

  pub same_total : (parts : List Part) → bits_of_parts (normal n) parts ≡ bits_of_parts (normal m) parts
  same_total [] = refl
  same_total (part ∷ parts) = omega (arith, same_bits part, same_total parts)

has_mode : (n m : ℕ) (mode : Mode) → HasMode (normal n) mode → HasMode (normal m) mode
has_mode n m Numeric h = h
has_mode n m Alphanumeric h = h
has_mode n m Byte h = h
has_mode n m Kanji h = h

has_part : (n m : ℕ) (part : Part) → HasPart (normal n) part → HasPart (normal m) part
has_part n m (designator number) h = tt
has_part n m (segment mode bytes) h = (has_mode n m mode h.0, h.1)

-- Parts of one Normal version are parts of another.
pub same_written : (n m : ℕ) (text : List ℕ) (parts : List Part) → AreTextParts (normal n) text parts → AreTextParts (normal m) text parts
same_written n m text parts w = record { read = w.read; had = All-weaker (HasPart (normal n)) (HasPart (normal m)) (has_part n m) parts w.had }

pub same_least : (n m : ℕ) (text : List ℕ) (parts : List Part) → 1 ≤ n → 1 ≤ m → SameClass n m → AreLeast (normal n) text parts → AreLeast (normal m) text parts
same_least n m text parts some some_too class w = record {
  written = same_written n m text parts w.written;
  bits = λ others h. let k = w.bits others (same_written m n text others h) in
      omega (arith, k, same_total n m some some_too class parts, same_total n m some some_too class others);
  fewest = λ others h e. w.fewest others (same_written m n text others h)
      (omega (arith, e, same_total n m some some_too class parts, same_total n m some some_too class others));
}

-- ---- The versions up to the end of a class

module _ (least : ℕ) (text : List ℕ) (level : EcLevel) (first last bound : ℕ) (some : 1 ≤ first) (class : IsClass (first - 1) last)
    (none : NoneFitBefore least text level first)
    (over : (others : List Part) → AreTextParts (normal last) text others → bound ≤ bits_of_parts (normal last) others) where
  -- Where each list of parts takes a number of bits that no version of the class holds, none fits.
  pub class_unfit : (end : ℕ) → end ≤ last + 1 → NoneHoldsBefore bound level first end → NoneFitBefore least text level end
  class_unfit end within holds n from below parts w = elim (cases_lt n first) [
    | inl early ↦ none n from early parts w
    | inr late ↦ (let bits = over parts (same_written n last text parts w.written) in
        let same = same_total n last (omega (arith, late, some)) (omega (arith, late, some, below, within)) (class n (omega (arith, late, some))
        (omega (arith, below, within))) parts in
        holds n late below (w.limit, w.has_level, omega (arith, bits, same, w.within)))
  ]

-- No version holds more than 23648 bits.
pub none_holds_many : (bits : ℕ) (level : EcLevel) (first end : ℕ) → 23648 < bits → NoneHoldsBefore bits level first end
none_holds_many bits level first end many n from below h =
    let most = capacity-held level n h.0 h.1 in grind (arith, most)

-- The plan of the last version of a class, which is given as it is cast.
module _ (least : ℕ) (text : List ℕ) (level : EcLevel) (first last : ℕ) (v : Version) (is : v ≡ normal last) (some : 1 ≤ first) (class : IsClass (first - 1) last)
    (none : NoneFitBefore least text level first) where
  -- None is in the class where no version of it holds the least bits,
  pub none_of : (bits : ℕ) (parts : List Part) → AreLeast v text parts → bits ≡ bits_of_parts v parts → NoneHoldsBefore bits level first (last + 1) →
      NoneFitBefore least text level (last + 1)
  none_of bits parts w long holds =
      let here = subst (λ (u : Version). AreLeast u text parts) is w in
      let size = subst (λ (u : Version). bits ≡ bits_of_parts u parts) is long in
      class_unfit least text level first last bits some class none (λ others k. let few = here.bits others k in omega (arith, few, size)) (last + 1)
      (omega arith) holds

  -- or where each list of parts takes more than any version holds.
  pub none_many : ((others : List Part) → AreTextParts v text others → 32768 ≤ bits_of_parts v others) → NoneFitBefore least text level (last + 1)
  none_many many =
      let over = subst (λ (u : Version). (others : List Part) → AreTextParts u text others → 32768 ≤ bits_of_parts u others) is many in
      class_unfit least text level first last 32768 some class none over (last + 1) (omega arith) (none_holds_many 32768 level first (last + 1) (omega arith))

-- The parts that take the fewest bits in the last version of a class, in its first version that
-- holds them.
pub class_chosen : (least : ℕ) (text : List ℕ) (level : EcLevel) (limit first last bits number : ℕ) (parts : List Part) (v : Version) → v ≡ normal last →
    1 ≤ least → least ≤ first → last ≤ limit → IsClass (first - 1) last → NoneFitBefore least text level first → AreLeast v text parts →
    bits ≡ bits_of_parts v parts → IsFirstHolding bits level first (last + 1) number →
    IsTextChoice least text level limit number parts × (bits ≡ bits_of_parts (normal number) parts)
class_chosen least text level limit first last bits number parts v same some order most class none found long h =
    let w = subst (λ (u : Version). AreLeast u text parts) same found in
    let is = subst (λ (u : Version). bits ≡ bits_of_parts u parts) same long in
    let one : 1 ≤ number = omega (arith, some, order, h.from) in
    let same_class : SameClass number last = class number (omega (arith, some, order, h.from)) (omega (arith, h.before)) in
    let last_one : 1 ≤ last = omega (arith, one, h.before) in
    let here = same_total number last one last_one same_class parts in
    let turned : SameClass last number = turn number last same_class in (
      record {
        from = omega (arith, order, h.from);
        up_to = omega (arith, h.before, most);
        are_least = same_least last number text parts last_one one turned w;
        fits = record {
          written = same_written last number text parts w.written;
          limit = h.holds.0;
          has_level = h.holds.1;
          within = omega (arith, here, is, h.holds.2);
        };
        smallest = class_unfit least text level first last bits (omega (arith, some, order)) class none
            (λ others k. let few = w.bits others k in omega (arith, few, is)) number (omega (arith, h.before)) h.least;
      },
      omega (arith, is, here),
    )
  where
    turn : (a b : ℕ) → SameClass a b → SameClass b a
    turn a b q = grind arith

-- What fits none of the versions of a range.
pub none_in_range : (least : ℕ) (text : List ℕ) (level : EcLevel) (limit end : ℕ) → least ≤ limit → limit < end → NoneFitBefore least text level end →
    NoVersionFits (normal_from least) level text (limit - least)
none_in_range least text level limit end order past none n few = none (least + n) (omega arith) (omega (arith, few, past, order))

-- ---- Long texts

-- the shortest header of a segment in the versions 27 to 40
long_header : (n : ℕ) → 27 ≤ n → (m : Mode) → 16 ≤ indicator_width (normal n) + count_width (normal n) m
long_header n h m = grind arith

most : (l : EcLevel) (n c : ℕ) → capacity (normal n) l ≡ Some c → (c ≤ 23648) × (n < 27 → c ≤ 10960)
most l n c known = grind (arith, capacity-held l n c known)

-- No version holds a text of more than 7089 characters.
pub long_unfit : (n : ℕ) (level : EcLevel) (text : List ℕ) → 7089 < length text → NoPartsFit (normal n) level text
long_unfit n level text long parts w =
    let short = (parts_sound (has_no_designator parts) (has_kanji parts) None parts text w.written.read).1 in
    let held = most level n w.limit w.has_level in
    elim (cases_lt n 27) [
      | inl early ↦ (let dense = parts_dense (normal n) parts in let few = held.1 early in absurd (omega (arith, short, long, dense, few, w.within)))
      | inr late ↦ (let headed = parts_headed (normal n) 16 (long_header n late) parts (omega (arith, short, long)) in
          absurd (omega (arith, short, long, headed, held.0, w.within)))
    ]

-- ---- Micro versions

micro_most : (l : EcLevel) (n c : ℕ) → n ≤ 4 → capacity (micro n) l ≡ Some c → c ≤ 128
micro_most l n c few known = grind arith

-- A Micro version holds at most 38 characters.
pub long_micro : (n : ℕ) (level : EcLevel) (text : List ℕ) → n ≤ 4 → 38 < length text → NoPartsFit (micro n) level text
long_micro n level text few long parts w =
    let short = (parts_sound (has_no_designator parts) (has_kanji parts) None parts text w.written.read).1 in
    let held = micro_most level n w.limit few w.has_level in
    let dense = parts_dense (micro n) parts in
    absurd (omega (arith, short, long, dense, held, w.within))

-- there is no version M0
pub no_first : (level : EcLevel) (text : List ℕ) → NoPartsFit (micro 0) level text
no_first level text parts w = let one = numbered (micro 0) level w.limit w.has_level in omega (arith, one)

module _ (text : List ℕ) (level : EcLevel) (number : ℕ) (v : Version) (is : v ≡ micro number) where
  -- The version lacks the level,
  pub lacks_level : capacity v level ≡ None → NoPartsFit (micro number) level text
  lacks_level none parts w =
      let e : None ≡ Some w.limit = sym none ∙ (ap (λ (u : Version). capacity u level) is ∙ w.has_level) in absurd (cc)

  -- or each list of parts takes more than a Micro version holds,
  pub micro_many : number ≤ 4 → ((others : List Part) → AreTextParts v text others → 32768 ≤ bits_of_parts v others) → NoPartsFit (micro number) level text
  micro_many few many parts w =
      let over = subst (λ (u : Version). (others : List Part) → AreTextParts u text others → 32768 ≤ bits_of_parts u others) is many in
      let long = over parts w.written in
      let most = micro_most level number w.limit few w.has_level in
      absurd (omega (arith, long, most, w.within))

  module _ (limit bits : ℕ) (parts : List Part) (known : capacity v level ≡ Some limit) (least : AreLeast v text parts) (long : bits ≡ bits_of_parts v parts) where
    -- or the least parts take more than it holds;
    pub micro_over : limit < bits → NoPartsFit (micro number) level text
    micro_over over others w =
        let here = subst (λ (u : Version). PartsFit u level text others) (sym is) w in
        let same : limit ≡ here.limit = same_Some limit here.limit (sym known ∙ here.has_level) in
        let few = least.bits others here.written in
        absurd (omega (arith, over, same, few, here.within, long))

    -- else they fit it.
    pub micro_fits : bits ≤ limit → IsFittingChoice (micro number) text level parts
    micro_fits few =
        subst (λ (u : Version). IsFittingChoice u text level parts) is
        (record { are_least = least; fits = record { written = least.written; limit = limit; has_level = known; within = omega (arith, few, long) } })

-- One version more.
pub none_more : (text : List ℕ) (level : EcLevel) (smaller : ℕ) → NoVersionFits micro level text smaller → NoPartsFit (micro (smaller + 1)) level text →
    NoVersionFits micro level text (smaller + 1)
none_more text level smaller none unfit n few = elim (cases_eq n (smaller + 1)) [ inl e ↦ rw e unfit | inr ne ↦ none n (omega arith) ]

pub micro_chosen : (text : List ℕ) (level : EcLevel) (smaller number : ℕ) (parts : List Part) → smaller < 4 → NoVersionFits micro level text smaller →
    number ≡ smaller + 1 → IsFittingChoice (micro (smaller + 1)) text level parts → IsMicroChoice text level number parts
micro_chosen text level smaller number parts few none is fits =
    subst (λ (n : ℕ). IsMicroChoice text level n parts) (sym is)
    (record { version = micro_number smaller few; chosen = fits; smallest = λ n below. none n (omega arith) })
  where
    micro_number : (n : ℕ) → n < 4 → IsMicroNumber (pos (n + 1))
    micro_number n h = grind arith
