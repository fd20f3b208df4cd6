-- What is drawn of a choice is the symbol that the options ask for.
use Rattle.std.proofs.Common.{◌≡◌, ℕ, ◌+◌, ◌-◌, ◌<◌, ◌≤◌, Bool, true, false, List, length, pos, ℤ}
use Rattle.std.proofs.Common.{refl, sym, ap, subst, ◌∙◌, arith, inl, inr}
use Rattle.std.specs.Prelude.{All, None, Option, Some, chars, nat_abs}
use Rattle.std.specs.Str.{IsUtf8}
use Rattle.std.proofs.lemmas.Option.{same_Some}
use Rattle.std.proofs.lemmas.Bool.{cases_lt}
use Rattle.qrcode_base.specs.Symbols.{IsMicroNumber, IsNormalNumber, capacity}
use Rattle.qrcode_base.specs.declared.types.Color.{Color}
use Rattle.qrcode_base.specs.declared.types.EcLevel.{EcLevel}
use Rattle.qrcode_base.specs.declared.types.Version.{Version}
use Rattle.qrcode_base.specs.declared.types.errors.QrError.{QrError}
use Rattle.qrcode_base.specs.declared.types.errors.QrError.TheVariants.{DataTooLong, InvalidVersion}
use Rattle.qrcode_base.specs.declared.types.errors.QrError.TheVariants.{OutOfMemory}
use Rattle.qrcode_bits.specs.Frame.{Header, front_of, header_bits}
use Rattle.qrcode_bits.specs.Plans.{micro, normal, normal_from}
use Rattle.qrcode_bits.specs.Stream.{Stream}
use Rattle.qrcode_bits.specs.declared.bits.front.Content.TheVariants.{Text}
use Rattle.qrcode_core.specs.Symbol.{DrawnSymbol, HoldsStream, IsStreamRefusal}
use Rattle.qrcode_core.specs.Headline.{Reads, reading_of}
use Rattle.qrcode_core.specs.Options.{HasVersions}
use Rattle.qrcode_core.specs.declared.options.SymbolOptions.{SymbolOptions}
use Rattle.qrcode_grid.specs.declared.canvas.MaskPattern.{MaskPattern}
use Rattle.character_sets.specs.Reading.{Part}
use Rattle.text_plans.specs.Costs.{AreLeast, AreTextParts, bits_of_parts}
use Rattle.smallest_symbols.specs.Holding.{IsGreatestLevel, IsLevelAsked}
use Rattle.smallest_symbols.specs.TextChoices.{HasNoChoice, IsMicroChoice, IsTextChoice}
use Rattle.smallest_symbols.specs.TextFrames.{IsPartSpelled, NoVersionFits, PartsFit, headed_bits}
use Rattle.smallest_symbols.specs.TextHeadline.{HoldsParts, IsSmallestInRange, IsSmallestText}
use Rattle.smallest_symbols.specs.TextHeadline.{IsStrongestOrSmallest, IsStrongestText}
use Rattle.smallest_symbols.specs.TextHeadline.{IsTextRefused, NoGridReadsText}
use Rattle.smallest_symbols.specs.TextHeadline.{TellsTextReading, TextReading}
use Rattle.smallest_symbols.proofs.TextFrames.{HasRoom, all_spelled, counted, frame_fits}
use Rattle.smallest_symbols.proofs.TextFrames.{length-headed, no_frame, text_sound}
use Rattle.smallest_symbols.proofs.Utf8Frames.{utf8_parts}
use Rattle.smallest_symbols.proofs.TextHeadline.{smallest_symbol}
use Rattle.smallest_symbols.proofs.TextVersions.{long_micro, long_unfit}
use Rattle.smallest_symbols.proofs.TextLevels.{at_least, none_beyond, stronger_choice}

-- Where no parts fit, no grid is read as the text.
pub no_grid : (kind : ℕ → Version) (text : List ℕ) (level : EcLevel) (limit : ℕ) → NoVersionFits kind level text limit → NoGridReadsText kind text level limit
no_grid kind text level limit none grid number payload mask few reads = no_frame (none number few) reads.framed

-- A frame of the text in UTF-8, after its designator, is no smaller than the smallest symbol.
pub utf8_no_smaller : (kind : ℕ → Version) (bytes : List ℕ) (level : EcLevel) (grid other : List Color) (number bits : ℕ) (mask : MaskPattern) →
    IsUtf8 bytes → (best : IsSmallestText kind (chars bytes) level grid) →
    Reads other (reading_of (kind number) level mask (front_of None Text) bytes bits) → (best.number ≤ number) × (number ≡ best.number → best.payload ≤ bits)
utf8_no_smaller kind bytes level grid other number bits mask utf8 best reads =
    let w = utf8_parts (kind number) level bytes bits reads.frame utf8 reads.framed in
    let mine = best.reads.framed.parts in
    let version = ap (λ (r : TextReading). bits_of_parts r.version mine) best.says in
    let header = ap (λ (r : TextReading). length (header_bits r.header)) best.says in
    let payload = ap (λ (r : TextReading). r.payload) best.says in
    let long : best.payload ≡ bits_of_parts (kind best.number) mine =
    omega (arith, payload, (frame_fits best.reads.framed).1, header, version) in (
      elim (cases_lt number best.number) [ inl below ↦ absurd (best.smallest number below w.0 w.1) | inr past ↦ past ],
      λ same.
          let written = subst (λ (n : ℕ). AreTextParts (kind n) (chars bytes) w.0) same w.1.written in
          let few = subst (λ (n : ℕ). bits_of_parts (kind n) w.0 ≤ bits) same w.2 in
          let least = best.least.bits w.0 written in
          omega (arith, long, least, few),
    )

-- ---- Streams

-- Parts that fit after a header or without one can be spelled.
pub fits_spelled : (v : Version) (l : EcLevel) (header : Option Header) (text : List ℕ) (parts : List Part) → AreTextParts v text parts →
    HasRoom v l header parts → All (λ part. IsPartSpelled part v) parts
fits_spelled v l header text parts written room =
    let few : bits_of_parts v parts ≤ room.0 = omega (arith, length-headed v header text parts written, room.2) in
    all_spelled v parts written.had (text_sound v text parts written) (counted v l room.0 parts room.1 few)

module _ (v : Version) (l : EcLevel) (header : Option Header) (parts : List Part) (room : HasRoom v l header parts) (stream : Stream)
    (bits_are : stream.bits ≡ headed_bits v header parts) (version_is : stream.version ≡ v) where
  -- Their stream fails only with `OutOfMemory`,
  pub stream_refused : (e : QrError) → IsStreamRefusal stream l e → e ≡ OutOfMemory
  stream_refused (InvalidVersion w named) r =
      let e : None ≡ Some room.0 = sym r.2 ∙ (ap (λ (u : Version). capacity u l) version_is ∙ room.1) in absurd (cc)
  stream_refused DataTooLong r =
      let here : capacity v l ≡ Some r.0 = subst (λ (u : Version). capacity u l ≡ Some r.0) version_is r.1 in
      let same = same_Some room.0 r.0 (sym room.1 ∙ here) in
      absurd (omega (arith, same, r.2, ap (λ (bits : List Bool). length bits) bits_are, room.2))
  stream_refused OutOfMemory r = refl
  stream_refused other r = absurd r

  -- and its symbol holds the header and the parts.
  pub stream_holds : (symbol : DrawnSymbol) → HoldsStream stream l symbol → HoldsParts header parts v l symbol
  stream_holds symbol h = record {
    limit = h.limit;
    limit_is = subst (λ (u : Version). capacity u l ≡ Some h.limit) version_is h.limit_is;
    holds = rw (← bits_are, ← version_is) h.holds;
  }

-- ---- A symbol of a kind of versions

module _ (least : ℕ) (text : List ℕ) (level : EcLevel) (limit number : ℕ) (parts : List Part) (symbol : DrawnSymbol) where
  -- The symbol of a choice is the smallest in the versions,
  pub range_smallest : IsTextChoice least text level limit number parts → HoldsParts None parts (normal number) level symbol →
      (found : IsSmallestInRange text level least limit symbol.modules) × (found.best.number ≡ number - least) × TellsTextReading symbol
  range_smallest choice held =
      let same : number ≡ least + (number - least) = omega (arith, choice.from) in
      let w = smallest_symbol (normal_from least) text level (number - least) parts
      (subst (λ (n : ℕ). AreLeast (normal n) text parts) same choice.are_least)
      (λ n below. choice.smallest (least + n) (omega arith) (omega (arith, below))) symbol
      (subst (λ (n : ℕ). PartsFit (normal n) level text parts) same choice.fits)
      (subst (λ (n : ℕ). HoldsParts None parts (normal n) level symbol) same held) in
      (record { best = w.0; up_to = omega (arith, w.1, choice.up_to) }, w.1, w.2)

-- and at the greatest level the strongest.
pub range_strongest : (least : ℕ) (text : List ℕ) (asked level : EcLevel) (limit number bits : ℕ) (parts : List Part) (symbol : DrawnSymbol) →
    IsTextChoice least text asked limit number parts → bits ≡ bits_of_parts (normal number) parts → IsGreatestLevel bits number level →
    HoldsParts None parts (normal number) level symbol → IsStrongestText text asked least limit symbol.modules × TellsTextReading symbol
range_strongest least text asked level limit number bits parts symbol choice is g held =
    let w = range_smallest least text level limit number parts symbol (stronger_choice least text asked limit number bits parts choice is level g) held in (
      record {
        level = level;
        at_least = at_least least text asked limit number bits parts choice is level g;
        found = w.0;
        as_small = λ other n payload mask reads. elim (cases_lt n w.0.best.number) [
          | inl below ↦ absurd (no_frame (choice.smallest (least + n) (omega arith) (omega (arith, below, w.1))) reads.framed)
          | inr past ↦ past
        ];
        greatest = λ beyond more grid n payload mask few reads.
            no_frame (none_beyond least text asked limit number bits parts choice is level beyond g more (least + n) (omega arith)
            (omega (arith, few, w.1, choice.from))) reads.framed;
      },
      w.2,
    )

-- The symbol of a Micro choice is the smallest.
pub micro_smallest : (text : List ℕ) (level : EcLevel) (number : ℕ) (parts : List Part) (symbol : DrawnSymbol) → IsMicroChoice text level number parts →
    HoldsParts None parts (micro number) level symbol → IsSmallestText micro text level symbol.modules × TellsTextReading symbol
micro_smallest text level number parts symbol choice held =
    let w = smallest_symbol micro text level number parts choice.chosen.are_least choice.smallest symbol choice.chosen.fits held in (w.0, w.2)

-- ---- Options

module _ (least : ℕ) (text : List ℕ) (asked level : EcLevel) (limit number bits : ℕ) (parts : List Part)
    (choice : IsTextChoice least text asked limit number parts) (is : bits ≡ bits_of_parts (normal number) parts) where
  -- The parts fit at the level of the symbol,
  pub level_fits : (strongest : Bool) → IsLevelAsked strongest asked bits number level → PartsFit (normal number) level text parts
  level_fits true g = (stronger_choice least text asked limit number bits parts choice is level g).fits
  level_fits false e = subst (λ (l : EcLevel). PartsFit (normal number) l text parts) (sym e) choice.fits

  -- and the symbol is the strongest one, or the smallest.
  pub level_found : (strongest : Bool) → IsLevelAsked strongest asked bits number level → (symbol : DrawnSymbol) →
      HoldsParts None parts (normal number) level symbol → IsStrongestOrSmallest strongest text asked least limit symbol.modules × TellsTextReading symbol
  level_found true g symbol held = range_strongest least text asked level limit number bits parts symbol choice is g held
  level_found false e symbol held =
      let w = range_smallest least text asked limit number parts symbol choice
      (subst (λ (l : EcLevel). HoldsParts None parts (normal number) l symbol) e held) in (w.0, w.2)

-- A text of more than 7089 characters fits no version,
pub none_long : (least : ℕ) (text : List ℕ) (level : EcLevel) (limit : ℕ) → 7089 < length text → NoVersionFits (normal_from least) level text limit
none_long least text level limit long n few = long_unfit (least + n) level text long

-- nor one of more than 38 any Micro version.
pub none_long_micro : (text : List ℕ) (level : EcLevel) → 38 < length text → NoVersionFits micro level text 4
none_long_micro text level long n few = long_micro n level text few long

-- the number of a limit is at most 40
pub few_versions : (z : ℤ) → IsNormalNumber z → nat_abs z ≤ 40
few_versions z h = grind arith

pub few_micro : (n : ℕ) → IsMicroNumber (pos n) → n ≤ 4
few_micro n h = grind arith

-- Where there is no choice, the call fails as it says.
pub choice_refused : (options : SymbolOptions) (text : List ℕ) (least limit : ℕ) (e : QrError) → HasVersions options → least ≡ nat_abs options.min_version →
    limit ≡ nat_abs options.max_version → length text ≤ 7089 → HasNoChoice (normal_from least) options.level text (limit - least) e →
    IsTextRefused options text e
choice_refused options text least limit DataTooLong range from to short none = (
  range,
  subst (λ (n : ℕ). NoVersionFits (normal_from (nat_abs options.min_version)) options.level text (n - nat_abs options.min_version)) to
      (subst (λ (n : ℕ). NoVersionFits (normal_from n) options.level text (limit - n)) from none),
)
choice_refused options text least limit OutOfMemory range from to short none = (range, short)
choice_refused options text least limit other range from to short none = absurd none
