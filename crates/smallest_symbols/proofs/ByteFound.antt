-- What is drawn of a choice is the symbol that the options ask for.
use Rattle.std.proofs.Common.{◌≡◌, ℕ, ◌+◌, ◌-◌, ◌<◌, ◌≤◌, Bool, true, false, List, length, ℤ, sym}
use Rattle.std.proofs.Common.{ap, subst, ◌∙◌, arith, inl, inr, refl}
use Rattle.std.specs.Prelude.{All, None, Some, nat_abs}
use Rattle.std.proofs.lemmas.Bool.{cases_lt}
use Rattle.std.proofs.lemmas.Option.{same_Some}
use Rattle.qrcode_base.specs.Symbols.{IsNormalNumber, capacity}
use Rattle.qrcode_base.specs.declared.types.EcLevel.{EcLevel}
use Rattle.qrcode_base.specs.declared.types.Version.{Version}
use Rattle.qrcode_base.specs.declared.types.errors.QrError.{QrError}
use Rattle.qrcode_base.specs.declared.types.errors.QrError.TheVariants.{DataTooLong, InvalidVersion}
use Rattle.qrcode_base.specs.declared.types.errors.QrError.TheVariants.{OutOfMemory}
use Rattle.qrcode_bits.specs.Frame.{spellings}
use Rattle.qrcode_bits.specs.Plans.{normal, normal_from}
use Rattle.qrcode_bits.specs.Spelling.{Piece}
use Rattle.qrcode_bits.specs.Stream.{Stream}
use Rattle.qrcode_core.specs.Options.{HasVersions}
use Rattle.qrcode_core.specs.Symbol.{DrawnSymbol, HoldsStream, IsStreamRefusal}
use Rattle.qrcode_core.specs.declared.options.SymbolOptions.{SymbolOptions}
use Rattle.smallest_symbols.specs.Holding.{IsGreatestLevel, IsLevelAsked}
use Rattle.smallest_symbols.specs.ByteChoices.{AreFewestBits, HasNoByteChoice, IsByteChoice}
use Rattle.smallest_symbols.specs.ByteHeadline.{HoldsPieces, IsBestInRangeWithoutKanji}
use Rattle.smallest_symbols.specs.ByteHeadline.{IsRefusedWithoutKanji}
use Rattle.smallest_symbols.specs.ByteHeadline.{IsStrongestOrBestWithoutKanji}
use Rattle.smallest_symbols.specs.ByteHeadline.{IsStrongestWithoutKanji, NoneIsReadWithoutKanji}
use Rattle.smallest_symbols.specs.BytePieces.{NoPiecesFitUpTo, PiecesFit, bits_of_pieces}
use Rattle.smallest_symbols.proofs.ByteFrames.{no_reading}
use Rattle.smallest_symbols.proofs.ByteHeadline.{best_symbol}
use Rattle.smallest_symbols.proofs.ByteLevels.{at_least, none_beyond, stronger_choice}
use Rattle.smallest_symbols.proofs.ByteVersions.{long_unfit}

-- Where no pieces fit, no grid is read without the Kanji mode.
pub none_read : (kind : ℕ → Version) (bytes : List ℕ) (level : EcLevel) (limit : ℕ) → NoPiecesFitUpTo kind level bytes limit →
    NoneIsReadWithoutKanji kind bytes level limit
none_read kind bytes level limit none grid number payload mask few reads = no_reading (none number few) reads

-- ---- Streams

module _ (v : Version) (l : EcLevel) (bytes : List ℕ) (pieces : List Piece) (stream : Stream) (fits : PiecesFit v l bytes pieces)
    (bits_are : stream.bits ≡ spellings v pieces) (version_is : stream.version ≡ v) where
  size : length stream.bits ≡ bits_of_pieces v pieces
  size = ap (λ (bits : List Bool). length bits) bits_are

  known : (limit : ℕ) → capacity stream.version l ≡ Some limit → limit ≡ fits.limit
  known limit h = let e : capacity v l ≡ Some limit = subst (λ (u : Version). capacity u l ≡ Some limit) version_is h in
      same_Some limit fits.limit (sym e ∙ fits.has_level)

  -- The stream of pieces that fit fails only with `OutOfMemory`,
  pub stream_refused : (e : QrError) → IsStreamRefusal stream l e → e ≡ OutOfMemory
  stream_refused (InvalidVersion w named) r =
      let e : None ≡ Some fits.limit = sym r.2 ∙ (ap (λ (u : Version). capacity u l) version_is ∙ fits.has_level) in absurd (cc)
  stream_refused DataTooLong r = absurd (omega (arith, known r.0 r.1, r.2, size, fits.within))
  stream_refused OutOfMemory r = refl
  stream_refused other r = absurd r

  -- and its symbol holds the pieces.
  pub stream_holds : (symbol : DrawnSymbol) → HoldsStream stream l symbol → HoldsPieces pieces v l symbol
  stream_holds symbol h = record {
    limit = h.limit;
    limit_is = subst (λ (u : Version). capacity u l ≡ Some h.limit) version_is h.limit_is;
    holds = rw (← size, ← bits_are, ← version_is) h.holds;
  }

-- ---- The symbol of a choice

-- It is the best in the versions,
pub range_best : (least : ℕ) (bytes : List ℕ) (level : EcLevel) (limit number : ℕ) (pieces : List Piece) (symbol : DrawnSymbol) →
    IsByteChoice least bytes level limit number pieces → HoldsPieces pieces (normal number) level symbol →
    (found : IsBestInRangeWithoutKanji bytes level least limit symbol.modules) × (found.best.number ≡ number - least)
range_best least bytes level limit number pieces symbol choice held =
    let same : number ≡ least + (number - least) = omega (arith, choice.from) in
    let w = best_symbol (normal_from least) bytes level (number - least) pieces
    (subst (λ (n : ℕ). AreFewestBits (normal n) bytes (bits_of_pieces (normal n) pieces)) same choice.fewest)
    (λ n below. choice.smallest (least + n) (omega arith) (omega (arith, below))) symbol
    (subst (λ (n : ℕ). PiecesFit (normal n) level bytes pieces) same choice.fits)
    (subst (λ (n : ℕ). HoldsPieces pieces (normal n) level symbol) same held) in
    (record { best = w.0; up_to = omega (arith, w.1, choice.up_to) }, w.1)

-- and at the greatest level the strongest.
pub range_strongest : (least : ℕ) (bytes : List ℕ) (asked level : EcLevel) (limit number bits : ℕ) (pieces : List Piece) (symbol : DrawnSymbol) →
    IsByteChoice least bytes asked limit number pieces → bits ≡ bits_of_pieces (normal number) pieces → IsGreatestLevel bits number level →
    HoldsPieces pieces (normal number) level symbol → IsStrongestWithoutKanji bytes asked least limit symbol.modules
range_strongest least bytes asked level limit number bits pieces symbol choice is g held =
    let w = range_best least bytes level limit number pieces symbol (stronger_choice least bytes asked limit number bits pieces choice is level g) held in
    record {
      level = level;
      at_least = at_least least bytes asked limit number bits pieces choice is level g;
      found = w.0;
      as_small = λ other n payload mask reads. elim (cases_lt n w.0.best.number) [
        | inl below ↦ absurd (no_reading (choice.smallest (least + n) (omega arith) (omega (arith, below, w.1))) reads)
        | inr past ↦ past
      ];
      greatest = λ beyond more grid n payload mask few reads.
          no_reading (none_beyond least bytes asked limit number bits pieces choice is level beyond g more (least + n) (omega arith)
          (omega (arith, few, w.1, choice.from))) reads;
    }

-- ---- Options

module _ (least : ℕ) (bytes : List ℕ) (asked level : EcLevel) (limit number bits : ℕ) (pieces : List Piece)
    (choice : IsByteChoice least bytes asked limit number pieces) (is : bits ≡ bits_of_pieces (normal number) pieces) where
  -- The pieces fit at the level of the symbol,
  pub level_fits : (strongest : Bool) → IsLevelAsked strongest asked bits number level → PiecesFit (normal number) level bytes pieces
  level_fits true g = (stronger_choice least bytes asked limit number bits pieces choice is level g).fits
  level_fits false e = subst (λ (l : EcLevel). PiecesFit (normal number) l bytes pieces) (sym e) choice.fits

  -- and the symbol is the strongest one, or the best.
  pub level_found : (strongest : Bool) → IsLevelAsked strongest asked bits number level → (symbol : DrawnSymbol) →
      HoldsPieces pieces (normal number) level symbol → IsStrongestOrBestWithoutKanji strongest bytes asked least limit symbol.modules
  level_found true g symbol held = range_strongest least bytes asked level limit number bits pieces symbol choice is g held
  level_found false e symbol held =
      (range_best least bytes asked limit number pieces symbol choice (subst (λ (l : EcLevel). HoldsPieces pieces (normal number) l symbol) e held)).0

-- the number of a limit is at most 40
pub few_versions : (z : ℤ) → IsNormalNumber z → nat_abs z ≤ 40
few_versions z h = grind arith

-- More than 7089 bytes fit no version.
pub none_long : (least : ℕ) (bytes : List ℕ) (level : EcLevel) (limit : ℕ) → least ≤ limit → limit ≤ 40 → All (λ b. b < 256) bytes → 7089 < length bytes →
    NoPiecesFitUpTo (normal_from least) level bytes (limit - least)
none_long least bytes level limit order last are long n few = long_unfit (least + n) level bytes (omega (arith, few, order, last)) are long

-- Where there is no choice, the call fails as it says.
pub choice_refused : (options : SymbolOptions) (bytes : List ℕ) (least limit : ℕ) (e : QrError) → HasVersions options → least ≡ nat_abs options.min_version →
    limit ≡ nat_abs options.max_version → length bytes ≤ 7089 → HasNoByteChoice (normal_from least) options.level bytes (limit - least) e →
    IsRefusedWithoutKanji options bytes e
choice_refused options bytes least limit DataTooLong range from to short none = (
  range,
  subst (λ (n : ℕ). NoPiecesFitUpTo (normal_from (nat_abs options.min_version)) options.level bytes (n - nat_abs options.min_version)) to
      (subst (λ (n : ℕ). NoPiecesFitUpTo (normal_from n) options.level bytes (limit - n)) from none),
)
choice_refused options bytes least limit OutOfMemory range from to short none = (range, short)
choice_refused options bytes least limit other range from to short none = absurd none
