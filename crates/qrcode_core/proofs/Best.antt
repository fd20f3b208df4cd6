-- What is encoded and drawn is the best symbol, or holds the bits that a caller pushed; and its
-- grid is far from others.
use Rattle.qrcode_core.proofs.Prelude.{◌-◌, ◌<◌, ◌≤◌, sym, arith, Bool, List, length, length-append, Color, EcLevel, Version, MaskPattern, AreBytes}
use Rattle.qrcode_core.proofs.Prelude.{AreBlocksApart}
use Rattle.qrcode_core.proofs.Prelude.{codeword_block, block_sizes, Reading, Carries, Reads, ◌≡◌, append_cancel_right, missing_bits, zero_bits, AreApart}
use Rattle.qrcode_core.proofs.Prelude.{AreDataOf, Elements, Front, InvalidResourceLimits, Text, front_bits, front_of, no_front, parsed_bytes, pieces_of, pos}
use Rattle.qrcode_core.proofs.Prelude.{subst}
use Rattle.qrcode_core.proofs.Prelude.{HaveDistance, ℕ, ◌+◌, refl, IsChoice, total_bits, DrawnSymbol, TellsReading, IsEncoded}
use Rattle.qrcode_core.proofs.Prelude.{IsDrawn, IsBest, ◌++◌, take, Some, None, All, none-some, BlockLayout, QrError, DataTooLong, OutOfMemory, blocks_of}
use Rattle.qrcode_core.proofs.Prelude.{capacity, normal, micro, spellings, Stream, IsRefusal, AreBytesOf, FillsSymbol, IsDrawnStream, common_steps}
use Rattle.qrcode_core.proofs.Prelude.{byte_bits, tail, HoldsStream}
use Rattle.qrcode_core.proofs.Codewords.{drawn_carries, bytes_of_tailed, take_ended, length-encoded, length-tailed, length-filled}
use Rattle.qrcode_core.proofs.OneReading.{one_reading, one_carried}
use Rattle.std.{proofs.lemmas.List.get_or-replicate, proofs.lemmas.List.Elements.All-append, specs.Prelude.Result, specs.Prelude.IfErr}
use Rattle.qrcode_grid.proofs.Distance.{AreBytes-block_in, length-block_in, distance-sound, AreApart-from_blocks}
use Rattle.qrcode_grid.proofs.WholeSymbols.{IsUsable-of_symbol}
use Rattle.qrcode_core.proofs.NoneBetter.{none_better}
use Rattle.qrcode_bits.specs.Plans.{normal_from}
use Rattle.qrcode_bits.specs.Push.{IsEncoding, IsUnencodable, IsFrontRefused, EndsAtLevel}
use Rattle.qrcode_core.specs.Headline.{IsTooLongAfter, IsTextRefusal, IsElementsRefusal}
use Rattle.qrcode_bits.{proofs.Reading.frame_one_reading, specs.declared.optimize.Segment.Segment, proofs.Choices.fits_last}
use Rattle.qrcode_bits.{proofs.Lengths.long_message, proofs.Lengths.long_for_micro, proofs.PlanFrames.spelled_plan, proofs.Contents.length-parsed}
use Rattle.qrcode_bits.{proofs.Contents.parsed-bytes}

-- ---- The blocks of a grid that is read are sound, so other sound lists are far from them

-- Every grid that carries bits has blocks that are apart from other sound lists.
pub carries_apart : (grid : List Color) (version : Version) (level : EcLevel) (mask : MaskPattern) (bits : List Bool)
    (r : Carries grid version level mask bits) → AreBlocksApart r.blocks.correction (block_sizes r.blocks) r.interleaved r.correction
carries_apart grid version level mask bits r block within = λ other same bytes sound differ.
    let mine = codeword_block r.blocks.correction (block_sizes r.blocks) r.interleaved r.correction block in
    let usable = IsUsable-of_symbol version level r.blocks r.has_level in
    let long : length mine ≤ 255 = grind (arith, length-append, length-block_in, get_or-replicate, usable.short block within) in
    let bytes_mine : AreBytes mine =
    All-append (λ x. x < 256) _ _ (AreBytes-block_in _ _ _ r.bytes_interleaved) (AreBytes-block_in _ _ _ r.bytes_correction) in
    distance-sound _ mine other (sym same) long bytes_mine bytes (r.sound.sound block within) sound (λ e. differ (sym e))

-- So has every grid that is read.
pub blocks_apart : (grid : List Color) (reading : Reading) (r : Reads grid reading) →
    AreBlocksApart r.carries.blocks.correction (block_sizes r.carries.blocks) r.carries.interleaved r.carries.correction
blocks_apart grid reading r = carries_apart grid reading.version reading.level reading.mask r.frame r.carries

-- ---- Grids that are read as different bytes are far apart in some block

-- the data codewords determine the bytes
bytes_of_codewords : (grid other : List Color) (r s : Reading) (f : Reads grid r) (g : Reads other s) → s.version ≡ r.version → s.level ≡ r.level →
    g.carries.codewords ≡ f.carries.codewords → s.bytes ≡ r.bytes
bytes_of_codewords grid other r s f g same_version same_level same =
    let frames = append_cancel_right g.frame f.frame (zero_bits (missing_bits r.version)) in
    let one = frame_one_reading r.version r.level s.front r.front s.bytes r.bytes s.payload r.payload f.frame in
    grind (arith, frames, f.carries.bits_are, g.carries.bits_are, one, f.framed, g.framed)

pub grids_apart : HaveDistance
unfolding AreApart
grids_apart grid r f other s g same_version same_level differ =
    let mine = f.carries in
    let theirs = g.carries in
    let blocks : theirs.blocks ≡ mine.blocks = cc (mine.has_level, theirs.has_level) in
    AreApart-from_blocks _ _ mine.codewords mine.interleaved mine.correction mine.sound (blocks_apart grid r f)
    theirs.codewords theirs.interleaved theirs.correction theirs.bytes_interleaved theirs.bytes_correction (rw blocks at theirs.sound)
    (λ same. differ (bytes_of_codewords grid other r s f g same_version same_level same))

-- ---- The grid that is drawn of the best frame, under the first mask of least penalty, is the
-- best symbol

-- Its version is the frame's, up to the limit of the choice, and it returns its reading.
pub best_symbol : (kind : ℕ → Version) (front : Front) (bytes : List ℕ) (level : EcLevel) (limit number : ℕ) (plan : List Segment)
    (codewords : List ℕ) (symbol : DrawnSymbol) →
    IsChoice kind (length (front_bits front)) (parsed_bytes front.content bytes) level limit number plan →
    IsEncoded (kind number) level front bytes (length (front_bits front) + total_bits (kind number) plan) codewords →
    IsDrawn (kind number) level codewords symbol →
    (best : IsBest kind front bytes level symbol.modules) × (best.number ≤ limit) × TellsReading symbol
best_symbol kind front bytes level limit number plan codewords symbol choice code drawn =
    let grid = symbol.modules in
    let payload = length (front_bits front) + total_bits (kind number) plan in
    let known : Reading = record {
      bytes = bytes;
      version = kind number;
      level = level;
      mask = symbol.mask;
      front = front;
      payload = payload;
    } in
    let reads : Reads grid known = record {
      frame = code.frame;
      carries = drawn_carries (kind number) level code.frame codewords symbol code.frame_is drawn;
      framed = code.framed;
    } in (
      record {
        number = number;
        mask = symbol.mask;
        payload = payload;
        plan = plan;
        reading = known;
        says = refl;
        reads = reads;
        only = λ other seen. one_reading grid other known seen reads;
        functional = drawn.carries.functional;
        fits = choice.fits;
        smallest = choice.smallest;
        fewest = choice.fewest;
        none_better = none_better kind front bytes level number payload choice.smallest choice.fewest;
        best_mask = drawn.best;
        apart = blocks_apart grid known reads;
        far = grids_apart grid known reads;
      },
      choice.up_to,
      λ other seen. rw (← one_reading grid known other reads seen) (drawn.version_is, drawn.level_is, refl),
    )

-- ---- The stream of the chosen plan in the smallest version, with or without a header, as bytes
-- and drawn, is the best symbol

-- a symbol with a capacity has blocks
pub has_blocks : (v : Version) (l : EcLevel) (limit : ℕ) → capacity v l ≡ Some limit → (b : BlockLayout) × (blocks_of v l ≡ Some b)
has_blocks v l limit e = grind (arith, common_steps, none-some)

module _ {kind : ℕ → Version} {front : Front} {bytes : List ℕ} {level : EcLevel} {limit : ℕ} {stream : Stream}
    (are : All (λ c. c < 256) bytes) (suited : AreDataOf front.content bytes) (encoding : IsEncoding kind front bytes level limit stream) where
  abbrev version : Version
  version = kind encoding.number

  abbrev ahead : ℕ
  ahead = length (front_bits front)

  abbrev payload : List Bool
  payload = front_bits front ++ spellings version (pieces_of front.content bytes encoding.plan)

  encoded : (words : List ℕ) → AreBytesOf words stream.bits → IsEncoded version level front bytes (ahead + total_bits version encoding.plan) words
  encoded words turned =
      let held = encoding.stream_is in
      let blocks = has_blocks version level held.limit held.limit_is in
      let spelled = spelled_plan ahead version level front.content bytes encoding.plan are suited encoding.choice.fits in
      let within : length payload ≤ held.limit = grind (arith, common_steps, spelled.bits, held.frame.fits, held.frame.limit_is, held.limit_is) in
      let ends = bytes_of_tailed version level blocks.0 held.limit payload words blocks.1 held.limit_is within in
      let first = take_ended version held.limit payload within in
      record { frame = take held.limit stream.bits; framed = held.frame; frame_is = grind (arith, ends, first, held.bits_are, turned) }

  -- What an encoding is turned into fills its symbol.
  pub fills_symbol : FillsSymbol stream level
  fills_symbol words turned =
      let long = length-encoded version level front bytes (ahead + total_bits version encoding.plan) words in
      grind (arith, common_steps, encoding.stream_is, has_blocks version level, long, encoded words turned)

  -- The symbol that is drawn of it is the best one, in a version up to the limit, and it returns
  -- its reading.
  pub best_of_stream : {symbol : DrawnSymbol} → IsDrawnStream stream level symbol →
      (best : IsBest kind front bytes level symbol.modules) × (best.number ≤ limit) × TellsReading symbol
  best_of_stream {symbol = symbol} held =
      best_symbol kind front bytes level limit encoding.number encoding.plan held.codewords symbol encoding.choice
      (encoded held.codewords held.turned) (rw encoding.stream_is.version_is at held.drawn)

-- What is encoded fits version 40.
pub encoded_fits : {front : Front} {bytes : List ℕ} {level : EcLevel} {stream : Stream} → IsEncoding normal front bytes level 40 stream →
    IsTooLongAfter front bytes level → ⊥
encoded_fits {front = front} {bytes = bytes} {level = level} encoding long =
    long encoding.plan (fits_last (length (front_bits front)) encoding.number (parsed_bytes front.content bytes) level encoding.plan
    (omega (arith, encoding.choice.up_to)) encoding.choice.fits)

-- It has at most 7089 bytes.
pub encoded_short : {front : Front} {bytes : List ℕ} {level : EcLevel} {stream : Stream} (limit : ℕ) →
    limit ≤ 40 → All (λ c. c < 256) bytes → IsEncoding normal front bytes level limit stream → length bytes ≤ 7089
encoded_short {front = front} {bytes = bytes} {level = level} limit h are encoding =
    let message = parsed_bytes front.content bytes in
    let size = length-parsed front.content bytes in
    let none = λ (long : 7089 < length message).
    long_message _ message level limit h (parsed-bytes front.content bytes are) long _ encoding.choice.up_to _ encoding.choice.fits in
    omega (arith, none, size)

pub range_short : {front : Front} {bytes : List ℕ} {level : EcLevel} {stream : Stream} (least limit : ℕ) →
    least ≤ limit → limit ≤ 40 → All (λ c. c < 256) bytes → IsEncoding (normal_from least) front bytes level (limit - least) stream → length bytes ≤ 7089
range_short {front = front} {bytes = bytes} {level = level} least limit order h are encoding =
    let message = parsed_bytes front.content bytes in
    let size = length-parsed front.content bytes in
    let none = λ (long : 7089 < length message).
    long_message _ message level limit h (parsed-bytes front.content bytes are) long (least + encoding.number)
    (omega (arith, encoding.choice.up_to, order)) _ encoding.choice.fits in
    omega (arith, none, size)

pub encoded_micro_short : {bytes : List ℕ} {level : EcLevel} {stream : Stream} → All (λ c. c < 256) bytes → IsEncoding micro no_front bytes level 4 stream →
    length bytes ≤ 7089
encoded_micro_short {bytes = bytes} {level = level} are encoding =
    let none = λ (long : 7089 < length bytes). long_for_micro bytes level are long _ encoding.choice.up_to _ encoding.choice.fits in
    omega arith

-- Where only memory can run out, that is the error.
pub only_memory : {T : Type 0} (r : Result T QrError) (P : QrError → Type 0) → P OutOfMemory → IfErr r (λ e. e ≡ OutOfMemory) → IfErr r P
only_memory r P why memory = grind (arith, common_steps)

pub normal_refused : (bytes : List ℕ) (level : EcLevel) (e : QrError) → IsUnencodable normal 0 bytes level 40 e → IsRefusal bytes level e
normal_refused bytes level DataTooLong none = none 40 (omega arith)
normal_refused bytes level OutOfMemory few = few
normal_refused bytes level other none = none

pub text_refused : (bytes : List ℕ) (level : EcLevel) (e : QrError) → IsFrontRefused (front_of None Text) bytes level (pos 40) e → IsTextRefusal bytes level e
text_refused bytes level InvalidResourceLimits bad = absurd (bad (omega arith, omega arith))
text_refused bytes level DataTooLong none = none.1 40 (omega arith)
text_refused bytes level OutOfMemory few = subst (λ (n : ℕ). n ≤ 7089) (length-parsed Text bytes) few.1
text_refused bytes level other none = absurd none.1

pub elements_refused : (bytes : List ℕ) (level : EcLevel) (e : QrError) → AreDataOf Elements bytes →
    IsFrontRefused (front_of None Elements) bytes level (pos 40) e →
    IsElementsRefusal bytes level e
elements_refused bytes level InvalidResourceLimits are bad = absurd (bad (omega arith, omega arith))
elements_refused bytes level DataTooLong are none = (are, none.1 40 (omega arith))
elements_refused bytes level OutOfMemory are few = (are, subst (λ (n : ℕ). n ≤ 7089) (length-parsed Elements bytes) few.1)
elements_refused bytes level other are none = absurd none.1

-- ---- The bits that a caller pushed, ended and drawn, are what the symbol carries

module _ (old new : Stream) (level : EcLevel) (ended : EndsAtLevel old new level) where
  abbrev bits : List Bool
  bits = old.bits ++ tail old.version ended.limit (length old.bits)

  tailed : (words : List ℕ) → AreBytesOf words new.bits → byte_bits words ≡ bits ++ zero_bits (missing_bits old.version)
  tailed words turned = grind (arith, common_steps, has_blocks, bytes_of_tailed)

  -- Ended bits fill their symbol.
  pub ended_fills : FillsSymbol new level
  ended_fills words turned =
      let blocks = has_blocks old.version level ended.limit ended.limit_is in
      let long = length-filled old.version level words blocks.0 ended.limit bits in
      grind (arith, blocks.1, long, length-tailed old.version ended.limit old.bits, tailed words turned)

  -- The symbol that is drawn of them holds the bits as they were before.
  pub holds_stream : (symbol : DrawnSymbol) → IsDrawnStream new level symbol → HoldsStream old level symbol
  holds_stream symbol made =
      let drawn = rw ended.ends.version_is at made.drawn in
      let carries = drawn_carries old.version level bits made.codewords symbol (tailed made.codewords made.turned) drawn in
      record {
        limit = ended.limit;
        limit_is = ended.limit_is;
        fits = ended.fits;
        holds = record {
          version_is = drawn.version_is;
          level_is = drawn.level_is;
          carries = carries;
          only = λ v l m other seen. one_carried symbol.modules v old.version l level m symbol.mask other bits seen carries;
          best_mask = drawn.best;
          apart = carries_apart symbol.modules old.version level symbol.mask bits carries;
        };
      }

  -- Where a reader reads them, it finds the version, the level and the mask of the symbol.
  pub held_reading : (symbol : DrawnSymbol) → IsDrawnStream new level symbol → TellsReading symbol
  held_reading symbol made reading seen =
      let held = (holds_stream symbol made).holds in
      grind (arith, held, held.only reading.version reading.level reading.mask seen.frame seen.carries)
