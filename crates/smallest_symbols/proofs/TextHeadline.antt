-- A grid is read as one text, after one header or none; what is drawn of the least parts in the
-- smallest version is the smallest symbol.
use Rattle.std.proofs.Common.{◌≡◌, ℕ, ◌+◌, ◌<◌, ◌≤◌, List, ◌++◌, length, inl, inr, refl, sym, ap}
use Rattle.std.proofs.Common.{subst, ◌∙◌, arith}
use Rattle.std.specs.Prelude.{None, Option}
use Rattle.std.proofs.lemmas.Bool.{cases_lt}
use Rattle.std.proofs.lemmas.List.{append_cancel_right}
use Rattle.qrcode_base.specs.Numbers.{byte_bits, zero_bits}
use Rattle.qrcode_base.specs.Symbols.{missing_bits}
use Rattle.qrcode_base.specs.declared.types.Color.{Color}
use Rattle.qrcode_base.specs.declared.types.EcLevel.{EcLevel}
use Rattle.qrcode_base.specs.declared.types.Version.{Version}
use Rattle.qrcode_bits.specs.Frame.{HasHeader, Header, header_bits, tail}
use Rattle.qrcode_core.specs.Symbol.{DrawnSymbol}
use Rattle.qrcode_core.proofs.Best.{carries_apart}
use Rattle.qrcode_core.proofs.OneReading.{one_carried}
unfoldable use Rattle.qrcode_grid.specs.Blocks.{AreApart}
use Rattle.qrcode_grid.proofs.Distance.{AreApart-from_blocks}
use Rattle.character_sets.specs.Reading.{Part}
use Rattle.text_plans.specs.Costs.{AreLeast, AreTextParts, bits_of_parts}
use Rattle.smallest_symbols.specs.TextFrames.{NoPartsFit, PartsFit, headed_bits}
use Rattle.smallest_symbols.specs.TextHeadline.{HaveOneTextReading, HoldsParts}
use Rattle.smallest_symbols.specs.TextHeadline.{IsFarFromOtherTexts, IsSmallestText}
use Rattle.smallest_symbols.specs.TextHeadline.{NoTextIsSmaller, ReadsText, TellsTextReading}
use Rattle.smallest_symbols.specs.TextHeadline.{TextReading, text_reading_of}
use Rattle.smallest_symbols.proofs.TextFrames.{HasRoom, frame_fits, frame_of, frame_one_text}
use Rattle.smallest_symbols.proofs.TextFrames.{length-headed, text_room}

-- ---- One reading

pub one_text_reading : HaveOneTextReading
one_text_reading grid r s f g =
    let same = one_carried grid r.version s.version r.level s.level r.mask s.mask f.frame g.frame f.carries g.carries in
    let framed = rw (same.0, same.1, same.3) at f.framed in
    let rest = frame_one_text s.version s.level r.header s.header r.text s.text r.payload s.payload g.frame framed g.framed in
    grind (arith, same, rest)

-- ---- Distance

-- the data codewords determine the header and the text
text_of_codewords : (grid other : List Color) (r s : TextReading) (f : ReadsText grid r) (g : ReadsText other s) → s.version ≡ r.version → s.level ≡ r.level →
    g.carries.codewords ≡ f.carries.codewords → (s.header ≡ r.header) × (s.text ≡ r.text)
text_of_codewords grid other r s f g same_version same_level same =
    let bits = rw same_version at g.carries.bits_are in
    let frames : g.frame ≡ f.frame = append_cancel_right g.frame f.frame (zero_bits (missing_bits r.version))
    (sym bits ∙ (ap byte_bits same ∙ f.carries.bits_are)) in
    let framed = rw (same_version, same_level, frames) at g.framed in
    let one = frame_one_text r.version r.level s.header r.header s.text r.text s.payload r.payload f.frame framed f.framed in
    (one.0, one.1)

pub texts_apart : (grid : List Color) (r : TextReading) (f : ReadsText grid r) → IsFarFromOtherTexts grid r f
unfolding AreApart
texts_apart grid r f other s g same_version same_level differ =
    let mine = f.carries in
    let theirs = g.carries in
    let blocks : theirs.blocks ≡ mine.blocks = cc (mine.has_level, theirs.has_level) in
    AreApart-from_blocks _ _ mine.codewords mine.interleaved mine.correction mine.sound
    (carries_apart grid r.version r.level r.mask f.frame f.carries)
    theirs.codewords theirs.interleaved theirs.correction theirs.bytes_interleaved theirs.bytes_correction (rw blocks at theirs.sound)
    (λ same. let w = text_of_codewords grid other r s f g same_version same_level same in differ w.0 w.1)

-- ---- What is drawn

module _ (v : Version) (level : EcLevel) (header : Option Header) (text : List ℕ) (parts : List Part) (symbol : DrawnSymbol) (has : HasHeader v header)
    (written : AreTextParts v text parts) (held : HoldsParts header parts v level symbol) (room : HasRoom v level header parts) where
  -- the room is that of the symbol
  pub drawn_within : length (headed_bits v header parts) ≤ held.limit
  drawn_within = let same : room.0 ≡ held.limit = cc (room.1, held.limit_is) in omega (arith, same, room.2)

  -- A reader finds this in the symbol,
  abbrev pub drawn_reading : TextReading
  drawn_reading = text_reading_of v level symbol.mask header text (length (headed_bits v header parts))

  abbrev pub drawn_reads : ReadsText symbol.modules drawn_reading
  drawn_reads = record {
    frame = headed_bits v header parts ++ tail v held.limit (length (headed_bits v header parts));
    carries = held.holds.carries;
    framed = frame_of v level header text parts has written (held.limit, held.limit_is, drawn_within);
  }

  -- and the symbol tells it.
  pub drawn_tells : TellsTextReading symbol
  drawn_tells other seen = rw (← one_text_reading symbol.modules drawn_reading other drawn_reads seen) (held.holds.version_is, held.holds.level_is, refl)

-- ---- The smallest symbol

module _ (kind : ℕ → Version) (text : List ℕ) (level : EcLevel) (number : ℕ) (parts : List Part) (least : AreLeast (kind number) text parts)
    (smallest : (smaller : ℕ) → smaller < number → NoPartsFit (kind smaller) level text) where
  pub none_smaller : NoTextIsSmaller kind text level number (length (headed_bits (kind number) None parts))
  none_smaller grid other bits mask reads =
      let w = frame_fits reads.framed in
      let theirs = reads.framed.parts in (
        elim (cases_lt other number) [ inl below ↦ absurd (smallest other below theirs w.0) | inr past ↦ past ],
        λ same.
            let written = subst (λ n. AreTextParts (kind n) text theirs) same w.0.written in
            let long = subst (λ n. bits ≡ length (header_bits None) + bits_of_parts (kind n) theirs) same w.1 in
            omega (arith, least.bits theirs written, long, length-headed (kind number) None text parts least.written),
      )

  pub smallest_symbol : (symbol : DrawnSymbol) → PartsFit (kind number) level text parts → HoldsParts None parts (kind number) level symbol →
      (best : IsSmallestText kind text level symbol.modules) × (best.number ≡ number) × TellsTextReading symbol
  smallest_symbol symbol fits held =
      let v = kind number in
      let room = text_room v level text parts fits in
      let known = drawn_reading v level None text parts symbol tt fits.written held room in
      let reads = drawn_reads v level None text parts symbol tt fits.written held room in (
        record {
          number = number;
          mask = symbol.mask;
          payload = length (headed_bits v None parts);
          reading = known;
          says = refl;
          reads = reads;
          only = λ other seen. one_text_reading symbol.modules other known seen reads;
          functional = held.holds.carries.functional;
          least = least;
          smallest = smallest;
          none_smaller = none_smaller;
          best_mask = held.holds.best_mask;
          apart = held.holds.apart;
          far = texts_apart symbol.modules known reads;
        },
        refl,
        drawn_tells v level None text parts symbol tt fits.written held room,
      )
