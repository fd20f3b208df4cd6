-- What is drawn of pieces with the fewest bits, in the smallest version that some fit, is the best
-- symbol without the Kanji mode.
use Rattle.std.proofs.Common.{◌≡◌, ℕ, ◌<◌, List, ◌++◌, inl, inr, refl, subst, arith}
use Rattle.std.proofs.lemmas.Bool.{cases_lt}
use Rattle.qrcode_base.specs.declared.types.EcLevel.{EcLevel}
use Rattle.qrcode_base.specs.declared.types.Version.{Version}
use Rattle.qrcode_bits.specs.Frame.{no_front, spellings, tail}
use Rattle.qrcode_bits.specs.Spelling.{Piece}
use Rattle.qrcode_core.specs.Headline.{Reading, Reads, reading_of}
use Rattle.qrcode_core.specs.Symbol.{DrawnSymbol}
use Rattle.qrcode_core.proofs.Best.{grids_apart}
use Rattle.qrcode_core.proofs.OneReading.{one_reading}
use Rattle.smallest_symbols.specs.ByteChoices.{AreFewestBits}
use Rattle.smallest_symbols.specs.ByteHeadline.{HoldsPieces, IsBestWithoutKanji}
use Rattle.smallest_symbols.specs.ByteHeadline.{NoneIsBetterWithoutKanji}
use Rattle.smallest_symbols.specs.BytePieces.{ArePiecesOf, NoPiecesFit, PiecesFit, bits_of_pieces}
use Rattle.smallest_symbols.proofs.ByteFrames.{frame_fits, frame_of, never_kanji}

module _ (kind : ℕ → Version) (bytes : List ℕ) (level : EcLevel) (number : ℕ) (pieces : List Piece)
    (fewest : AreFewestBits (kind number) bytes (bits_of_pieces (kind number) pieces))
    (smallest : (smaller : ℕ) → smaller < number → NoPiecesFit (kind smaller) level bytes) where
  pub none_better : NoneIsBetterWithoutKanji kind bytes level number (bits_of_pieces (kind number) pieces)
  none_better grid other bits mask r =
      let w = frame_fits r.reads.framed r.no_kanji in
      let theirs = r.reads.framed.pieces in (
        elim (cases_lt other number) [ inl below ↦ absurd (smallest other below theirs w.0) | inr past ↦ past ],
        λ same.
            let are = subst (λ n. ArePiecesOf (kind n) bytes theirs) same w.0.pieces_are in
            let long = subst (λ n. bits ≡ bits_of_pieces (kind n) theirs) same w.1 in
            omega (arith, fewest theirs are, long),
      )

  pub best_symbol : (symbol : DrawnSymbol) → PiecesFit (kind number) level bytes pieces → HoldsPieces pieces (kind number) level symbol →
      (best : IsBestWithoutKanji kind bytes level symbol.modules) × (best.number ≡ number)
  best_symbol symbol found held =
      let grid = symbol.modules in
      let holds = held.holds in
      let fits : PiecesFit (kind number) level bytes pieces = record {
        pieces_are = found.pieces_are;
        limit = held.limit;
        has_level = held.limit_is;
        within = (let same : found.limit ≡ held.limit = cc (found.has_level, held.limit_is) in omega (arith, same, found.within));
      } in
      let known : Reading = reading_of (kind number) level symbol.mask no_front bytes (bits_of_pieces (kind number) pieces) in
      let reads : Reads grid known = record {
        frame = spellings (kind number) pieces ++ tail (kind number) held.limit (bits_of_pieces (kind number) pieces);
        carries = holds.carries;
        framed = frame_of (kind number) level bytes pieces fits;
      } in (
        record {
          number = number;
          mask = symbol.mask;
          payload = bits_of_pieces (kind number) pieces;
          reading = known;
          says = refl;
          reads = reads;
          only = λ other seen. one_reading grid other known seen reads;
          no_kanji = never_kanji grid known reads refl found.pieces_are.no_kanji;
          functional = holds.carries.functional;
          fewest = fewest;
          smallest = smallest;
          none_better = none_better;
          best_mask = holds.best_mask;
          apart = holds.apart;
          far = grids_apart grid known reads;
        },
        refl,
      )
