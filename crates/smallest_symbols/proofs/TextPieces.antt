-- What is drawn of the least parts after a header, in the smallest version, is the smallest symbol of
-- the piece.
use Rattle.std.proofs.Common.{◌≡◌, ℕ, ◌+◌, length, List, inl, inr, refl, subst, arith}
use Rattle.std.specs.Prelude.{Some}
use Rattle.std.proofs.lemmas.Bool.{cases_lt}
use Rattle.qrcode_base.specs.declared.types.EcLevel.{EcLevel}
use Rattle.qrcode_bits.specs.Frame.{HasHeader, Header, header_bits}
use Rattle.qrcode_bits.specs.Plans.{normal}
use Rattle.qrcode_bits.proofs.Reading.{length-header}
use Rattle.qrcode_core.specs.Symbol.{DrawnSymbol}
use Rattle.character_sets.specs.Reading.{Part}
use Rattle.text_plans.specs.Costs.{AreTextParts, bits_of_parts}
use Rattle.text_plans.specs.Manners.{ArePartsIn}
use Rattle.text_plans.specs.declared.rules.Manner.{Manner}
use Rattle.text_plans.proofs.Starts.{text_in}
use Rattle.smallest_symbols.specs.TextFrames.{headed_bits}
use Rattle.smallest_symbols.specs.TextHeadline.{HoldsParts, TellsTextReading}
use Rattle.smallest_symbols.specs.TextParts.{IsPartChoice}
use Rattle.smallest_symbols.specs.TextPieces.{IsSmallestPartUpTo, NoPieceIsSmaller}
use Rattle.smallest_symbols.proofs.TextFrames.{frame_fits, length-headed, piece_fits, piece_room}
use Rattle.smallest_symbols.proofs.TextHeadline.{drawn_reading, drawn_reads, drawn_tells}
use Rattle.smallest_symbols.proofs.TextHeadline.{one_text_reading, texts_apart}

module _ (manner : Manner) (header : Header) (text : List ℕ) (level : EcLevel) (limit number : ℕ) (parts : List Part)
    (choice : IsPartChoice manner text level limit number parts) where
  abbrev size : ℕ
  size = length (headed_bits (normal number) (Some header) parts)

  written : AreTextParts (normal number) text parts
  written = text_in manner (normal number) text parts choice.fits.written

  none_smaller : NoPieceIsSmaller manner text level number size
  none_smaller grid other bits mask theirs_header reads known =
      let theirs = reads.framed.parts in (
        elim (cases_lt other number) [
          | inl below ↦ absurd (choice.smallest other below theirs (piece_fits reads.framed manner known))
          | inr past ↦ past
        ],
        λ same.
            let theirs_are = subst (λ n. ArePartsIn manner (normal n) text theirs) same known in
            let long = subst (λ n. bits ≡ length (header_bits (Some theirs_header)) + bits_of_parts (normal n) theirs) same (frame_fits reads.framed).1 in
            omega (
              arith,
              choice.are_least.bits theirs theirs_are,
              long,
              length-headed (normal number) (Some header) text parts written,
              length-header header,
              length-header theirs_header,
            ),
      )

  -- The symbol of a header and of a choice after it is the smallest of the piece.
  pub smallest_piece : HasHeader (normal number) (Some header) → (symbol : DrawnSymbol) → HoldsParts (Some header) parts (normal number) level symbol →
      IsSmallestPartUpTo manner header text level limit symbol.modules × TellsTextReading symbol
  smallest_piece has symbol held =
      let v = normal number in
      let room = piece_room manner v level header text parts choice.fits in
      let known = drawn_reading v level (Some header) text parts symbol has written held room in
      let reads = drawn_reads v level (Some header) text parts symbol has written held room in (
        record {
          best = record {
            number = number;
            mask = symbol.mask;
            payload = size;
            reading = known;
            says = refl;
            reads = reads;
            only = λ other seen. one_text_reading symbol.modules other known seen reads;
            functional = held.holds.carries.functional;
            least = choice.are_least;
            smallest = choice.smallest;
            none_smaller = none_smaller;
            best_mask = held.holds.best_mask;
            apart = held.holds.apart;
            far = texts_apart symbol.modules known reads;
          };
          up_to = choice.up_to;
        },
        drawn_tells v level (Some header) text parts symbol has written held room,
      )
