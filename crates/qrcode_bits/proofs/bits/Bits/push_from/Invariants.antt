-- Some segments were taken; pushing them and others is pushing the others from here.
use Rattle.qrcode_bits.proofs.Prelude.{List, ◌++◌, Result, QrError, Stream, Piece, Segment, segment_pieces, ℕ}
use Rattle.std.specs.Iterator.{Yields, IsFinite, size}
use Rattle.qrcode_bits.proofs.Pushes.{PushesInTurn}
use Rattle.qrcode_bits.proofs.bits.Bits.push_from.Given as goal

abbrev pub InTurn : Stream → Stream → List ℕ → List Segment → Type 0
InTurn first now bytes ys = (result : Result Unit QrError) (new : Stream) (rest : List Piece) → PushesInTurn now rest result new →
    PushesInTurn first (segment_pieces bytes ys ++ rest) result new

abbrev pub invariant-loop-segment : goal.invariant-loop-segment
invariant-loop-segment g l = record {
  can : g.I.Iterator.can_next l.segments;
  ends : IsFinite (g.I.Iterator.remaining l.segments);
  drawn : (ys : List Segment) × Yields g.I.Iterator.next_gives l.initial.segments ys l.segments × InTurn l.initial.self l.self l.bytes ys;
}

abbrev pub decreases-loop-segment : goal.decreases-loop-segment
decreases-loop-segment g l = size (g.I.Iterator.remaining l.segments)
