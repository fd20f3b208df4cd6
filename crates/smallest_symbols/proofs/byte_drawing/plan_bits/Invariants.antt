-- The segments so far were pushed.
use Rattle.std.proofs.Common.{◌≡◌, take}
use Rattle.qrcode_bits.specs.Frame.{spellings}
use Rattle.qrcode_bits.specs.Spelling.{segment_pieces}
use Rattle.smallest_symbols.proofs.byte_drawing.plan_bits.Given as goal

abbrev pub invariant-loop-segment : goal.invariant-loop-segment
invariant-loop-segment l = record {
  version : l.bits.version ≡ l.fn.version;
  bits : l.bits.bits ≡ spellings l.fn.version (segment_pieces l.bytes (take l.segment-index l.plan));
}
