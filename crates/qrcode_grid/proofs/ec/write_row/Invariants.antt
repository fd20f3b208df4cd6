-- The row is written as far as this block.
use Rattle.qrcode_grid.proofs.Prelude.{◌≡◌, length, take, sum, place_in_stream, IsWrittenTo}
use Rattle.qrcode_grid.proofs.ec.write_row.Given as goal

abbrev pub invariant-loop-size : goal.invariant-loop-size
invariant-loop-size g l = record {
  long : length l.stream ≡ length l.bytes;
  next : l.next ≡ place_in_stream l.sizes l.row l.size-index;
  written : IsWrittenTo l.sizes l.bytes l.stream l.next;
  started : l.start ≡ sum (take l.size-index l.sizes);
}
