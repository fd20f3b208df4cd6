-- The rows so far were added.
use Rattle.std.proofs.Common.{◌≡◌, ◌+◌, ◌/◌, ◌++◌, length}
use Rattle.grid_pictures.specs.Texts.{text_bytes, text_of}
use Rattle.grid_pictures.proofs.text.push_text.Given as goal

abbrev pub invariant-loop-row : goal.invariant-loop-row
invariant-loop-row l = record {
  added : l.bytes.items ≡ l.initial.bytes.items ++ text_bytes (text_of l.text) l.row;
  long : length l.line.items ≡ (l.text.width + 7) / 8;
}
