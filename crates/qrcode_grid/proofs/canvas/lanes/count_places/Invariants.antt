-- The places of the blocks before this one are counted, and the rows before this one are found.
use Rattle.qrcode_grid.proofs.Prelude.{◌≡◌, ◌<◌, ◌≤◌, ◌+◌, ◌*◌, ◌/◌, ℕ, [], length, get_or, min, replicate, count_below, Marks}
use Rattle.qrcode_grid.specs.Scoring.{has_byte}
use Rattle.qrcode_grid.proofs.canvas.lanes.count_places.Given as goal

abbrev pub invariant-loop-block : goal.invariant-loop-block
invariant-loop-block l = l.total ≡ count_below (has_byte l.squares l.upper l.lower) (min (256 * l.block) (l.places / 16 * 16))

abbrev pub invariant-loop-i : goal.invariant-loop-i
invariant-loop-i l = record {
  size : length l.rows ≡ 16;
  found : (i : ℕ) → i < l.i → Marks (get_or l.rows i []) (λ m j. has_byte l.squares l.upper l.lower (256 * l.block + 16 * i + j));
  left : (i : ℕ) → l.i ≤ i → i < 16 → get_or l.rows i [] ≡ replicate 16 0;
}

abbrev pub invariant-loop-at : goal.invariant-loop-at
invariant-loop-at l = l.total ≡ count_below (has_byte l.squares l.upper l.lower) l.at
