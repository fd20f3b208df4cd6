-- The places of the chunks before this one are counted, and the rows before this one are found.
use Rattle.qrcode_grid.proofs.Prelude.{◌≡◌, ◌<◌, ◌≤◌, ◌+◌, ◌*◌, ℕ, [], length, get_or, count_below, tallied, has, plane, Marks}
use Rattle.qrcode_grid.proofs.canvas.scoring.counting.count.Given as goal

abbrev pub invariant-loop-chunk : goal.invariant-loop-chunk
invariant-loop-chunk l = record {
  size : length l.rows ≡ 16;
  small : (m : ℕ) → m < 8 → get_or l.tally.sums m 0 ≤ 16 * l.chunk;
  so_far : (m : ℕ) → m < 8 → tallied m l.tally ≡ count_below (has l.feature l.width l.step (plane m l.padded) (plane m l.twins)) (256 * l.chunk);
}

abbrev pub invariant-loop-i : goal.invariant-loop-i
invariant-loop-i l = record {
  size : length l.rows ≡ 16;
  found :
      (i : ℕ) → i < l.i → Marks (get_or l.rows i []) (λ m j. has l.feature l.width l.step (plane m l.padded) (plane m l.twins) (256 * l.chunk + 16 * i + j));
}
