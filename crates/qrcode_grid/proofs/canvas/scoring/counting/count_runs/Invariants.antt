-- The places of the chunks before this one are counted, and the rows before this one are found.
use Rattle.qrcode_grid.proofs.Prelude.{◌≡◌, ◌<◌, ◌≤◌, ◌+◌, ◌*◌, ℕ, [], length, get_or, count_below, tallied, has_five, has_six, plane, Marks}
use Rattle.qrcode_grid.proofs.canvas.scoring.counting.count_runs.Given as goal

abbrev pub invariant-loop-chunk : goal.invariant-loop-chunk
invariant-loop-chunk l = record {
  sizes : (length l.five ≡ 16) × (length l.six ≡ 16);
  small_fives : (m : ℕ) → m < 8 → get_or l.fives.sums m 0 ≤ 16 * l.chunk;
  small_sixes : (m : ℕ) → m < 8 → get_or l.sixes.sums m 0 ≤ 16 * l.chunk;
  fives : (m : ℕ) → m < 8 → tallied m l.fives ≡ count_below (has_five l.step (plane m l.twins)) (256 * l.chunk);
  sixes : (m : ℕ) → m < 8 → tallied m l.sixes ≡ count_below (has_six l.step (plane m l.twins)) (256 * l.chunk);
}

abbrev pub invariant-loop-i : goal.invariant-loop-i
invariant-loop-i l = record {
  sizes : (length l.five ≡ 16) × (length l.six ≡ 16);
  found_fives : (i : ℕ) → i < l.i → Marks (get_or l.five i []) (λ m j. has_five l.step (plane m l.twins) (256 * l.chunk + 16 * i + j));
  found_sixes : (i : ℕ) → i < l.i → Marks (get_or l.six i []) (λ m j. has_six l.step (plane m l.twins) (256 * l.chunk + 16 * i + j));
}
