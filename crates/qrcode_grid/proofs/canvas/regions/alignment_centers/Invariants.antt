-- The coordinates before this one are in the list.
use Rattle.qrcode_grid.proofs.Prelude.{◌≡◌, ◌≤◌, ◌+◌, ◌*◌, All, map, range_with_len, alignment_coordinate}
use Rattle.qrcode_grid.proofs.canvas.regions.alignment_centers.Given as goal

abbrev pub invariant-loop-k : goal.invariant-loop-k
invariant-loop-k l = record {
  so_far : l.centers.items ≡ map (alignment_coordinate l.n) (range_with_len 0 l.k);
  inside : All (λ center. (2 ≤ center) × (center + 3 ≤ 4 * l.n + 17)) l.centers.items;
}
