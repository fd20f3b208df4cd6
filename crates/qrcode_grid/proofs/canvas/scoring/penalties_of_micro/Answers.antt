use Rattle.qrcode_grid.proofs.Prelude.{◌≡◌, ℕ, ◌+◌, ◌-◌, ◌*◌, ◌<◌, ◌≤◌, ◌==◌, List, count_by, drop, take, get_or, length, ◌∙◌, sym, arith, row, column, plane}
use Rattle.qrcode_grid.proofs.Prelude.{take_more, take_all, length-take, common_steps}
use Rattle.qrcode_grid.proofs.PaddedCounts.{length-row, length-column, get_or-row, get_or-column}
use Rattle.qrcode_grid.proofs.MarkedLanes.{length-plane, plane_at, plane_small}
use Rattle.std.proofs.lemmas.{List.drop-append-le, Nat.Bits.shr_and_one}
use Rattle.qrcode_grid.proofs.canvas.scoring.penalties_of_micro.Goals as goal

-- one more module of a line is looked at
lights_more : (xs : List ℕ) (k n b : ℕ) → 1 ≤ k → k < length xs → n ≡ count_by (λ m. m == 0) (drop 1 (take k xs)) → get_or xs k 0 ≡ b → b ≤ 1 →
    n + (1 - b) ≡ count_by (λ m. m == 0) (drop 1 (take (k + 1) xs))
lights_more xs k n b some inside is here bit = grind (arith, common_steps, take_more, drop-append-le, length-take)

pub loop-k-preserved : goal.loop-k-preserved
loop-k-preserved c =
    let w = c.args.width in let m = c.loop-m.m in let grid = c.args.grid.now in let cells = plane m grid in let k = c.loop-k.k in let y = w - 1 in
    let square : length cells ≡ w * w = length-plane m grid ∙ c.requires.square in
    let inside : k < w = omega arith in
    let last : y < w = omega arith in
    let right : c.from.result ≡ get_or (row w cells y) k 0 =
    c.from.ensures ∙ shr_and_one (get_or grid (y * w + k) 0) m ∙ sym (get_or-row w cells y square last k inside ∙ plane_at m grid (y * w + k)) in
    let low : c.from-in-loop-k.result ≡ get_or (column w cells y) k 0 =
    c.from-in-loop-k.ensures ∙ shr_and_one (get_or grid (k * w + y) 0) m ∙ sym (get_or-column w cells y k inside ∙ plane_at m grid (k * w + y)) in
    record {
      row = lights_more (row w cells y) k c.loop-k.h c.from.result c.loop-k.auto.k (omega (arith, length-row w cells y square last))
          c.loop-k.invariant.row (sym right) (omega (arith, right, get_or-row w cells y square last k inside, plane_small m grid (y * w + k)));
      column = lights_more (column w cells y) k c.loop-k.v c.from-in-loop-k.result c.loop-k.auto.k (omega (arith, length-column w cells y))
          c.loop-k.invariant.column (sym low) (omega (arith, low, get_or-column w cells y k inside, plane_small m grid (k * w + y)));
      few = omega (arith, c.loop-k.invariant.few);
      low = omega (arith, c.loop-k.invariant.low);
    }

pub loop-m-preserved : goal.loop-m-preserved
loop-m-preserved c = grind (arith, common_steps, length-plane, take_all, length-row, length-column)
