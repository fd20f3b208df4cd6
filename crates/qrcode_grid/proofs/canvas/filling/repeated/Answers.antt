use Rattle.qrcode_grid.proofs.Prelude.{◌≡◌, ◌-◌, ◌≤◌, ◌++◌, ℕ, List, arith, replicate, take, length, take_all, length-replicate, replicate-append-replicate}
use Rattle.qrcode_grid.proofs.Prelude.{common_steps}
use Rattle.qrcode_grid.proofs.canvas.filling.repeated.Goals as goal

-- a list of one value, filled up to a length
filled_up : {A : Type 0} (xs : List A) (k m n : ℕ) (v : A) → xs ≡ replicate k v → m ≡ length xs → k ≤ n → take n xs ++ replicate (n - m) v ≡ replicate n v
filled_up xs k m n v same all few = grind (arith, common_steps, length-replicate, take_all, replicate-append-replicate)

pub loop-part-preserved : goal.loop-part-preserved
loop-part-preserved g c = grind (arith, common_steps, filled_up)

pub returns : goal.returns
returns g c = grind (arith, common_steps, filled_up)
