-- All parts have their symbols.
use Rattle.qrcode_core.proofs.Prelude.{refl}
use Rattle.qrcode_core.proofs.Sequences.{best_symbols}
use Rattle.qrcode_core.proofs.laws.parts_are_one_message.Goals as goal

pub returns : goal.returns
returns c = λ content message cuts level limit grids rise few size each.
    best_symbols content message cuts level limit _ _ grids rise few refl refl
    (record { a_grid_each = size; each_best = λ i inside. each i (rw size inside) })
