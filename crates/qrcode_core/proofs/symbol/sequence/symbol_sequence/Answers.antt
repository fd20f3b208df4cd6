-- The modules of the symbols of the sequence.
use Rattle.qrcode_core.proofs.Prelude.{arith, map, common_steps, to_z-of_z, IfOk-weaker, modules_of, IsPermutation-refl}
use mir.Syntax.{w16}
use Rattle.qrcode_core.proofs.symbol.sequence.symbol_sequence.Goals as goal

pub returns-clause-fitting : goal.returns-clause-fitting
returns-clause-fitting c =
    let fitting = rw (to_z-of_z w16 c.args.max_version c.ranges.max_version) at c.in_ok-symbols.ensures.fitting in
    IfOk-weaker c.colors_of_all.result _ _ (λ _ _. fitting) c.colors_of_all.ensures.all

pub returns-clause-refusal : goal.returns-clause-refusal
returns-clause-refusal c =
    let grids = map modules_of c.in_ok-symbols.symbols.items in
    let best = c.in_ok-symbols.ensures.best in
    grind (arith, common_steps, to_z-of_z, best.a_grid_each, (best.reads grids (IsPermutation-refl grids)).enough)

pub returns-in_err-symbols-clause-refusal : goal.returns-in_err-symbols-clause-refusal
returns-in_err-symbols-clause-refusal c =
    let refused = rw (to_z-of_z w16 c.args.max_version c.ranges.max_version) at c.in_err-symbols.ensures.refusal in
    grind (arith, common_steps, refused)
