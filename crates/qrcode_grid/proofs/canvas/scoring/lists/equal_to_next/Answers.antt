use Rattle.qrcode_grid.proofs.Prelude.{◌≡◌, ◌+◌, ◌*◌, ◌==◌, get_or, ap, ◌∙◌, arith, add-mul, is_same, plane}
use Rattle.qrcode_grid.proofs.MarkedLanes.{marks_same, marks_as}
use Rattle.qrcode_grid.proofs.canvas.scoring.lists.equal_to_next.Goals as goal

pub returns : goal.returns
returns c =
    let l = c.args.list.now in let at = c.args.at in let here = c.args.i * c.args.step in let next = (c.args.i + 1) * c.args.step in
    let far : next ≡ here + 1 * c.args.step = add-mul c.args.i 1 c.args.step in
    marks_as _ _ (λ m j. is_same c.args.step (plane m l) (at + j) c.args.i)
    (λ m j.
    let one : at + here + j ≡ at + j + here = omega arith in
    let other : at + next + j ≡ at + j + next = omega arith in
    ap (λ k. get_or (plane m l) k 0 == get_or (plane m l) (at + next + j) 0) one
    ∙ ap (λ k. get_or (plane m l) (at + j + here) 0 == get_or (plane m l) k 0) other)
    (marks_same l c.type_inv.list (at + here) (at + next) (omega (arith, far, c.requires.within)) (omega (arith, c.requires.within)))
