use Rattle.qrcode_grid.proofs.Prelude.{◌≡◌, ap, ◌∙◌, sym, map, get_or, Normal, width_of, color_of_module, masked_cells, normal_penalty, penalty, pattern_of}
use Rattle.qrcode_grid.proofs.Prelude.{plane}
use Rattle.qrcode_grid.proofs.canvas.scoring.penalties_of.Goals as goal

pub returns-in-Normal-clause-penalties : goal.returns-in-Normal-clause-penalties
returns-in-Normal-clause-penalties c = λ m h.
    let cells = plane m c.write_candidates.new.grid in
    let colors = map color_of_module
    (masked_cells c.args.version c.args.width (get_or c.args.words.now m 0) (pattern_of m) c.args.modules.now) in
    let e : c.args.width ≡ width_of (Normal c.in-Normal.field-0) = c.requires.wide ∙ ap width_of c.in-Normal.is in
    c.penalties_of_normal.ensures m h
    ∙ ap (λ w. normal_penalty w cells) e
    ∙ ap (normal_penalty (width_of (Normal c.in-Normal.field-0))) (c.write_candidates.ensures m h)
    ∙ ap (λ v. penalty v colors) (sym c.in-Normal.is)
