use Rattle.std.proofs.Common.{◌≡◌, ◌/◌, length, ap, sym, ◌∙◌, arith}
use Rattle.grid_pictures.{specs.Pictures.columns_of, specs.Pictures.is_dark_module, specs.Picture.shown}
use Rattle.grid_pictures.proofs.BitmapLemmas.{columns_row, whole_row}
use Rattle.grid_pictures.proofs.PackedLemmas.{light_pixels}
use Rattle.grid_pictures.proofs.bitmap.write_row.Goals as goal

pub returns-then-is_light : goal.returns-then-is_light
returns-then-is_light c =
    let p = shown c.args.picture.now in
    c.fill.ensures.after (λ y same. same)
    ∙ light_pixels p c.args.y _ c.requires
    (λ column.
    ap (λ s. is_dark_module p column (c.args.y / s)) (sym c.scale-scale.ensures.exact)
    ∙ (sym (c.row-row.ensures.dark column) ∙ c.is_light.ensures.light c.if-is_light.true column))

pub returns-then-scale-eq8 : goal.returns-then-scale-eq8
returns-then-scale-eq8 c =
    let p = shown c.args.picture.now in
    let eight : p.scale ≡ 8 = omega (arith, c.scale-scale.ensures.exact, c.if-scale-eq8.true) in
    let wide : length c.args.line.now ≡ columns_of p = omega (arith, c.requires, whole_row p 1 eight) in
    c.write_bytes.ensures
    ∙ columns_row p c.row-row.result c.args.y (length c.args.line.now) eight wide
    (λ x. c.row-row.ensures.dark x ∙ ap (λ s. is_dark_module p x (c.args.y / s)) c.scale-scale.ensures.exact)
