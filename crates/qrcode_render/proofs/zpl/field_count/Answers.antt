-- The height in fields, rounded up.
use Rattle.std.proofs.Common.{◌+◌, ◌-◌, ◌/◌, ◌∙◌, ap}
use Rattle.grid_pictures.specs.{Pictures.pixel_height, Picture.shown}
use Rattle.qrcode_render.proofs.BandLemmas.{rounded_up}
use Rattle.qrcode_render.proofs.zpl.field_count.Goals as goal

pub returns : goal.returns
returns c =
    let p = shown c.args.picture.now in
    let rows = c.field_rows.result in
    c.div_ceil.ensures
    ∙ (rounded_up c.height.result rows c.field_rows.ensures.some
    ∙ (ap (λ h. (h + (rows - 1)) / rows) c.height.ensures.exact
    ∙ ap (λ r. (pixel_height p + (r - 1)) / r) c.field_rows.ensures.exact))
