-- The pieces of the document, one after the other.
use Rattle.std.proofs.Common.{◌≡◌, ◌++◌, ◌∙◌}
use Rattle.std.specs.String.{string_bytes}
use Rattle.std.specs.Option.{option_copied}
use Rattle.picture_settings.proofs.Ranges.{six_pieces}
use Rattle.grid_pictures.specs.{Pictures.columns_of, Pictures.rows_of, Pictures.pixel_width, Picture.shown}
use Rattle.grid_pictures.specs.{Paths.path, Pens.rectangle}
use Rattle.qrcode_render.specs.Svg.{svg_side, svg_tag, title_element, svg_ground, path_start, stroke, svg_end}
use Rattle.qrcode_render.specs.Captions.{block_below, high, high_pixels}
use Rattle.qrcode_render.proofs.svg.svg_captioned.Goals as goal

pub returns : goal.returns
returns c =
    let p = shown c.args.picture.now in
    let mm = c.args.module_um in
    let caption = block_below mm (option_copied c.args.texts.caption) p in
    let rows = high caption (rows_of p) in
    let tag = svg_tag (svg_side mm (columns_of p) (pixel_width p)) (svg_side mm rows (high_pixels caption p)) (columns_of p) rows in
    let title = title_element (option_copied c.args.texts.title) in
    let ground = svg_ground c.args.colors.light (columns_of p) rows in
    let start = path_start (stroke c.args.colors.dark) in
    let runs = path rectangle p (rows_of p) in
    let end = svg_end caption c.args.colors.dark (rows_of p) in
    let pieces : string_bytes c.push_end.new.text ≡ ((((tag ++ title) ++ ground) ++ start) ++ runs) ++ end =
    cc (
      c.in_ok-caption.ensures,
      c.high-rows.ensures.exact,
      c.high_pixels.ensures,
      c.in_ok-width.ensures,
      c.in_ok-height.ensures,
      c.in_ok-text.ensures,
      c.in_ok-push_title.ensures,
      c.in_ok-ground.ensures,
      c.in_ok-push_str.ensures.bytes,
      c.in_ok-start.ensures,
      c.in_ok-push_str-2.ensures.bytes,
      c.in_ok-push_path.ensures,
      c.in_ok-push_end.ensures,
      c.as_str.ensures.value,
      c.as_str-2.ensures.value,
      c.deref.ensures,
      c.deref-2.ensures,
    ) in
    pieces ∙ six_pieces tag title ground start runs end
