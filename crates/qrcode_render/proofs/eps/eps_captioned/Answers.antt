-- The pieces of the document, one after the other.
use Rattle.std.proofs.Common.{◌≡◌, ◌++◌, ◌∙◌}
use Rattle.std.specs.String.{string_bytes}
use Rattle.std.specs.Option.{option_copied}
use Rattle.picture_settings.proofs.Ranges.{seven_pieces}
use Rattle.grid_pictures.specs.{Pictures.columns_of, Pictures.rows_of, Paths.path, Picture.shown}
use Rattle.grid_pictures.specs.Pens.{eps_rectangle}
use Rattle.qrcode_render.specs.Eps.{module_points, eps_comments, eps_setup, eps_finish, eps_ground, eps_ink, title_comment}
use Rattle.qrcode_render.specs.Captions.{block_below, high}
use Rattle.qrcode_render.proofs.eps.eps_captioned.Goals as goal

pub returns : goal.returns
returns c =
    let p = shown c.args.picture.now in
    let mm = c.args.module_um in
    let caption = block_below mm (option_copied c.args.texts.caption) p in
    let rows = high caption (rows_of p) in
    let head = eps_comments mm p.scale (columns_of p) rows in
    let title = title_comment (option_copied c.args.texts.title) in
    let setup = eps_setup (module_points mm p.scale) rows in
    let ground = eps_ground c.args.colors.light (columns_of p) rows in
    let ink = eps_ink c.args.colors.dark in
    let runs = path eps_rectangle p (rows_of p) in
    let end = eps_finish caption (columns_of p) (rows_of p) in
    let pieces : string_bytes c.push_end.new.text ≡ (((((head ++ title) ++ setup) ++ ground) ++ ink) ++ runs) ++ end =
    cc (
      c.in_ok-caption.ensures,
      c.high-rows.ensures.exact,
      c.in_ok-text.ensures,
      c.in_ok-push_title.ensures,
      c.in_ok-points.ensures,
      c.in_ok-setup.ensures,
      c.in_ok-push_str.ensures.bytes,
      c.in_ok-ground.ensures,
      c.in_ok-push_str-2.ensures.bytes,
      c.in_ok-ink.ensures,
      c.in_ok-push_str-3.ensures.bytes,
      c.in_ok-push_path.ensures,
      c.in_ok-push_end.ensures,
      c.as_str.ensures.value,
      c.as_str-2.ensures.value,
      c.as_str-3.ensures.value,
      c.deref.ensures,
    ) in
    pieces ∙ seven_pieces head title setup ground ink runs end
