-- The output has the bytes of the picture, which are those of the settings that are asked for.
use Rattle.std.proofs.Common.{◌≡◌, Bool, refl, subst, rules}
use Rattle.picture_settings.specs.Formats.{is_text_format}
use Rattle.grid_pictures.specs.Pictures.{Picture, picture}
use Rattle.grid_pictures.specs.Picture.{shown}
use Rattle.qrcode_render.specs.Drawings.{IsPictureAs, drawn_bytes, is_drawn_text}
use Rattle.qrcode_render.specs.Renderers.{IsOutput}
use Rattle.qrcode_render.proofs.renderers.render_as.Goals as goal

pub returns-in_ok-draw_as-in-Some : goal.returns-in_ok-draw_as-in-Some
returns-in_ok-draw_as-in-Some g c =
    let o = c.in_ok-options.options in
    let asked = c.in_ok-options.ensures.made in
    let drawn = c.in_ok-draw_as-in-Some.field-0 in
    let grid = (goal.ModuleSource-dyn g c.args.code.now).grid c.args.code.now.1 in
    let shown_is : shown c.in-Some.picture ≡ picture grid o.scale o.quiet =
    rw (c.in-Some.ensures.shown, c.shape.ensures.scale, c.shape.ensures.quiet) refl in
    let text_is : is_drawn_text drawn ≡ is_text_format c.args.format = rw (c.in_ok-draw_as-in-Some.ensures.text, asked.made.format_is) refl in
    record {
      settings = asked.settings;
      asked = asked.asked;
      drawable = search rules;
      bytes = drawn_bytes drawn;
      has_bytes = subst (λ (b : Bool). IsOutput b (drawn_bytes drawn) c.output_of.result) text_is c.output_of.ensures;
      shows = record {
        options = o;
        valid = asked.asked.valid;
        made = asked.made;
        shows = subst (λ (p : Picture). IsPictureAs o.format o p (drawn_bytes drawn)) shown_is c.in_ok-draw_as-in-Some.ensures.shown;
      };
    }
