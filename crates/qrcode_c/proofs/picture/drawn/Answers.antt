-- The format and the settings that the numbers mean are those of the picture.
use Rattle.std.proofs.Common.{w32, rules}
use Rattle.std.proofs.lemmas.Int.{to_z-of_z}
use Rattle.qrcode_c.proofs.picture.drawn.Goals as goal

pub returns-in-Ok-draw_square-clause-shown : goal.returns-in-Ok-draw_square-clause-shown
returns-in-Ok-draw_square-clause-shown c =
    record {
      square = search rules;
      asks = record {
        format = c.in-Some.format;
        format_is = rw (to_z-of_z w32 c.args.format c.ranges.format) at c.in-Some.ensures.format;
        settings = c.settings_of-settings.result;
        means = record {
          scale_is = c.settings_of-settings.ensures.scale_is;
          quiet_is = c.settings_of-settings.ensures.quiet_is;
          module_is = c.settings_of-settings.ensures.module_is;
          dpi_is = c.settings_of-settings.ensures.dpi_is;
          inverted_is = c.settings_of-settings.ensures.inverted_is;
          title_is = c.settings_of-settings.ensures.title_is;
          caption_is = c.settings_of-settings.ensures.caption_is;
          at_is = c.settings_of-settings.ensures.at_is;
          copies_is = c.settings_of-settings.ensures.copies_is;
          compressed_is = c.settings_of-settings.ensures.compressed_is;
          feed_is = c.settings_of-settings.ensures.feed_is;
          cut_is = c.settings_of-settings.ensures.cut_is;
          colors_are = c.settings_of-settings.ensures.colors_are;
          any_colors_is = c.settings_of-settings.ensures.any_colors_is;
        };
        true_of = record {
          options = c.in-Ok.options;
          valid = c.in-Ok.ensures.valid;
          made = c.in-Ok.ensures.made;
          shows = c.in-Ok-draw_square.ensures;
        };
      };
    }
