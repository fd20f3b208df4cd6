-- A label that is a page of a document.
use Rattle.std.proofs.Common.{◌≡◌, ℕ, Option, None, Some, List}
use Rattle.std.proofs.Common.{inr, true, false, refl, sym, arith}
use Rattle.std.specs.Option.{option_copied}
use Rattle.qrcode_core.specs.Symbol.{DrawnSymbol, drawn_grid}
use Rattle.qrcode_render.specs.Drawings.{IsPictureOf, page_as}
use Rattle.single_label.specs.Turns.{turned}
use Rattle.picture_settings.specs.declared.draw_options.DrawOptions.{DrawOptions}
use Rattle.picture_settings.specs.declared.format.Format.{Format}
use Rattle.picture_settings.specs.declared.format.Format.TheVariants.{Pdf}
use Rattle.label_words.specs.Choices.{is_pdf}
use Rattle.single_label.specs.{Labels.ShowsSymbol, Labels.IsCaptioned, Labels.is_alone, Pages.are_pages, Pages.page_alone, Pages.page_of_symbol}
use Rattle.label_words.specs.declared.command.Label.{Label}

pdf_is : (format : Format) → is_pdf format ≡ true → format ≡ Pdf
pdf_is format is = grind (arith, is)

-- the options with a text below the picture
with_text : DrawOptions → Option (List ℕ) → DrawOptions
with_text options None = options
with_text options (Some text) = record options { caption = Some (record { ref_ptr = (0, 0); now = text }) }

text_given : (options : DrawOptions) (caption : Option (List ℕ)) → IsCaptioned options caption (with_text options caption)
unfolding with_text
text_given options None = refl
text_given options (Some text) = (
  record {
    format = refl;
    scale = refl;
    quiet = refl;
    module_um = refl;
    dpi_tenths = refl;
    inverted = refl;
    title = refl;
    at = refl;
    copies = refl;
    compressed = refl;
    feed = refl;
    cut = refl;
    colors = refl;
  },
  refl,
)

drawn_page : (label : Label) (options : DrawOptions) (caption : Option (List ℕ)) (symbol : DrawnSymbol) → options.format ≡ Pdf →
    IsPictureOf (with_text options caption) (turned label.turn (drawn_grid symbol))
    (page_alone (option_copied options.title) (page_of_symbol label options caption symbol))
unfolding with_text
drawn_page label options None symbol format = rw format refl
drawn_page label options (Some text) symbol format = rw format refl

-- the document of a page alone is the label
pub shows_page : (label : Label) (options : DrawOptions) (content caption : Option (List ℕ)) (symbol : DrawnSymbol) → are_pages label options ≡ true →
    ShowsSymbol label options content caption symbol (page_alone (option_copied options.title) (page_of_symbol label options caption symbol))
shows_page label options content caption symbol is =
    let format : options.format ≡ Pdf = pdf_is options.format (grind (arith, is)) in
    let drawn : is_alone label.details ≡ false = grind (arith, is) in
    let plain : label.colored ≡ false = grind (arith, is) in
    inr (
      drawn,
      record {
        captioned = with_text options caption;
        are_captioned = text_given options caption;
        picture = page_alone (option_copied options.title) (page_of_symbol label options caption symbol);
        drawn = drawn_page label options caption symbol format;
        drawing_is = rw plain refl;
      },
    )

-- the page of options with a text is that of the symbol with it
pub captioned_page_is : (label : Label) (options drawn : DrawOptions) (caption : Option (List ℕ)) (symbol : DrawnSymbol) →
    IsCaptioned options caption drawn → page_as drawn (turned label.turn (drawn_grid symbol)) ≡ page_of_symbol label options caption symbol
captioned_page_is label options drawn None symbol same = rw same refl
captioned_page_is label options drawn (Some text) symbol captioned =
    let same = captioned.0 in
    rw (same.module_um, same.colors, same.scale, same.quiet, captioned.1) refl

-- what holds of a page holds of one that is the same
pub moved : {A : Type 0} (P : A → Type 0) (page same : A) → page ≡ same → P page → P same
moved P page same is h = rw (sym is) h
