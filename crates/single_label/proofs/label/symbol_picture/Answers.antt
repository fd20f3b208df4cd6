-- The picture, with the text, and in colors if these are asked for.
use Rattle.std.proofs.Common.{◌≡◌, ◌∙◌, ap, refl}
use Rattle.std.specs.Option.{option_copied}
use Rattle.single_label.specs.{Colors.in_colors, Labels.IsSymbolPicture}
use Rattle.single_label.proofs.StopLemmas.{if_ok}
use Rattle.single_label.proofs.label.symbol_picture.Goals as goal

pub returns-then-label : goal.returns-then-label
returns-then-label c =
    let label = c.args.label.now in
    let options = c.args.options.now in
    if_ok (λ drawing. drawing.items ≡ in_colors c.deref.result.now)
    (λ drawing. IsSymbolPicture label options (option_copied c.args.caption) c.args.symbol.now drawing.items) c.in_colors.result
    (λ drawing is. record {
      captioned = c.captioned-options.result;
      are_captioned = c.captioned-options.ensures;
      picture = c.in_ok-picture.picture.items;
      drawn = c.in_ok-picture.ensures;
      drawing_is = rw c.if-label.true (is ∙ ap in_colors c.deref.ensures.value);
    }) c.in_colors.ensures

pub returns : goal.returns
returns c = record {
  captioned = c.captioned-options.result;
  are_captioned = c.captioned-options.ensures;
  picture = c.in_ok-picture.picture.items;
  drawn = c.in_ok-picture.ensures;
  drawing_is = rw c.if-label.false refl;
}
