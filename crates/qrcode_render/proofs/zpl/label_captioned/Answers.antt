-- All fields, and the end of the label.
use Rattle.std.proofs.Common.{◌≡◌, ◌++◌, ◌∙◌, ap, arith}
use Rattle.std.specs.Prelude.{codes}
use Rattle.grid_pictures.specs.Picture.{shown}
use Rattle.qrcode_render.specs.Zpl.{caption_field, field_count, first_fields, label_end}
use Rattle.std.specs.Option.{option_copied}
use Rattle.picture_settings.proofs.Ranges.{four_pieces}
use Rattle.qrcode_render.proofs.zpl.label_captioned.Goals as goal

pub returns : goal.returns
returns c =
    let p = shown c.args.picture.now in
    let end : c.loop-n.n ≡ field_count p = omega (arith, c.field_count-fields.ensures) in
    let caption = caption_field c.args.at (option_copied c.args.caption) c.args.letters p in
    let fields = c.loop-n.invariant ∙ ap (λ n. codes "^XA\n" ++ first_fields p c.args.at n) end in
    c.in_ok-push_end.ensures
    ∙ ap (λ l. l ++ label_end c.args.copies) (c.in_ok-push_caption.ensures ∙ ap (λ l. l ++ caption) fields)
    ∙ four_pieces (codes "^XA\n") (first_fields p c.args.at (field_count p)) caption (label_end c.args.copies)
