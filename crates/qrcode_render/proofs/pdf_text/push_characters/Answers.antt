-- One character more, and all of them.
use Rattle.std.proofs.Common.{◌++◌, ◌∙◌, ap, sym, append-nil, flat_map}
use Rattle.std.specs.String.{string_bytes}
use Rattle.std.proofs.lemmas.List.{map-id}
use Rattle.std.proofs.lemmas.Iterator.{YieldsList-from_chars}
use Rattle.std.proofs.lemmas.Iterator.Consumers.{YieldsList-end}
use Rattle.picture_settings.proofs.Ranges.{joined}
use Rattle.qrcode_render.specs.Pdf.{hex_unit, utf16_text, utf16_units}
use Rattle.qrcode_render.proofs.PdfTextLemmas.{characters_more, characters_none}
use Rattle.qrcode_render.proofs.pdf_text.push_characters.Goals as goal

pub loop-c-init : goal.loop-c-init
loop-c-init c = sym (append-nil (string_bytes c.args.out.now)) ∙ ap (λ l. string_bytes c.args.out.now ++ l) (sym characters_none)

pub loop-c-preserved : goal.loop-c-preserved
loop-c-preserved c =
    joined (string_bytes c.args.out.now) (utf16_text c.loop-c.yielded) _ (flat_map hex_unit (utf16_units c.in-Some.c)) _ _
    (characters_more c.loop-c.yielded c.in-Some.c) c.loop-c.invariant c.in_ok-push_character.ensures

pub returns : goal.returns
returns c =
    let t = YieldsList-end (YieldsList-from_chars c.args.text.now c.utf8.text cc)
    c.loop-c.yielded _ c.loop-c.yielded_by _ _ c.in-None.is c.next.ensures.steps in
    c.loop-c.invariant
    ∙ ap (λ cs. string_bytes c.args.out.now ++ utf16_text cs) (sym (map-id c.loop-c.yielded) ∙ t.0)
