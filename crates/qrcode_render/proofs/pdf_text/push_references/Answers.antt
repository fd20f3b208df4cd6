-- One reference more.
use Rattle.std.proofs.Common.{◌++◌, ◌∙◌, ◌+◌, ◌*◌, ap, sym, append-nil, codes, decimal}
use Rattle.std.specs.String.{string_bytes}
use Rattle.picture_settings.proofs.Ranges.{joined}
use Rattle.qrcode_render.specs.Pdf.{page_references}
use Rattle.qrcode_render.proofs.PdfTextLemmas.{references_more, references_none}
use Rattle.qrcode_render.proofs.pdf_text.push_references.Goals as goal

pub loop-n-init : goal.loop-n-init
loop-n-init c = sym (append-nil (string_bytes c.args.text.now)) ∙ ap (λ l. string_bytes c.args.text.now ++ l) (sym references_none)

pub loop-n-preserved : goal.loop-n-preserved
loop-n-preserved c =
    joined (string_bytes c.args.text.now) (page_references c.loop-n.n) _ (decimal (4 + 2 * c.loop-n.n) ++ codes " 0 R ") _ _
    (references_more c.loop-n.n) c.loop-n.invariant
    (c.in_ok-push_str.ensures.bytes ∙ ap (λ l. string_bytes c.loop-n.text ++ l) (c.as_str.ensures.value ∙ c.in_ok-reference.ensures))
