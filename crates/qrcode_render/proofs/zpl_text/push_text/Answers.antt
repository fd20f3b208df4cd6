-- One byte more.
use Rattle.std.proofs.Common.{◌++◌, ap, sym, ◌∙◌, append-nil, get_or, take}
use Rattle.picture_settings.proofs.Ranges.{joined}
use Rattle.qrcode_render.specs.Zpl.{field_byte, field_data}
use Rattle.qrcode_render.proofs.CaptionLemmas.{data_more, data_none}
use Rattle.qrcode_render.proofs.zpl_text.push_text.Goals as goal

pub loop-i-init : goal.loop-i-init
loop-i-init c = sym (append-nil c.args.bytes.now.items) ∙ ap (λ l. c.args.bytes.now.items ++ l) (sym data_none)

pub loop-i-preserved : goal.loop-i-preserved
loop-i-preserved c =
    joined c.args.bytes.now.items (field_data (take c.loop-i.i c.args.text.now)) _ (field_byte (get_or c.args.text.now c.loop-i.i 0)) _ _
    (data_more c.args.text.now c.loop-i.i c.loop-i-test.true) c.loop-i.invariant c.in_ok-push_byte.ensures
