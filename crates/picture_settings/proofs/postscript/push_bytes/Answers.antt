-- One byte more.
use Rattle.std.proofs.Common.{◌++◌, ap, sym, ◌∙◌, append-nil, get_or, take}
use Rattle.std.specs.String.{string_bytes}
use Rattle.picture_settings.specs.PostScript.{string_escape, string_text}
use Rattle.picture_settings.proofs.Ranges.{joined}
use Rattle.picture_settings.proofs.StringLemmas.{text_more, text_none}
use Rattle.picture_settings.proofs.postscript.push_bytes.Goals as goal

pub loop-i-init : goal.loop-i-init
loop-i-init c = sym (append-nil (string_bytes c.args.out.now)) ∙ ap (λ l. string_bytes c.args.out.now ++ l) (sym text_none)

pub loop-i-preserved : goal.loop-i-preserved
loop-i-preserved c =
    joined (string_bytes c.args.out.now) (string_text (take c.loop-i.i c.args.bytes.now)) _ (string_escape (get_or c.args.bytes.now c.loop-i.i 0)) _ _
    (text_more c.args.bytes.now c.loop-i.i c.loop-i-test.true) c.loop-i.invariant c.in_ok-push_byte.ensures
