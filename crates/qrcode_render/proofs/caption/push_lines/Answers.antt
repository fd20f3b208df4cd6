-- One line more, and all of them.
use Rattle.std.proofs.Common.{map, append_assoc, arith}
use Rattle.std.specs.String.{string_bytes}
use Rattle.std.proofs.lemmas.Grind.{common_steps}
use Rattle.picture_settings.proofs.Ranges.{joined}
use Rattle.qrcode_render.specs.Captions.{first_lines, terminal_caption_line}
use Rattle.qrcode_render.proofs.LineLemmas.{line_is, lines_one, lines_start}
use Rattle.qrcode_render.proofs.caption.push_lines.Goals as goal

pub loop-n-init : goal.loop-n-init
loop-n-init c = lines_start (terminal_caption_line) (map string_bytes c.args.lines.now) (string_bytes c.args.text.now)

pub loop-n-preserved : goal.loop-n-preserved
loop-n-preserved c =
    let lines = c.args.lines.now in
    let n = c.loop-n.n in
    let write = terminal_caption_line in
    let line = string_bytes c.index-lines-n.result in
    joined (string_bytes c.args.text.now) (first_lines write (map string_bytes lines) n) _ (write n line) _ _
    (lines_one write (map string_bytes lines) n line (line_is string_bytes lines n c.index-lines-n.result c.loop-n-test.true c.index-lines-n.is))
    c.loop-n.invariant
    (grind (arith, append_assoc, common_steps, c.in_ok-push_str.ensures.bytes, c.in_ok-push.ensures.bytes, c.as_str.ensures.value))
