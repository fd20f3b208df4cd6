-- One line more.
use Rattle.std.proofs.Common.{◌≡◌, ◌++◌, ◌∙◌, ap, sym, map, append_assoc, append-nil, arith}
use Rattle.std.specs.String.{string_bytes}
use Rattle.picture_settings.proofs.Ranges.{joined}
use Rattle.qrcode_render.specs.Captions.{first_lines}
use Rattle.qrcode_render.specs.Zpl.{block_data, block_line, line_break}
use Rattle.qrcode_render.proofs.LineLemmas.{first_break, later_break, line_is, lines_one, lines_start}
use Rattle.qrcode_render.proofs.zpl_text.push_block_lines.Goals as goal
use Rattle.qrcode_render.proofs.zpl_text.push_block_lines.Goals.{then-n-gt0+in_ok-extend_from_slice, else-n-gt0}

pub loop-n-init : goal.loop-n-init
loop-n-init c = lines_start block_line (map string_bytes c.args.lines.now) c.args.bytes.now.items

pub loop-n-preserved : goal.loop-n-preserved
loop-n-preserved c =
    let lines = c.args.lines.now in
    let n = c.loop-n.n in
    let line = string_bytes c.index-lines-n.result in
    let broken : c.if-n-gt0.bytes.items ≡ c.loop-n.bytes.items ++ line_break n =
    elim c.if-n-gt0.branch [
      | then-n-gt0+in_ok-extend_from_slice w ↦
          ap (λ v. v.items) w.bytes-is ∙ (w.in_ok-extend_from_slice.ensures.items
          ∙ ap (λ l. c.loop-n.bytes.items ++ l) (sym (later_break n (omega (arith, w.if-n-gt0.true)))))
      | else-n-gt0 w ↦
          ap (λ v. v.items) w.bytes-is ∙ (sym (append-nil c.loop-n.bytes.items)
          ∙ ap (λ l. c.loop-n.bytes.items ++ l) (sym (first_break n (omega (arith, w.if-n-gt0.false)))))
    ] in
    joined c.args.bytes.now.items (first_lines block_line (map string_bytes lines) n) _ (block_line n line) _ _
    (lines_one block_line (map string_bytes lines) n line (line_is string_bytes lines n c.index-lines-n.result c.loop-n-test.true c.index-lines-n.is))
    c.loop-n.invariant
    (c.in_ok-push_block_text.ensures ∙ (ap (λ l. l ++ block_data c.as_bytes.result.now) broken
    ∙ (ap (λ l. (c.loop-n.bytes.items ++ line_break n) ++ block_data l) c.as_bytes.ensures.value
    ∙ append_assoc c.loop-n.bytes.items (line_break n) (block_data line))))
