-- One line more, and all of them.
use Rattle.std.proofs.Common.{◌++◌, ◌∙◌, ap, map, arith}
use Rattle.std.specs.String.{string_bytes}
use Rattle.picture_settings.proofs.Ranges.{joined}
use Rattle.qrcode_render.specs.Captions.{each_line, first_lines}
use Rattle.qrcode_render.specs.CaptionTypes.{block_of}
use Rattle.qrcode_render.specs.Svg.{caption_element}
use Rattle.qrcode_render.proofs.LineLemmas.{line_is, lines_all, lines_one, lines_start}
use Rattle.qrcode_render.proofs.svg.push_caption.Goals as goal

pub loop-n-init : goal.loop-n-init
loop-n-init c = lines_start (caption_element (block_of c.args.caption.now) c.args.dark c.args.rows) (map string_bytes c.lines-lines.result.now) (string_bytes c.args.text.now)

pub loop-n-preserved : goal.loop-n-preserved
loop-n-preserved c =
    let lines = c.lines-lines.result.now in
    let n = c.loop-n.n in
    let write = caption_element (block_of c.args.caption.now) c.args.dark c.args.rows in
    let line = string_bytes c.index-lines-n.result in
    joined (string_bytes c.args.text.now) (first_lines write (map string_bytes lines) n) _ (write n line) _ _
    (lines_one write (map string_bytes lines) n line (line_is string_bytes lines n c.index-lines-n.result c.loop-n-test.true c.index-lines-n.is))
    c.loop-n.invariant
    (cc (
      c.in_ok-push_line.ensures,
      c.deref.ensures,
      c.deref-in-loop-n.ensures,
      c.deref-in-loop-n-2.ensures,
      c.deref-in-loop-n-3.ensures,
      c.in_ok-tag.ensures,
      c.in_ok-size.ensures,
      c.in_ok-color.ensures,
      c.line_row.ensures.exact,
      c.size.ensures.exact,
    ))

pub returns : goal.returns
returns c =
    let lines = c.lines-lines.result.now in
    let write = caption_element (block_of c.args.caption.now) c.args.dark c.args.rows in
    let all = lines_all string_bytes write lines c.loop-n.n (omega (arith, c.loop-n-test.false, c.loop-n.auto.n-end)) in
    c.loop-n.invariant
    ∙ ap (λ l. string_bytes c.args.text.now ++ l) (all ∙ ap (each_line write) c.lines-lines.ensures.exact)
