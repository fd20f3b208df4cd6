-- One line more, and all of them.
use Rattle.std.proofs.Common.{◌≡◌, ◌++◌, ◌∙◌, ap, map, append_assoc, arith}
use Rattle.std.specs.String.{string_bytes}
use Rattle.picture_settings.proofs.Ranges.{joined}
use Rattle.qrcode_render.specs.Captions.{each_line, first_lines, hundredths}
use Rattle.qrcode_render.specs.CaptionTypes.{block_of}
use Rattle.qrcode_render.specs.Eps.{caption_font, eps_line}
use Rattle.qrcode_render.proofs.LineLemmas.{line_is, lines_all, lines_one, lines_start}
use Rattle.qrcode_render.proofs.eps.push_caption.Goals as goal

pub loop-n-init : goal.loop-n-init
loop-n-init c = lines_start (eps_line (block_of c.args.caption.now) c.args.columns c.args.rows) (map string_bytes c.lines-lines.result.now) (string_bytes c.push_str.new.self)

pub loop-n-preserved : goal.loop-n-preserved
loop-n-preserved c =
    let lines = c.lines-lines.result.now in
    let n = c.loop-n.n in
    let write = eps_line (block_of c.args.caption.now) c.args.columns c.args.rows in
    let line = string_bytes c.index-lines-n.result in
    joined (string_bytes c.push_str.new.self) (first_lines write (map string_bytes lines) n) _ (write n line) _ _
    (lines_one write (map string_bytes lines) n line (line_is string_bytes lines n c.index-lines-n.result c.loop-n-test.true c.index-lines-n.is))
    c.loop-n.invariant
    (cc (
      c.in_ok-push_line.ensures,
      c.deref-in-loop-n.ensures,
      c.deref-in-loop-n-2.ensures,
      c.in_ok-end.ensures,
      c.line_row.ensures.exact,
    ))

pub returns : goal.returns
returns c =
    let lines = c.lines-lines.result.now in
    let write = eps_line (block_of c.args.caption.now) c.args.columns c.args.rows in
    let all = lines_all string_bytes write lines c.loop-n.n (omega (arith, c.loop-n-test.false, c.loop-n.auto.n-end)) in
    let font : string_bytes c.push_str.new.self ≡ string_bytes c.args.text.now ++ caption_font (hundredths (block_of c.args.caption.now).size) =
    cc (c.in_ok-push_str.ensures.bytes, c.as_str.ensures.value, c.in_ok-font.ensures, c.deref.ensures, c.in_ok-size.ensures, c.size.ensures.exact) in
    c.loop-n.invariant
    ∙ (ap (λ l. string_bytes c.push_str.new.self ++ l) (all ∙ ap (each_line write) c.lines-lines.ensures.exact)
    ∙ (ap (λ l. l ++ each_line write (block_of c.args.caption.now).lines) font
    ∙ append_assoc (string_bytes c.args.text.now) (caption_font (hundredths (block_of c.args.caption.now).size)) (each_line write (block_of c.args.caption.now).lines)))
