-- One byte more.
use Rattle.std.proofs.Common.{ap, sym, ◌∙◌, length, length-append, get_or, take, arith}
use Rattle.picture_settings.specs.PostScript.{string_escape, string_text}
use Rattle.picture_settings.proofs.StringLemmas.{text_more, text_none}
use Rattle.picture_settings.proofs.postscript.text_length.Goals as goal

pub loop-i-init : goal.loop-i-init
loop-i-init c = record { exact = ap length (sym text_none); few = omega arith }

pub loop-i-preserved : goal.loop-i-preserved
loop-i-preserved c =
    let bytes = c.args.bytes.now in
    let i = c.loop-i.i in
    record {
      exact = sym (ap length (text_more c.args.bytes.now c.loop-i.i c.loop-i-test.true)
          ∙ length-append (string_text (take c.loop-i.i c.args.bytes.now)) (string_escape (get_or c.args.bytes.now c.loop-i.i 0))
          ∙ omega (arith, c.loop-i.invariant.exact, c.escape_length-count.ensures.exact));
      few = omega (arith, c.loop-i.invariant.few, c.escape_length-count.ensures.few);
    }
