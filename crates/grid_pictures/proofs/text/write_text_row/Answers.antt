-- One byte more, and all of them.
use Rattle.std.proofs.Common.{◌≡◌, ◌+◌, ◌/◌, length, arith}
use Rattle.grid_pictures.specs.Texts.{text_byte, text_of, text_row}
use Rattle.grid_pictures.proofs.LetteringLemmas.{byte_more, bytes_all}
use Rattle.grid_pictures.proofs.text.write_text_row.Goals as goal

pub loop-place-preserved : goal.loop-place-preserved
loop-place-preserved c =
    byte_more (text_byte (text_of c.args.text.now) c.args.row) c.loop-place.place c.text_byte.result c.loop-place.line
    (omega (arith, c.loop-place-test.true, c.loop-place.auto.line)) c.loop-place.invariant c.text_byte.ensures

pub returns : goal.returns
unfolding text_row
returns c =
    let long : length c.loop-place.line ≡ (c.args.text.now.width + 7) / 8 = omega (arith, c.loop-place.auto.line, c.requires.long) in
    bytes_all (text_byte (text_of c.args.text.now) c.args.row) c.loop-place.place ((c.args.text.now.width + 7) / 8) c.loop-place.line
    (omega (arith, long, c.loop-place-test.false, c.loop-place.auto.place-end)) long c.loop-place.invariant
