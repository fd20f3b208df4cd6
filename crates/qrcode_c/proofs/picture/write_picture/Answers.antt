-- The picture is written, or the buffer is too short for it.
use Rattle.std.proofs.Common.{w32, arith}
use Rattle.std.proofs.lemmas.Int.{to_z-of_z}
use Rattle.qrcode_c.proofs.PictureLemmas.{held, refused}
use Rattle.qrcode_c.proofs.picture.write_picture.Goals as goal

pub returns-clause-held : goal.returns-clause-held
returns-clause-held c =
    held c.write_bytes.result c.args.modules.now c.args.width c.args.format c.args.settings.now c.args.buffer.now c.write_bytes.new.buffer
    c.in_ok-bytes.bytes.items c.deref.result.now c.len.result (rw (to_z-of_z w32 c.args.format c.ranges.format) at c.in_ok-bytes.ensures.shown)
    (omega (arith, c.len.ensures, c.in_ok-bytes.bytes.ok)) c.deref.ensures.value c.write_bytes.ensures.written

pub returns-clause-refusal : goal.returns-clause-refusal
returns-clause-refusal c =
    refused c.write_bytes.result c.args.modules.now c.args.width c.args.format c.args.settings.now c.args.buffer.now
    c.in_ok-bytes.bytes.items c.deref.result.now c.len.result (rw (to_z-of_z w32 c.args.format c.ranges.format) at c.in_ok-bytes.ensures.shown)
    (omega (arith, c.len.ensures, c.in_ok-bytes.bytes.ok)) c.deref.ensures.value c.write_bytes.ensures.short c.write_bytes.ensures.short_buffer
