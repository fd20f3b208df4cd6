-- The bits of pieces that fit are spelled, and only an allocation can fail.
use Rattle.std.proofs.lemmas.Result.{IfErr-weaker, IfOk-weaker}
use Rattle.smallest_symbols.proofs.ByteFound.{stream_holds, stream_refused}
use Rattle.smallest_symbols.proofs.byte_drawing.drawn_plan.Goals as goal

pub returns-clause-holds : goal.returns-clause-holds
returns-clause-holds c =
    IfOk-weaker c.with_bits.result _ _ (stream_holds c.args.version c.args.level c.args.bytes.now _ c.in_ok-bits.bits c.requires.fits
    c.in_ok-bits.ensures.bits c.in_ok-bits.ensures.version) c.with_bits.ensures.holds

pub returns-clause-memory : goal.returns-clause-memory
returns-clause-memory c =
    IfErr-weaker c.with_bits.result _ _ (stream_refused c.args.version c.args.level c.args.bytes.now _ c.in_ok-bits.bits c.requires.fits
    c.in_ok-bits.ensures.bits c.in_ok-bits.ensures.version) c.with_bits.ensures.refusal
