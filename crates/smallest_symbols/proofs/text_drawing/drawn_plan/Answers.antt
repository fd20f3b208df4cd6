-- The bits of a header and of parts that fit are spelled, and only an allocation can fail.
use Rattle.std.proofs.lemmas.Result.{IfErr-weaker, IfOk-weaker}
use Rattle.smallest_symbols.proofs.TextFound.{fits_spelled, stream_holds, stream_refused}
use Rattle.smallest_symbols.proofs.text_drawing.drawn_plan.Goals as goal

pub plan_bits-requires-clause-spelled : goal.plan_bits-requires-clause-spelled
plan_bits-requires-clause-spelled c =
    fits_spelled c.args.version c.args.level c.args.header c.requires.written.0 _ c.requires.written.1 c.requires.fits

pub returns-clause-holds : goal.returns-clause-holds
returns-clause-holds c =
    IfOk-weaker c.with_bits.result _ _ (stream_holds c.args.version c.args.level c.args.header _ c.requires.fits c.in_ok-bits.bits
    c.in_ok-bits.ensures.bits c.in_ok-bits.ensures.version) c.with_bits.ensures.holds

pub returns-clause-memory : goal.returns-clause-memory
returns-clause-memory c =
    IfErr-weaker c.with_bits.result _ _ (stream_refused c.args.version c.args.level c.args.header _ c.requires.fits c.in_ok-bits.bits
    c.in_ok-bits.ensures.bits c.in_ok-bits.ensures.version) c.with_bits.ensures.refusal
