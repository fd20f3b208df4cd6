-- This level fits, or the answer is that of the levels below.
use Rattle.qrcode_core.proofs.Prelude.{◌<◌, arith, common_steps, IfOk-weaker}
use Rattle.qrcode_base.specs.Symbols.{column_of_level}
use Rattle.qrcode_core.proofs.Strongest.{found_here, found_below, none_below, short_number, some_weaker, none_weaker}
use Rattle.qrcode_core.proofs.symbol.asked.+stronger.Goals as goal

pub returns-in-Ok-clause-found : goal.returns-in-Ok-clause-found
returns-in-Ok-clause-found t c =
    let first = short_number c.args.options.min_version c.requires.range.0 in
    let last = short_number c.args.number c.requires.range.1 in
    let above : column_of_level c.args.options.level < column_of_level c.args.level = grind (arith, common_steps, c.if-le.ensures, c.le.ensures) in
    found_here _ _ _ c.args.level _ _ c.in-Ok.symbol above (rw (first, last) at c.in-Ok.ensures.best) c.in-Ok.ensures.reading

pub returns-in-Some-clause-found : goal.returns-in-Some-clause-found
returns-in-Some-clause-found t c =
    let first = short_number c.args.options.min_version c.requires.range.0 in
    let last = short_number c.args.number c.requires.range.1 in
    let unfit = (rw (first, last, c.in-Err-DataTooLong.field-0-is) at c.in-Err-DataTooLong.ensures.refusal).1 in
    IfOk-weaker c.stronger.result _ _ (λ found h. some_weaker found _ _ (λ symbol s.
    found_below _ _ _ c.args.level _ _ c.in-Some.next symbol c.in-Some.ensures.below unfit s) h) (rw last at c.stronger.ensures.found)

pub returns-in-Some-clause-none : goal.returns-in-Some-clause-none
returns-in-Some-clause-none t c =
    let first = short_number c.args.options.min_version c.requires.range.0 in
    let last = short_number c.args.number c.requires.range.1 in
    let unfit = (rw (first, last, c.in-Err-DataTooLong.field-0-is) at c.in-Err-DataTooLong.ensures.refusal).1 in
    IfOk-weaker c.stronger.result _ _ (λ found h. none_weaker found _ _
    (none_below _ _ c.args.options.level c.args.level _ _ c.in-Some.next c.in-Some.ensures.below unfit c.args.options.level) h)
    (rw last at c.stronger.ensures.none)
