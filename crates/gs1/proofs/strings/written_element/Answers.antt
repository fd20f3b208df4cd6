use Rattle.std.proofs.Common.{◌≡◌, ◌+◌, arith, sym}
use Rattle.gs1.proofs.Written.{next_written, none_written, last_written}
use Rattle.gs1.proofs.strings.written_element.Goals as goal

pub returns-then-end-rest-clause-none : goal.returns-then-end-rest-clause-none
returns-then-end-rest-clause-none c =
    none_written c.loop.rest.now c.args.text.now c.first_of-end.result c.loop.counter c.args.number
    c.first_of-end.ensures.place c.if-end-rest.true c.loop-test.true c.loop.invariant

pub loop-preserved : goal.loop-preserved
loop-preserved c = λ k.
    next_written c.loop.rest.now c.behind-rest-in-loop.result.now c.args.text.now c.first_of-end.result c.loop.counter k
    c.first_of-end.ensures.place c.first_of-end.ensures.within c.if-end-rest.false c.behind-rest-in-loop.ensures
    c.loop.invariant

pub returns-clause-written : goal.returns-clause-written
returns-clause-written c =
    let here : c.loop.counter + 0 ≡ c.args.number = omega (arith, c.loop-test.false, c.loop.auto.counter-end) in
    last_written c.loop.rest.now c.args.text.now c.first_of-end-2.result c.loop.counter c.args.number _
    c.first_of-end-2.ensures.place c.first_of-end-2.ensures.within here (sym c.element_of.ensures) c.loop.invariant
