use Rattle.std.proofs.Common.{◌++◌, ◌∷◌, [], arith, length-append}
use Rattle.std.specs.Prelude.{IfNone, None, Some, Option}
use Rattle.gs1.specs.Elements.{Element}
use Rattle.gs1.proofs.Cuts.{before_more, none_after}
use Rattle.gs1.proofs.strings.read_element.Goals as goal

-- A fact for `None` from another.
if_none : {X : Type 0} (o : Option X) (P Q : Type 0) → (P → Q) → IfNone o P → IfNone o Q
if_none None P Q more p = more p
if_none (Some x) P Q more p = p

pub returns-in_err-first_element-clause-none : goal.returns-in_err-first_element-clause-none
returns-in_err-first_element-clause-none c =
    let known = c.loop.invariant in
    rw c.from_residual.ensures (λ e at. none_after c.args.bytes.now known.0 c.loop.left.now c.args.number e known.1
    c.in_err-first_element.ensures.none (omega (arith, known.2, c.loop-test.true)) at)

pub loop-preserved : goal.loop-preserved
loop-preserved c =
    let known = c.loop.invariant in
    let e : Element = record {
      identifier = c.in_ok-first_element.field-0.identifier.now;
      value = c.in_ok-first_element.field-0.value.now;
    } in (
      known.0 ++ e ∷ [],
      rw c.behind_first-left.ensures
          (before_more c.args.bytes.now known.0 c.loop.left.now e known.1 c.in_ok-first_element.ensures.begins),
      omega (arith, known.2, length-append known.0 (e ∷ [])),
    )

pub returns-clause-none : goal.returns-clause-none
returns-clause-none c =
    let known = c.loop.invariant in
    if_none c.first_element-2.result _ _ (λ none e at. none_after c.args.bytes.now known.0 c.loop.left.now
    c.args.number e known.1 none (omega (arith, known.2, c.loop.auto.counter-end)) at) c.first_element-2.ensures.none
