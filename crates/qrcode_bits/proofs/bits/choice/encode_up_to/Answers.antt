-- The first candidate that holds the chosen plan decides.
use Rattle.qrcode_bits.proofs.Prelude.{ℕ, ◌+◌, ◌-◌, ◌≤◌, get_or, arith}
use Rattle.std.proofs.lemmas.Result.{IfOk-weaker}
use Rattle.qrcode_bits.proofs.Classes.{class_fits_not, class_fits, class_encoding, normal_is, front_not, candidates_here, candidates_end}
use Rattle.qrcode_bits.proofs.bits.choice.encode_up_to.Goals as goal

pub loop-last-init : goal.loop-last-init
loop-last-init c = record {
  before = c.args.least - 1;
  first = omega arith;
  candidates = grind (arith, c.candidates-candidates.ensures, c.as_slice-last-items.ensures.value);
  none = λ n from to. absurd (omega (arith, from, to, c.requires.from_one));
}

pub encode_plan-requires-clause-fits : goal.encode_plan-requires-clause-fits
encode_plan-requires-clause-fits c =
    let i = c.loop-last.invariant in
    let here = candidates_here i.before c.args.limit c.as_slice-last-items.result.now c.loop-last.last-index c.loop-last-test.true i.candidates in
    let last : ℕ = get_or c.as_slice-last-items.result.now c.loop-last.last-index 0 in
    let plan = rw c.in-Some.is at c.in_ok-plan.ensures in
    let most : last ≤ 40 = omega (arith, here.2, c.requires.to_forty) in
    rw c.deref-in-Some.ensures.value (class_fits _ _ _ c.requires.parsed _ c.args.least last _ _ _ _ _ c.size-ahead.ensures.size
    (normal_is last most) plan.chosen plan.fits plan.bits c.find_version_from-smallest.ensures c.requires.from_one most i.before i.first here.1 here.0 i.none)

pub returns-in-Some-clause-ok : goal.returns-in-Some-clause-ok
returns-in-Some-clause-ok c =
    let i = c.loop-last.invariant in
    let here = candidates_here i.before c.args.limit c.as_slice-last-items.result.now c.loop-last.last-index c.loop-last-test.true i.candidates in
    let last : ℕ = get_or c.as_slice-last-items.result.now c.loop-last.last-index 0 in
    let plan = rw c.in-Some.is at c.in_ok-plan.ensures in
    let most : last ≤ 40 = omega (arith, here.2, c.requires.to_forty) in
    IfOk-weaker c.encode_plan.result _ _ (class_encoding _ _ _ c.requires.parsed _ c.args.least last _ _ _ _ _ c.size-ahead.ensures.size
    (normal_is last most) plan.chosen plan.fits plan.bits c.find_version_from-smallest.ensures c.requires.from_one most i.before i.first here.1 here.0 i.none
    c.args.limit here.2)
    (rw c.deref-in-Some.ensures.value at c.encode_plan.ensures.ok)

pub loop-last-preserved : goal.loop-last-preserved
loop-last-preserved c =
    let i = c.loop-last.invariant in
    let here = candidates_here i.before c.args.limit c.as_slice-last-items.result.now c.loop-last.last-index c.loop-last-test.true i.candidates in
    let last : ℕ = get_or c.as_slice-last-items.result.now c.loop-last.last-index 0 in
    let most : last ≤ 40 = omega (arith, here.2, c.requires.to_forty) in
    record {
      before = last;
      first = omega (arith, i.first, here.1);
      candidates = here.3;
      none = class_fits_not c.args.least _ _ _ i.before last most here.0 i.none
          (front_not _ _ last _ _ _ c.size-ahead.ensures.size (normal_is last most) (rw c.in_default.is at c.in_ok-plan.ensures.none));
    }

pub returns-clause-err : goal.returns-clause-err
returns-clause-err c =
    let i = c.loop-last.invariant in
    let end = candidates_end i.before c.args.limit c.as_slice-last-items.result.now c.loop-last.last-index
    (omega (arith, c.loop-last-test.false)) i.candidates in
    λ n few. i.none (c.args.least + n) (omega arith) (omega (arith, few, end, c.requires.in_order))
