-- The greatest version, or one of the candidates, decides.
use Rattle.qrcode_bits.proofs.Prelude.{ℕ, ◌+◌, get_or, arith, FitsNot, normal}
use Rattle.qrcode_bits.proofs.Classes.{class_fits_not, candidates_here, candidates_end, none_from_one}
use Rattle.qrcode_bits.proofs.bits.fitting.fits_up_to.Goals.{else-not-holds_double-via-then-not-holds_double+in_ok-fits_version-2+else-branch-2}
use Rattle.qrcode_bits.proofs.bits.fitting.fits_up_to.Goals.{else-not-holds_double-via-else-not-holds_double}
use Rattle.qrcode_bits.proofs.bits.fitting.fits_up_to.Goals as goal

pub returns-then-branch-clause-fits : goal.returns-then-branch-clause-fits
returns-then-branch-clause-fits c _ none = c.in_ok-fits_version.ensures.fits c.if-branch.true (none c.args.limit (omega arith))

pub loop-last-init : goal.loop-last-init
loop-last-init c = record {
  before = 0;
  first = omega arith;
  candidates = grind (arith, c.candidates-candidates.ensures, c.as_slice-last-items.ensures.value);
  none = λ n from to. absurd (omega (arith, from, to));
}

pub returns-then-branch-2-clause-fits : goal.returns-then-branch-2-clause-fits
returns-then-branch-2-clause-fits c _ none =
    let i = c.loop-last.invariant in
    let here = candidates_here i.before c.args.limit c.as_slice-last-items.result.now c.loop-last.last-index c.loop-last-test.true i.candidates in
    c.in_ok-fits_version-2.ensures.fits c.if-branch-2.true (none (get_or c.as_slice-last-items.result.now c.loop-last.last-index 0) here.2)

pub loop-last-preserved : goal.loop-last-preserved
loop-last-preserved c =
    let i = c.loop-last.invariant in
    let here = candidates_here i.before c.args.limit c.as_slice-last-items.result.now c.loop-last.last-index c.loop-last-test.true i.candidates in
    let last : ℕ = get_or c.as_slice-last-items.result.now c.loop-last.last-index 0 in
    let unfit : FitsNot c.args.ahead c.args.bytes.now (normal last) c.args.level = elim c.else-not-holds_double.branch [
      | else-not-holds_double-via-then-not-holds_double+in_ok-fits_version-2+else-branch-2 w ↦ w.in_ok-fits_version-2.ensures.unfit w.if-branch-2.false
      | else-not-holds_double-via-else-not-holds_double w ↦ w.if-not-holds_double.ensures c.args.ahead c.args.bytes.now
          (c.in_ok-fits_version.ensures.unfit c.if-branch.false)
    ] in
    record {
      before = last;
      first = omega (arith, i.first, here.1);
      candidates = here.3;
      none = class_fits_not 1 _ _ _ i.before last (omega (arith, here.2, c.requires.to_forty)) here.0 i.none unfit;
    }

pub returns-clause-too_long : goal.returns-clause-too_long
returns-clause-too_long c _ =
    let i = c.loop-last.invariant in
    let end = candidates_end i.before c.args.limit c.as_slice-last-items.result.now c.loop-last.last-index
    (omega (arith, c.loop-last-test.false)) i.candidates in
    none_from_one _ _ _ c.args.limit c.requires.from_one (λ n few. i.none (1 + n) (omega arith) (omega (arith, few, end, c.requires.from_one)))
