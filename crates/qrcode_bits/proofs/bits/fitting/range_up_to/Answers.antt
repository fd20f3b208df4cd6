-- One candidate after the other.
use Rattle.qrcode_bits.proofs.Prelude.{ℕ, List, sym, subst, arith, common_steps, ◌∙◌}
use Rattle.qrcode_bits.specs.Plans.{AreCandidates}
use Rattle.qrcode_bits.proofs.Fitting.{range_start, range_more, range_same, range_end, close_more}
use Rattle.qrcode_bits.proofs.bits.fitting.range_up_to.Goals.{then-not-holds_double, else-not-holds_double}
use Rattle.qrcode_bits.proofs.bits.fitting.range_up_to.Goals as goal

pub loop-last-init : goal.loop-last-init
loop-last-init c = record {
  range = range_start c.args.ahead c.args.bytes.now c.args.level c.args.limit c.fitting_between-sure.result.0 c.fitting_between-sure.result.1
      c.as_slice-last-items.result.now (subst (λ (xs : List ℕ). AreCandidates 0 xs c.args.limit) (sym c.as_slice-last-items.ensures.value)
      c.candidates-candidates.ensures) c.fitting_between-sure.ensures.less c.fitting_between-sure.ensures.fits c.fitting_between-sure.ensures.unfit;
  close = c.fitting_between-sure.ensures.close;
  same = grind (arith, common_steps, c.fitting_between-sure.ensures.unchanged, c.in_ok-all.ensures.all);
}

pub loop-last-preserved : goal.loop-last-preserved
loop-last-preserved c = elim c.if-not-holds_double.branch [
  | then-not-holds_double w ↦ rw (w.sure-is, w.past-is, w.max-sure.ensures, w.max-past.ensures) (record {
    range = range_more c.args.ahead c.args.bytes.now c.args.level c.args.limit c.loop-last.sure c.loop-last.past c.loop-last.last-index
        c.as_slice-last-items.result.now c.requires.to_forty c.loop-last-test.true c.loop-last.invariant.range w.fitting_between-fits.result.0
        w.fitting_between-fits.result.1 w.fitting_between-fits.ensures.less w.fitting_between-fits.ensures.fits w.fitting_between-fits.ensures.unfit;
    close = close_more c.args.bytes.now c.loop-last.sure c.loop-last.past w.fitting_between-fits.result.0 w.fitting_between-fits.result.1
        c.loop-last.invariant.close w.fitting_between-fits.ensures.close;
    same = rw w.segments-is (w.fitting_between-fits.ensures.unchanged ∙ c.loop-last.invariant.same);
  })
  | else-not-holds_double w ↦ rw (w.sure-is, w.past-is) (record {
    range = range_same c.args.ahead c.args.bytes.now c.args.level c.args.limit c.loop-last.sure c.loop-last.past c.loop-last.last-index
        c.as_slice-last-items.result.now c.requires.to_forty c.loop-last-test.true c.loop-last.invariant.range w.if-not-holds_double.ensures;
    close = c.loop-last.invariant.close;
    same = rw w.segments-is c.loop-last.invariant.same;
  })
]

pub returns-clause-less : goal.returns-clause-less
returns-clause-less c = c.loop-last.invariant.range.less

pub returns-clause-fits : goal.returns-clause-fits
returns-clause-fits c = c.loop-last.invariant.range.fits

pub returns-clause-too_long : goal.returns-clause-too_long
returns-clause-too_long c =
    range_end c.args.ahead c.args.bytes.now c.args.level c.args.limit c.loop-last.sure c.loop-last.past c.loop-last.last-index
    c.as_slice-last-items.result.now c.requires.from_one (omega (arith, c.loop-last-test.false)) c.loop-last.invariant.range
