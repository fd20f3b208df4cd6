-- Each part is the index's own, or fits.
use Rattle.qrcode_core.proofs.Prelude.{arith, to_z-of_z, cases_eq, inl, inr, ◌∙◌}
use mir.Syntax.{w16}
use Rattle.qrcode_core.proofs.symbol.part.check_others.Goals as goal
use Rattle.qrcode_core.proofs.symbol.part.check_others.Goals.{else-other-index-via-then-other-index+in_ok-part_fits+else-not-branch}
use Rattle.qrcode_core.proofs.symbol.part.check_others.Goals.{else-other-index-via-else-other-index}

pub returns-then-not-branch-clause-refusal : goal.returns-then-not-branch-clause-refusal
returns-then-not-branch-clause-refusal c =
    let same = to_z-of_z w16 c.args.max_version c.ranges.max_version in
    let long = rw (c.part_at-part.ensures, same) at c.in_ok-part_fits.ensures.too_long c.if-not-branch.true in
    (c.requires.limit, c.requires.total, (c.loop-other.other, omega arith, long))

pub loop-other-preserved : goal.loop-other-preserved
loop-other-preserved c = record {
  fitting = λ k below apart. elim (cases_eq k c.loop-other.other) [
    | inr earlier ↦ c.loop-other.invariant.fitting k (omega arith) apart
    | inl last ↦ elim c.else-other-index.branch [
      | else-other-index-via-then-other-index+in_ok-part_fits+else-not-branch w ↦
          rw last (rw c.part_at-part.ensures at w.in_ok-part_fits.ensures.fits w.if-not-branch.false)
      | else-other-index-via-else-other-index w ↦ absurd (apart (last ∙ w.if-other-index.false))
    ]
  ];
}

pub returns-clause-fitting : goal.returns-clause-fitting
returns-clause-fitting c = λ k below apart.
    rw (to_z-of_z w16 c.args.max_version c.ranges.max_version) at c.loop-other.invariant.fitting k (omega arith) apart
