-- The first Micro version whose chosen plan fits is the choice.
use Rattle.qrcode_bits.proofs.Prelude.{◌≡◌, ◌+◌, subst, arith, true, false, Version, FitsNot}
use Rattle.qrcode_bits.proofs.{Classes.micro_is, Pairs.bytes_valid, Choices.micro_next, Choices.micro_choice, Lengths.long_for_micro}
use Rattle.qrcode_bits.proofs.bits.encode.encode_auto_micro.Goals as goal

pub returns-then-bytes-gt-LONGEST_DATA-clause-err : goal.returns-then-bytes-gt-LONGEST_DATA-clause-err
returns-then-bytes-gt-LONGEST_DATA-clause-err c = (
  λ h. let bad : false ≡ true = rw h at c.if-eq.ensures in absurd (cc),
  long_for_micro _ _ (bytes_valid c.args.bytes.now (λ i. omega (arith, c.type_inv.bytes i))) c.if-bytes-gt-LONGEST_DATA.true,
)

pub returns-in-Some-clause-ok : goal.returns-in-Some-clause-ok
returns-in-Some-clause-ok c = grind (arith, micro_choice, micro_is)

pub loop-smaller-preserved : goal.loop-smaller-preserved
loop-smaller-preserved c =
    micro_next _ _ _ c.loop-smaller.invariant (subst (λ (v : Version). FitsNot 0 c.args.bytes.now v c.args.level)
    (micro_is (c.loop-smaller.smaller + 1) (omega arith)) (rw c.in_default.is at c.in_ok-plan.ensures.none))

pub returns-clause-err : goal.returns-clause-err
returns-clause-err c = (
  λ h. let bad : false ≡ true = rw h at c.if-eq.ensures in absurd (cc),
  λ number few. c.loop-smaller.invariant number (omega (arith, c.loop-smaller-test.false)),
)
