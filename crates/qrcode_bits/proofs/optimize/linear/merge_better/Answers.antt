use Rattle.qrcode_bits.proofs.Prelude.{arith}
use Rattle.qrcode_bits.proofs.Grouping.{merged-three, has-three, has-five}
use Rattle.qrcode_bits.proofs.optimize.linear.merge_better.Goals.{then-eq, else-eq}
use Rattle.qrcode_bits.proofs.optimize.linear.merge_better.Goals as goal

pub returns-clause-better : goal.returns-clause-better
returns-clause-better g c j has = elim c.if-eq.branch [
  | then-eq w ↦ let near = has-three c.args.into j (grind arith) has in
      merged-three c.args.into c.args.from _ _ _ _ c.requires.apart w.merge_bucket.ensures.better w.merge_bucket-then-eq.ensures.better
      (rw w.groups-is at c.merge_bucket-2.ensures.better) j near.0 near.1
  | else-eq w ↦ grind (arith, has-five)
]
