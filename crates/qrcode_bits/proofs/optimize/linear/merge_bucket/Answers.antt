use Rattle.qrcode_bits.proofs.Prelude.{subst, groups_of, KeepsBetter}
use Rattle.qrcode_bits.proofs.Grouping.{element-at}
use Rattle.qrcode_bits.proofs.optimize.linear.merge_bucket.Goals as goal

pub returns-clause-better : goal.returns-clause-better
returns-clause-better g c =
    subst (λ x. KeepsBetter c.args.into c.args.bucket x (groups_of g.S.AnyStart.read g.S.AnyStart.FAR c.args.groups.now)
    (groups_of g.S.AnyStart.read g.S.AnyStart.FAR c.keep_better.new.groups))
    (element-at g.S.AnyStart.read g.S.AnyStart.FAR c.args.groups.now c.requires.long c.args.from c.args.bucket c.slot_of.result
    c.index-groups-slot_of.result c.requires.inside c.slot_of.ensures.slot c.index-groups-slot_of.is) c.keep_better.ensures.better
