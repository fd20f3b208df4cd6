use Rattle.qrcode_bits.proofs.Grouping.{keeps-new}
use Rattle.qrcode_bits.proofs.optimize.linear.keep_better.Goals as goal

pub returns-then-is_better-clause-better : goal.returns-then-is_better-clause-better
returns-then-is_better-clause-better g c =
    keeps-new g.S.AnyStart.read g.S.AnyStart.FAR c.args.groups.now c.requires.long c.args.group c.args.bucket c.slot_of-slot.result c.args.start
    c.requires.inside c.slot_of-slot.ensures.slot c.index-groups-slot.result c.if-is_better.ensures.wins
