-- The groups begin with no start.
use Rattle.qrcode_bits.proofs.Grouping.{AreGroups-none}
use Rattle.qrcode_bits.proofs.optimize.firsts.last_units.Goals as goal

pub first_segments-count-requires-clause-none : goal.first_segments-count-requires-clause-none
first_segments-count-requires-clause-none g c =
    AreGroups-none g.S.AnyStart.read g.S.AnyStart.FAR c.args.segments.now c.args.version c.none-groups.result c.none-groups.ensures
