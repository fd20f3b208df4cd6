use Rattle.std.proofs.Common.{arith, ap, length}
use Rattle.gs1_links.proofs.LinkLoops.{qualifiers_next}
use Rattle.gs1_links.proofs.link_read.check_qualifiers.Goals as goal

pub loop-pair-preserved : goal.loop-pair-preserved
loop-pair-preserved c =
    let known = c.loop-pair.invariant in
    let one = ap length c.in-Some.ensures.some in (
      qualifiers_next _ _ _ _ _ _ _ _ _ _ c.in-Some.ensures.some c.in_ok-check_written.ensures c.number_of-identifier.ensures
          c.in_ok-check_order.ensures c.after_number-first.ensures c.after_number-second.ensures known.0,
      omega (arith, known.1, one),
      omega (arith, known.2, c.in-Some.ensures.size),
    )
