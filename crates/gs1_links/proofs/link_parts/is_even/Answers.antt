use Rattle.gs1_links.proofs.LinkLoops.{even_more, even_end}
use Rattle.gs1_links.proofs.link_parts.is_even.Goals as goal

pub loop-rest-preserved : goal.loop-rest-preserved
loop-rest-preserved c =
    let known = rw c.in-Some.is at c.loop-rest.invariant in
    even_more _ _ _ _ _ c.cut_at-cut.ensures.parts known

pub returns : goal.returns
returns c = let known = rw c.in_default.is at c.loop-rest.invariant in even_end _ _ known
