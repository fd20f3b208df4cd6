use Rattle.gs1_links.proofs.LinkLoops.{cut_last, cut_more}
use Rattle.gs1_links.proofs.link_parts.cut_at.Goals as goal

pub returns-then-end-text-clause-parts : goal.returns-then-end-text-clause-parts
returns-then-end-text-clause-parts c =
    cut_last _ _ _ c.first_of-end.ensures.place c.if-end-text.true

pub returns-clause-parts : goal.returns-clause-parts
returns-clause-parts c =
    cut_more _ _ _ _ c.first_of-end.ensures.place c.first_of-end.ensures.within c.if-end-text.false c.behind.ensures
