use Rattle.std.proofs.Common.{sym, ◌∙◌}
use Rattle.gs1_base.specs.Domains.{is_slash, is_segment}
use Rattle.gs1_base.proofs.Hosts.{part_wrong, part_last, part_behind}
use Rattle.gs1_base.proofs.domain.are_segments.Goals as goal

pub returns-then-not-is_segment : goal.returns-then-not-is_segment
returns-then-not-is_segment c =
    part_wrong is_slash is_segment _ _ _ c.first_of-end.ensures.place c.first_of-end.ensures.within
    (sym c.is_segment.ensures ∙ c.if-not-is_segment.true) c.loop-rest.invariant

pub returns-then-end-rest : goal.returns-then-end-rest
returns-then-end-rest c =
    part_last is_slash is_segment _ _ _ c.first_of-end.ensures.place c.if-end-rest.true
    (sym c.is_segment.ensures ∙ c.if-not-is_segment.false) c.loop-rest.invariant

pub loop-rest-preserved : goal.loop-rest-preserved
loop-rest-preserved c =
    part_behind is_slash is_segment _ _ _ _ c.first_of-end.ensures.place c.first_of-end.ensures.within c.if-end-rest.false
    (sym c.is_segment.ensures ∙ c.if-not-is_segment.false) c.behind-rest.ensures c.loop-rest.invariant
