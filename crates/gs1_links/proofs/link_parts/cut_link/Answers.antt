use Rattle.std.proofs.Common.{sym, ◌∙◌}
use Rattle.gs1_links.proofs.LinkFronts.{front_of_link, wrong_domain, no_key_found, no_front_fault}
use Rattle.gs1_links.proofs.link_parts.cut_link.Goals as goal

pub returns-then-not-is_host-clause-fault : goal.returns-then-not-is_host-clause-fault
returns-then-not-is_host-clause-fault c =
    wrong_domain _ _ _ (front_of_link _ _ _ _ _ c.in-Some.ensures c.in_ok-check_characters.ensures c.first_of-end.ensures.place
    c.cut_at-front.ensures.parts) (sym c.is_host.ensures ∙ c.if-not-is_host.true)

pub returns-in_default-path_in-clause-fault : goal.returns-in_default-path_in-clause-fault
returns-in_default-path_in-clause-fault c =
    no_key_found _ _ _ (front_of_link _ _ _ _ _ c.in-Some.ensures c.in_ok-check_characters.ensures c.first_of-end.ensures.place
    c.cut_at-front.ensures.parts) (sym c.is_host.ensures ∙ c.if-not-is_host.false) c.in_default-path_in.ensures

pub returns-clause-fault : goal.returns-clause-fault
returns-clause-fault c =
    no_front_fault _ _ _ _ (front_of_link _ _ _ _ _ c.in-Some.ensures c.in_ok-check_characters.ensures c.first_of-end.ensures.place
    c.cut_at-front.ensures.parts) (sym c.is_host.ensures ∙ c.if-not-is_host.false) c.in-Some-path_in.ensures
