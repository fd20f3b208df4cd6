use Rattle.gs1_links.proofs.LinkOutcomes.{all_read}
use Rattle.gs1_links.proofs.link_read.elements_of_link.Goals as goal

pub returns-clause-read : goal.returns-clause-read
returns-clause-read c =
    all_read _ _ c.in_ok-parts.parts.path.now _ _ _ _ _ _ _ c.in_ok-parts.ensures.fault c.in_ok-parts.ensures.path c.in_ok-parts.ensures.query
    c.in_ok-count.ensures.fault c.in_ok-count.ensures.count c.query_left-query.ensures.parts c.path_key-key.ensures c.in_ok-check_query.ensures
    c.in_ok-check_twins.ensures c.in_ok-check_together.ensures c.new-elements.ensures.items c.in_ok-push_path.ensures c.in_ok-push_query.ensures
