use Rattle.std.proofs.Common.{◌≡◌, ◌≤◌, ◌+◌, length}
use Rattle.std.specs.Option.{option_map, option_map_or}
use Rattle.gs1_links.specs.LinkReader.{is_ampersand}
use Rattle.gs1_links.specs.LinkFaults.{cut_parts, query_fault}
use Rattle.gs1_links.proofs.link_read.check_query.Given as goal

abbrev pub invariant-loop-rest : goal.invariant-loop-rest
invariant-loop-rest l =
    (query_fault l.key l.element (cut_parts is_ampersand (option_map (λ t. t.now) l.rest)) ≡ query_fault l.key l.first (cut_parts is_ampersand (option_map (λ t. t.now) l.query)))
    × (l.element + option_map_or (λ t. length t.now + 1) l.rest 0 ≤ l.first + option_map_or (λ t. length t.now + 1) l.query 0)

abbrev pub decreases-loop-rest : goal.decreases-loop-rest
decreases-loop-rest l = option_map_or (λ t. length t.now + 1) l.rest 0
