use Rattle.std.proofs.Common.{◌≡◌, ◌≤◌, ◌+◌, true, false, length}
use Rattle.std.specs.Option.{option_map, option_map_or}
use Rattle.gs1_links.specs.Links.{order_of}
use Rattle.gs1_base.specs.Domains.{is_slash}
use Rattle.gs1_links.specs.LinkFaults.{cut_parts, pairs, qualifiers_fault}
use Rattle.gs1_links.proofs.link_read.check_qualifiers.Given as goal

abbrev pub invariant-loop-pair : goal.invariant-loop-pair
invariant-loop-pair l =
    (qualifiers_fault l.first l.second l.element (pairs (cut_parts is_slash (option_map (λ t. t.now) l.rest)))
    ≡ qualifiers_fault (order_of l.key false) (order_of l.key true) 1 (pairs (cut_parts is_slash (option_map (λ t. t.now) l.path))))
    × (l.element + length (pairs (cut_parts is_slash (option_map (λ t. t.now) l.rest))) ≡ 1 + length (pairs (cut_parts is_slash (option_map (λ t. t.now) l.path))))
    × (l.element + option_map_or (λ t. length t.now + 1) l.rest 0 ≤ 1 + option_map_or (λ t. length t.now + 1) l.path 0)

abbrev pub decreases-loop-pair : goal.decreases-loop-pair
decreases-loop-pair l = option_map_or (λ t. length t.now + 1) l.rest 0
