use Rattle.std.proofs.Common.{◌≡◌, ◌+◌, length}
use Rattle.std.specs.List.{list_any}
use Rattle.std.specs.Option.{option_map, option_map_or}
use Rattle.gs1_links.specs.LinkReader.{is_ampersand}
use Rattle.gs1_links.specs.LinkFaults.{cut_parts, is_part_of}
use Rattle.gs1_links.proofs.link_read.stands_in.Given as goal

abbrev pub invariant-loop-rest : goal.invariant-loop-rest
invariant-loop-rest l =
    list_any (is_part_of l.identifier) (cut_parts is_ampersand (option_map (λ t. t.now) l.rest))
    ≡ list_any (is_part_of l.identifier) (cut_parts is_ampersand (option_map (λ t. t.now) l.query))

abbrev pub decreases-loop-rest : goal.decreases-loop-rest
decreases-loop-rest l = option_map_or (λ t. length t.now + 1) l.rest 0
