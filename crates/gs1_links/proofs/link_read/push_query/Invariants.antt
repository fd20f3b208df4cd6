use Rattle.std.proofs.Common.{◌≡◌, ◌+◌, ◌++◌, length, map}
use Rattle.std.specs.Option.{option_map, option_map_or}
use Rattle.gs1_links.specs.LinkReader.{is_ampersand}
use Rattle.gs1_links.specs.LinkFaults.{cut_parts, decoded_element, part_element}
use Rattle.gs1_links.proofs.link_read.push_query.Given as goal

abbrev pub invariant-loop-rest : goal.invariant-loop-rest
invariant-loop-rest l =
    map (λ e. record { identifier = e.identifier.now; value = e.value.items }) l.elements.items ++ map (λ part. decoded_element (part_element part)) (cut_parts is_ampersand (option_map (λ t. t.now) l.rest))
    ≡ map (λ e. record { identifier = e.identifier.now; value = e.value.items }) l.fn.elements.items ++ map (λ part. decoded_element (part_element part)) (cut_parts is_ampersand (option_map (λ t. t.now) l.query))

abbrev pub decreases-loop-rest : goal.decreases-loop-rest
decreases-loop-rest l = option_map_or (λ t. length t.now + 1) l.rest 0
