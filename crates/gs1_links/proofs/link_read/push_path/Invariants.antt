use Rattle.std.proofs.Common.{◌≡◌, ◌+◌, ◌++◌, length, map}
use Rattle.std.specs.List.{slice_split}
use Rattle.std.specs.Option.{option_map, option_map_or}
use Rattle.gs1_base.specs.Domains.{is_slash}
use Rattle.gs1_links.specs.LinkFaults.{cut_parts, pairs, decoded_element}
use Rattle.gs1_links.proofs.link_read.push_path.Given as goal

abbrev pub invariant-loop-pair : goal.invariant-loop-pair
invariant-loop-pair l =
    map (λ e. record { identifier = e.identifier.now; value = e.value.items }) l.elements.items ++ map decoded_element (pairs (cut_parts is_slash (option_map (λ t. t.now) l.rest)))
    ≡ map (λ e. record { identifier = e.identifier.now; value = e.value.items }) l.fn.elements.items ++ map decoded_element (pairs (slice_split is_slash l.path))

abbrev pub decreases-loop-pair : goal.decreases-loop-pair
decreases-loop-pair l = option_map_or (λ t. length t.now + 1) l.rest 0
