use Rattle.std.proofs.Common.{◌≡◌, ◌++◌, take}
use Rattle.std.specs.List.{flat_map}
use Rattle.std.specs.Option.{option_to_list}
use Rattle.gs1.specs.Elements.{written_elements}
use Rattle.gs1_links.specs.Links.{path_text, primary_key, element_with}
use Rattle.gs1_links.proofs.link.push_path.Given as goal

abbrev pub invariant-loop-number : goal.invariant-loop-number
invariant-loop-number l =
    l.link.items ≡ l.fn.link.items ++ flat_map path_text (option_to_list (primary_key (written_elements l.text)))
    ++ flat_map (λ n. flat_map path_text (option_to_list (element_with n (written_elements l.text))))
    (take l.number-index l.order)
