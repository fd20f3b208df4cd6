use Rattle.std.proofs.Common.{◌≡◌, ◌++◌, length}
use Rattle.gs1.specs.Elements.{elements_behind}
use Rattle.std.specs.List.{filter}
use Rattle.gs1_links.specs.Links.{query_text, is_attribute}
use Rattle.gs1_links.proofs.link.push_query.Given as goal

abbrev pub invariant-loop-separator : goal.invariant-loop-separator
invariant-loop-separator l =
    l.link.items ++ query_text l.separator (filter (is_attribute l.key) (elements_behind l.rest))
    ≡ l.fn.link.items ++ query_text 0x3f (filter (is_attribute l.key) (elements_behind l.fn.text))

abbrev pub decreases-loop-separator : goal.decreases-loop-separator
decreases-loop-separator l = length l.rest
