use Rattle.std.proofs.Common.{◌≡◌, ◌≤◌, ◌+◌, length}
use Rattle.gs1.specs.Elements.{elements_behind}
use Rattle.gs1_links.specs.Links.{first_rule_fault}
use Rattle.gs1_links.proofs.link_rules.check_rules.Given as goal

abbrev pub invariant-loop-rest : goal.invariant-loop-rest
invariant-loop-rest l =
    (first_rule_fault l.excluded l.element (elements_behind l.rest)
    ≡ first_rule_fault l.excluded 0 (elements_behind l.fn.text))
    × (l.element + length l.rest ≤ length l.fn.text)

abbrev pub decreases-loop-rest : goal.decreases-loop-rest
decreases-loop-rest l = length l.rest
