-- The elements so far.
use Rattle.std.proofs.Common.{◌≡◌, map, take}
use Rattle.gs1.specs.Elements.{bracketed}
use Rattle.single_label.proofs.other_way.link_text.Given as goal

abbrev pub invariant-loop-element : goal.invariant-loop-element
invariant-loop-element l =
    l.text.items ≡ bracketed
    (map (λ e. record { identifier = e.identifier.now; value = e.value.items }) (take l.element-index l.elements))
