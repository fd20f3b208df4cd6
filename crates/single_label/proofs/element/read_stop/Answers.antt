-- The element is the one that was found.
use Rattle.std.proofs.Common.{Some, sym}
use Rattle.single_label.specs.Element.{given_element}
use Rattle.single_label.proofs.element.read_stop.Goals as goal

pub returns-in-Some-read_element-clause-named : goal.returns-in-Some-read_element-clause-named
returns-in-Some-read_element-clause-named c = record {
  element = Some (given_element c.in-Some-read_element.element);
  found = rw (sym c.in-Some.ensures) c.in-Some-read_element.ensures.found;
  named = c.named.ensures.named;
}
