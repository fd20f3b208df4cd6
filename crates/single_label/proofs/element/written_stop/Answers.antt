-- The element is the one that was found.
use Rattle.std.proofs.Common.{Some, sym}
use Rattle.single_label.specs.Element.{given_element}
use Rattle.single_label.proofs.element.written_stop.Goals as goal

pub returns-in-Some-written_element-clause-named : goal.returns-in-Some-written_element-clause-named
returns-in-Some-written_element-clause-named c = record {
  element = Some (given_element c.in-Some-written_element.element);
  found = rw (sym c.in-Some.ensures) c.in-Some-written_element.ensures.written;
  named = c.named.ensures.named;
}
