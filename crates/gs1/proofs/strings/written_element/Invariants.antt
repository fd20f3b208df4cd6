use Rattle.std.proofs.Common.{◌≡◌, ℕ, ◌+◌}
use Rattle.std.specs.Prelude.{slice_get}
use Rattle.gs1.specs.Elements.{elements_behind, written_elements}
use Rattle.gs1.proofs.strings.written_element.Given as goal

abbrev pub invariant-loop : goal.invariant-loop
invariant-loop l = (k : ℕ) →
    slice_get (elements_behind l.rest) k ≡ slice_get (written_elements l.fn.text) (l.counter + k)
