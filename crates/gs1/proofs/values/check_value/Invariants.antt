use Rattle.std.proofs.Common.{◌≡◌, ◌+◌, drop, length}
use Rattle.gs1.specs.Values.{value_fault}
use Rattle.gs1.proofs.values.check_value.Given as goal

abbrev pub invariant-loop-component : goal.invariant-loop-component
invariant-loop-component l =
    (value_fault (drop l.component-index l.components) l.place l.rest ≡ value_fault l.components 0 l.value)
    × (l.place + length l.rest ≡ length l.value)
