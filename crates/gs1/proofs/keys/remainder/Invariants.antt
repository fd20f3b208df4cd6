use Rattle.std.proofs.Common.{◌≡◌, ◌<◌, drop}
use Rattle.gs1.specs.Keys.{remainder}
use Rattle.gs1.proofs.keys.remainder.Given as goal

abbrev pub invariant-loop-c : goal.invariant-loop-c
invariant-loop-c l =
    (remainder l.rest (drop l.c-index l.characters) ≡ remainder l.start l.characters) × (l.rest < 97)
