use Rattle.std.proofs.Common.{◌≡◌, ℕ, ◌+◌, ◌<◌, get_or, length}
use Rattle.character_sets.specs.Bytes.{IsPartByte}
use Rattle.character_sets.proofs.part_bytes.Given as goal

abbrev pub invariant-loop-column : goal.invariant-loop-column
invariant-loop-column l =
    (length l.bytes ≡ 16) × ((k : ℕ) → k < l.column → IsPartByte (k + 3) l.c (get_or l.bytes k 0))
