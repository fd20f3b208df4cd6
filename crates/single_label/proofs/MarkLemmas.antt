-- What stands between the marks of a scanner.
use Rattle.std.proofs.Common.{◌≤◌, ℕ, List, length, arith}
use Rattle.std.proofs.lemmas.Grind.{common_steps}
use Rattle.gs1.specs.Read.{without_symbology, without_separator, scanned}

no_symbology : (bytes : List ℕ) → length (without_symbology bytes) ≤ length bytes
unfolding without_symbology
no_symbology bytes = grind (arith, common_steps)

no_separator : (bytes : List ℕ) → length (without_separator bytes) ≤ length bytes
unfolding without_separator
no_separator bytes = grind (arith, common_steps)

pub unmarked_shorter : (bytes : List ℕ) → length (scanned bytes) ≤ length bytes
unmarked_shorter bytes = omega (arith, no_separator (without_symbology bytes), no_symbology bytes)
