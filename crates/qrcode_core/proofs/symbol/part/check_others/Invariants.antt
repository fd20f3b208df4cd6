-- Each part before, but the one at the index, fits.
use Rattle.std.specs.Prelude.{ℕ, ◌<◌, ◌≢◌, nat_abs}
use Rattle.qrcode_bits.specs.declared.bits.front.Content.TheVariants.{Bytes}
use Rattle.qrcode_core.specs.Sequence.{IsPartTooLongAt}
use Rattle.qrcode_core.proofs.symbol.part.check_others.Given as goal

abbrev pub invariant-loop-other : goal.invariant-loop-other
invariant-loop-other l = record {
  fitting : (k : ℕ) → k < l.other → k ≢ l.index →
      IsPartTooLongAt Bytes l.bytes l.cuts l.level (nat_abs l.max_version) k → ⊥;
}
