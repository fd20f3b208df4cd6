use Rattle.qrcode_bits.proofs.Prelude.{◌≡◌, ℕ, ◌<◌, length, Mode, None, groups_of}
use Rattle.qrcode_bits.proofs.optimize.linear.move_group.Given as goal

abbrev pub invariant-loop-bucket : goal.invariant-loop-bucket
invariant-loop-bucket g l = record {
  long : length l.groups ≡ 32;
  none : (j : ℕ) → j < l.bucket → groups_of g.S.AnyStart.read g.S.AnyStart.FAR l.groups l.from j ≡ None;
  others : (mode : Mode) (j : ℕ) → j < 8 → (mode ≡ l.from → ⊥) →
      groups_of g.S.AnyStart.read g.S.AnyStart.FAR l.groups mode j ≡ groups_of g.S.AnyStart.read g.S.AnyStart.FAR l.initial.groups mode j;
}
