-- The version has the modes of the parts before this one, and their bits are counted.
use Rattle.qrcode_bits.proofs.Prelude.{◌≡◌, ℕ, ◌+◌, ◌<◌, ◌≤◌, ◌^◌, All, drop, HasMode, segment_at, total_bits, parsed, IsChosenPlan}
use Rattle.qrcode_bits.proofs.bits.choice.chosen_plan.Given as goal

abbrev pub invariant-loop-part : goal.invariant-loop-part
invariant-loop-part l = record {
  chosen : IsChosenPlan (parsed l.bytes) l.version l.part-items;
  ordered : All (λ s. s.begin ≤ s.end) l.part-items;
  few : total_bits l.version l.part-items < 2 ^ 32;
  had : (k : ℕ) → k < l.part-index → HasMode l.version (segment_at l.part-items k).mode;
  counted : l.size + total_bits l.version (drop l.part-index l.part-items) ≡ l.front + total_bits l.version l.part-items;
}

abbrev pub ghosts-optimize_uncounted : goal.ghosts-optimize_uncounted
ghosts-optimize_uncounted a = record { name = a.blank.name; parts = a.blank.parts }
