-- The header and the parts so far were pushed.
use Rattle.std.proofs.Common.{◌≡◌, map, take}
use Rattle.text_plans.specs.Plan.{part_of}
use Rattle.smallest_symbols.specs.TextFrames.{headed_bits}
use Rattle.smallest_symbols.proofs.pushing.plan_bits.Given as goal

abbrev pub invariant-loop-part : goal.invariant-loop-part
invariant-loop-part l = record {
  version : l.bits.version ≡ l.fn.version;
  bits : l.bits.bits ≡ headed_bits l.fn.version l.fn.header (map (part_of l.bytes) (take l.part-index l.parts));
}
