-- The segments that are left are still to be written.
use Rattle.std.proofs.Common.{◌≡◌, ◌++◌, length, flat_map}
use Rattle.std.specs.String.{string_bytes}
use Rattle.qrcode_bits.specs.SegmentsLeft.{parts_left}
use Rattle.single_label.specs.Details.{segment_text}
use Rattle.single_label.proofs.details.push_plan.Given as goal

abbrev pub invariant-parts : goal.invariant-parts
invariant-parts l =
    string_bytes l.text ++ flat_map segment_text (parts_left l.plan) ≡ string_bytes l.initial.text ++ flat_map segment_text (parts_left l.initial.plan)

abbrev pub decreases-parts : goal.decreases-parts
decreases-parts l = length (parts_left l.plan)
