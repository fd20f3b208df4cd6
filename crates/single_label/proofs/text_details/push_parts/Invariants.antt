-- The parts so far were appended.
use Rattle.std.proofs.Common.{◌≡◌, ◌++◌, flat_map, map, take}
use Rattle.std.specs.String.{string_bytes}
use Rattle.text_plans.specs.Plan.{part_of}
use Rattle.single_label.specs.Details.{part_piece}
use Rattle.single_label.proofs.text_details.push_parts.Given as goal

abbrev pub invariant-loop-part : goal.invariant-loop-part
invariant-loop-part l =
    string_bytes l.text ≡ string_bytes l.initial.text ++ flat_map part_piece (map (part_of l.bytes) (take l.part-index l.parts))
