-- The parts of a plan: designators, and segments whose bytes stand one after the other.
use Rattle.std.specs.Prelude.{ℕ, ◌≤◌, List, [], ◌∷◌, ◌++◌, map, Option, Some, None, slice_range}
use Rattle.qrcode_base.specs.declared.types.Mode.{Mode}
use Rattle.character_sets.specs.Reading.{Part, designator, segment}
use Rattle.text_plans.specs.declared.plan.PlanPart.{PlanPart}
use Rattle.text_plans.specs.declared.plan.PlanPart.TheVariants.{Designator, Segment}

-- A plan: its bytes, and its parts, of which each segment is in a mode from a byte up to, not
-- including, another.
pub record Plan : Type 0 where
  pub bytes : List ℕ
  pub parts : List PlanPart

-- A part, with the bytes of a segment.
abbrev pub part_of : List ℕ → PlanPart → Part
part_of bytes (Designator number) = designator number
part_of bytes (Segment mode begin end) = segment mode (slice_range bytes begin end)

-- The parts of a plan.
abbrev pub plan_parts : Plan → List Part
plan_parts plan = map (part_of plan.bytes) plan.parts

-- The bytes of a segment lie within the first `size` bytes.
abbrev pub LiesWithin : ℕ → PlanPart → Type 0
LiesWithin size (Designator number) = Unit {0}
LiesWithin size (Segment mode begin end) = (begin ≤ end) × (end ≤ size)

-- A plan that is being written: the parts that are complete, and the mode of the open segment, if
-- there is one, with its bytes.
pub record Written : Type 0 where
  pub parts : List Part
  pub mode : Option Mode
  pub bytes : List ℕ

-- The parts with the open segment.
abbrev pub all_parts : Written → List Part
all_parts written = elim written.mode [
  | None ↦ written.parts
  | Some mode ↦ written.parts ++ segment mode written.bytes ∷ []
]
