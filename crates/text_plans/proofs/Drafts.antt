-- The parts of a plan while it is written.
use Rattle.std.proofs.Common.{◌≡◌, ℕ, ◌≤◌, List, [], ◌∷◌, ◌++◌, length, drop, map, refl, ap, arith}
use Rattle.std.proofs.Common.{All}
use Rattle.std.specs.Prelude.{slice_range, Option}
use Rattle.std.proofs.lemmas.Grind.{common_steps}
use Rattle.std.proofs.lemmas.List.{drop-append-le}
use Rattle.std.proofs.lemmas.List.Elements.{All-head, All-tail}
use Rattle.character_sets.specs.Reading.{segment}
use Rattle.qrcode_base.specs.declared.types.Mode.{Mode}
use Rattle.text_plans.specs.Plan.{LiesWithin, part_of, Written}
use Rattle.text_plans.specs.declared.plan.PlanPart.{PlanPart}
use Rattle.text_plans.specs.declared.plan.PlanPart.TheVariants.{Designator, Segment}

range_kept : (bytes more : List ℕ) (begin end : ℕ) → begin ≤ end → end ≤ length bytes →
    slice_range (bytes ++ more) begin end ≡ slice_range bytes begin end
range_kept bytes more begin end h k = grind (arith, common_steps)

part_kept : (bytes more : List ℕ) (size : ℕ) (part : PlanPart) → size ≤ length bytes → LiesWithin size part →
    part_of (bytes ++ more) part ≡ part_of bytes part
part_kept bytes more size (Designator number) h within = refl
part_kept bytes more size (Segment mode begin end) h within =
    ap (λ (x : List ℕ). segment mode x) (range_kept bytes more begin end within.0 (omega (arith, within.1)))

pub parts_kept : (bytes more : List ℕ) (size : ℕ) (parts : List PlanPart) → size ≤ length bytes → All (LiesWithin size) parts →
    map (part_of (bytes ++ more)) parts ≡ map (part_of bytes) parts
parts_kept bytes more size [] h within = refl
parts_kept bytes more size (part ∷ parts) h within =
    let first = part_kept bytes more size part h (All-head (LiesWithin size) part parts within) in
    let later = parts_kept bytes more size parts h (All-tail (LiesWithin size) part parts within) in
    rw first (rw later refl)

-- What is complete stays as it is, and the open segment gets the bytes.
pub pushed : (old new more : List ℕ) (begin : ℕ) (parts : List PlanPart) (mode : Option Mode) → new ≡ old ++ more → begin ≤ length old →
    All (LiesWithin begin) parts →
    let before : Written = record { parts = map (part_of old) parts; mode = mode; bytes = drop begin old } in
    let after : Written = record { parts = map (part_of new) parts; mode = mode; bytes = drop begin new } in
    after ≡ record before { bytes = drop begin old ++ more }
pushed old new more begin parts mode is h within =
    rw is (rw (parts_kept old more begin parts h within) (rw (drop-append-le begin old more h) refl))
