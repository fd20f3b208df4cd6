-- Each lane has its size: that of its part, of Shift JIS, of UTF-8, or none.
use Rattle.std.proofs.Common.{◌≡◌, ◌≢◌, ◌∙◌, ℕ, ◌+◌, ◌-◌, ◌<◌, length, get_or, subst, sym, refl}
use Rattle.std.proofs.Common.{inl, inr, arith, below_more, get_or-set_other, get_or-set_same}
use Rattle.std.proofs.Math.ListN.{length-set}
use Rattle.std.proofs.lemmas.Bool.{cases_lt}
use Rattle.std.proofs.lemmas.Grind.{common_steps}
use Rattle.character_sets.specs.Bytes.{IsPartByte}
use Rattle.text_plans.specs.Lanes.{IsSize}
use Rattle.text_plans.proofs.PartSizes.{first_size, last_size, part_size}
use Rattle.text_plans.proofs.Sizes.{utf8_size}
use Rattle.text_plans.proofs.facts.sizes_beyond_ascii.Goals as goal

pub loop-part-init : goal.loop-part-init
loop-part-init c = (
  refl,
  λ k below. absurd (omega arith),
  refl,
  c.size_in_shift_jis.ensures,
  subst (λ (size : ℕ). IsSize 15 c.args.c size) (sym c.len_utf8.ensures.value) (utf8_size c.args.c c.ranges.c.0),
  refl,
)

pub loop-part-preserved : goal.loop-part-preserved
loop-part-preserved c =
    let before = c.loop-part.invariant in
    let column : c.column_of.result < 16 = grind (arith, common_steps, c.column_of.ensures, c.loop-part-test.true) in
    let byte = subst (λ (k : ℕ). IsPartByte (k + 3) c.args.c (get_or c.part_bytes-bytes.result c.column_of.result 0)) c.column_of.ensures
    (c.part_bytes-bytes.ensures c.column_of.result column) in
    let size = subst (λ (size : ℕ). IsSize (c.loop-part.part + 1) c.args.c size) (sym c.min.ensures)
    (part_size c.loop-part.part c.args.c _ c.loop-part-test.true byte) in (
      length-set c.loop-part.sizes (c.loop-part.part + 1) c.min.result ∙ before.0,
      below_more _ _
          (λ k h. let ne : k + 1 ≢ c.loop-part.part + 1 = omega arith in rw get_or-set_other (before.1 k h))
          (let lt : c.loop-part.part + 1 < length c.loop-part.sizes = omega (arith, before.0) in rw get_or-set_same size),
      (let ne : 0 ≢ c.loop-part.part + 1 = omega arith in rw get_or-set_other before.2),
      (let ne : 14 ≢ c.loop-part.part + 1 = omega arith in rw get_or-set_other before.3),
      (let ne : 15 ≢ c.loop-part.part + 1 = omega arith in rw get_or-set_other before.4),
      (let ne : 16 ≢ c.loop-part.part + 1 = omega arith in rw get_or-set_other before.5),
    )

pub returns : goal.returns
returns c = λ lane inside.
    let all = c.loop-part.invariant in
    elim (cases_lt lane 1) [
      | inl none ↦
          let e : 0 ≡ lane = omega arith in
          subst (λ (k : ℕ). IsSize k c.args.c (get_or c.loop-part.sizes k 0)) e
          (subst (λ (n : ℕ). IsSize 0 c.args.c n) (sym all.2) (first_size c.args.c c.requires))
      | inr some ↦ elim (cases_lt lane 14) [
        | inl part ↦
            let e : (lane - 1) + 1 ≡ lane = omega arith in
            subst (λ (k : ℕ). IsSize k c.args.c (get_or c.loop-part.sizes k 0)) e (all.1 (lane - 1) (omega arith))
        | inr last ↦ elim (cases_lt lane 15) [
          | inl now ↦
              let e : 14 ≡ lane = omega arith in subst (λ (k : ℕ). IsSize k c.args.c (get_or c.loop-part.sizes k 0)) e all.3
          | inr later ↦ elim (cases_lt lane 16) [
            | inl now ↦
                let e : 15 ≡ lane = omega arith in subst (λ (k : ℕ). IsSize k c.args.c (get_or c.loop-part.sizes k 0)) e all.4
            | inr end ↦
                let e : 16 ≡ lane = omega arith in
                subst (λ (k : ℕ). IsSize k c.args.c (get_or c.loop-part.sizes k 0)) e
                (subst (λ (n : ℕ). IsSize 16 c.args.c n) (sym all.5) (last_size c.args.c c.requires))
          ]
        ]
      ]
    ]
