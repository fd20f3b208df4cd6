use Rattle.qrcode_grid.proofs.Prelude.{◌≡◌, ◌<◌, ℕ, List, ◌+◌, ◌-◌, ◌*◌, ◌≤◌, ap, ◌∙◌, refl, arith, inl, inr, bit_at, mul-le-mul_right, add-mul}
use Rattle.qrcode_grid.proofs.Prelude.{cases_lt, bit_at-zero, stride, length, cond, get_or, get_or-replicate, is_same, plane}
use lib.ListN.{replicate}
use Rattle.qrcode_grid.proofs.MarkedLanes.{plane_at, with_lanes, lanes_here, lanes_before, lanes_behind}
use Rattle.qrcode_grid.proofs.PaddedCounts.{row_before}
use Rattle.qrcode_grid.proofs.canvas.scoring.lists.write_twins.Goals as goal

pub loop-part-preserved : goal.loop-part-preserved
loop-part-preserved c =
    let from = 16 * c.loop-part.part in let old = c.loop-part.twins in let lanes = c.equal_to_next-lanes.result in
    let new = with_lanes from old lanes in
    let more : c.args.width ≤ c.args.width + 14 = omega arith in
    let last : from + 16 ≤ length old = omega (
      arith,
      mul-le-mul_right (c.args.width + 4) more,
      mul-le-mul_right (c.args.width + 4) c.requires.rows,
      c.requires.twins,
      c.loop-part.auto.twins,
    ) in
    record {
      same = λ m k hm h. elim (cases_lt k from) [
        | inl early ↦ ap (λ b. bit_at b m) (lanes_before from old lanes k last early) ∙ c.loop-part.invariant.same m k hm early
        | inr late ↦
            let j = k - from in
            let here : k ≡ from + j = omega (arith, late) in
            let there : 4 * (c.args.width + 4) + from + j ≡ 4 * (c.args.width + 4) + k = omega (arith, late) in
            ap (λ k. bit_at (get_or new k 0) m) here
            ∙ ap (λ b. bit_at b m) (lanes_here from old lanes j c.equal_to_next-lanes.ensures.whole last (omega (arith, h, late)))
            ∙ c.equal_to_next-lanes.ensures.bits m j hm (omega (arith, h, late))
            ∙ ap (λ k. cond (is_same c.args.step (plane m c.args.padded.now) k 0) 1 0) there
      ];
      after = λ k h. lanes_behind from old lanes k last (omega (arith, h)) ∙ c.loop-part.invariant.after k (omega (arith, h));
    }

pub loop-y-init : goal.loop-y-init
loop-y-init c =
    let s = stride c.args.width in let n = c.args.rows * s in let old = c.loop-part.twins in let zeros : List ℕ = replicate 16 0 in
    let more : c.args.width ≤ c.args.width + 14 = omega arith in
    let last : n + 16 ≤ length old = omega (
      arith,
      mul-le-mul_right s more,
      mul-le-mul_right s c.requires.rows,
      c.requires.twins,
      c.loop-part.auto.twins,
    ) in
    let all : n ≤ 16 * c.loop-part.part = omega (arith, c.loop-part-test.false) in
    record {
      same = λ m x r hm hx hr.
          let within : r * s + x < n = row_before s r x c.args.rows hr (omega (arith, hx, c.requires.columns)) in
          ap (λ b. bit_at b m) (lanes_before n old zeros (r * s + x) last within) ∙ c.loop-part.invariant.same m (r * s + x) hm (omega (arith, within, all));
      beside = λ x r h l hr. absurd (omega (arith, hr));
      below = λ k h. elim (cases_lt k (n + 16)) [
        | inl near ↦
            let e : k ≡ n + (k - n) = omega (arith, h) in
            ap (λ k. get_or (with_lanes n old zeros) k 0) e ∙ lanes_here n old zeros (k - n) refl last (omega (arith, h, near))
            ∙ get_or-replicate 16 (k - n) 0 0 (omega (arith, h, near))
        | inr far ↦ lanes_behind n old zeros k last far ∙ c.loop-part.invariant.after k (omega (arith, far, c.loop-part.auto.part-end)) ∙ c.requires.none k h
      ];
    }

pub loop-y-preserved : goal.loop-y-preserved
loop-y-preserved c =
    let s = stride c.args.width in let y = c.loop-y.y in let row = c.loop-x.invariant in
    let last : y * s + s ≤ c.args.rows * s = omega (arith, mul-le-mul_right s c.loop-y-test.true, add-mul y 1 s) in
    record {
      same = λ m x r hm hx hr. ap (λ b. bit_at b m) (elim (cases_lt r (y + 1)) [
        | inl early ↦ row.before (r * s + x) (omega (arith, mul-le-mul_right s early, add-mul y 1 s, add-mul r 1 s, hx))
        | inr late ↦ row.after (r * s + x) (omega (arith, mul-le-mul_right s late, add-mul y 1 s))
      ]) ∙ c.loop-y.invariant.same m x r hm hx hr;
      beside = λ x r h l hr. elim (cases_lt r y) [
        | inl early ↦ row.before (r * s + x) (omega (arith, row_before s r x y early l)) ∙ c.loop-y.invariant.beside x r h l early
        | inr late ↦
            let e : y ≡ r = omega (arith, hr, late) in
            let here : y * s ≡ r * s = ap (λ r. r * s) e in
            row.zeros (r * s + x) (omega (arith, here, h)) (omega (arith, here, l))
      ];
      below = λ k h. row.after k (omega (arith, h, last)) ∙ c.loop-y.invariant.below k h;
    }

pub returns-clause-twins : goal.returns-clause-twins
returns-clause-twins c = grind (arith, plane_at, bit_at-zero)
