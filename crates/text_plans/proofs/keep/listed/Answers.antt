-- A lane more is listed, or left out.
use Rattle.std.proofs.Common.{◌≡◌, ◌∙◌, ℕ, List, [], ◌∷◌, ◌++◌, ◌+◌, suc, length, get_or, true, false, refl, ap, sym, subst, arith}
use Rattle.std.proofs.Math.ListN.{length-set}
use Rattle.text_plans.specs.Keeping.{kept_up_to}
use Rattle.text_plans.proofs.Lists.{listed_more, none_at_all, none_more, one_more, length_more}
use Rattle.text_plans.proofs.keep.listed.Goals as goal
use Rattle.text_plans.proofs.keep.listed.Goals.{then-kept-earlier, else-kept-earlier}

pub loop-earlier-init : goal.loop-earlier-init
loop-earlier-init c = (
  omega arith,
  refl,
  ap (λ (x : List ℕ). length x) (none_at_all c.args.kept.now),
  sym (none_at_all c.args.kept.now),
)

pub loop-earlier-preserved : goal.loop-earlier-preserved
loop-earlier-preserved c =
    let before = c.loop-earlier.invariant in
    let next : suc c.loop-earlier.earlier ≡ c.loop-earlier.earlier + 1 = omega arith in
    elim c.if-kept-earlier.branch [
      | then-kept-earlier w ↦
          let more : kept_up_to c.args.kept.now (c.loop-earlier.earlier + 1)
          ≡ kept_up_to c.args.kept.now c.loop-earlier.earlier ++ (c.loop-earlier.earlier + 1) ∷ [] =
          subst (λ (n : ℕ). kept_up_to c.args.kept.now n ≡ kept_up_to c.args.kept.now c.loop-earlier.earlier ++ n ∷ []) next
          (one_more c.args.kept.now c.loop-earlier.earlier (subst (λ (n : ℕ). get_or c.args.kept.now n false ≡ true) (sym next) w.if-kept-earlier.true)) in (
            omega (arith, before.0, w.count-is),
            ap (λ (x : List ℕ). length x) w.lanes-is ∙ length-set c.loop-earlier.lanes c.loop-earlier.count (c.loop-earlier.earlier + 1) ∙ before.1,
            omega (
              arith,
              ap (λ (x : List ℕ). length x) more,
              length_more (kept_up_to c.args.kept.now c.loop-earlier.earlier) (c.loop-earlier.earlier + 1),
              before.2,
              w.count-is,
            ),
            rw w.count-is
                (rw w.lanes-is
                (listed_more c.loop-earlier.lanes c.loop-earlier.count (c.loop-earlier.earlier + 1) (kept_up_to c.args.kept.now c.loop-earlier.earlier)
                (omega (arith, before.0, before.1, c.loop-earlier-test.true)) before.3
                ∙ sym more)),
          )
      | else-kept-earlier w ↦
          let same : kept_up_to c.args.kept.now (c.loop-earlier.earlier + 1) ≡ kept_up_to c.args.kept.now c.loop-earlier.earlier =
          subst (λ (n : ℕ). kept_up_to c.args.kept.now n ≡ kept_up_to c.args.kept.now c.loop-earlier.earlier) next
          (none_more c.args.kept.now c.loop-earlier.earlier (subst (λ (n : ℕ). get_or c.args.kept.now n false ≡ false) (sym next) w.if-kept-earlier.false)) in (
            omega (arith, before.0, w.count-is),
            ap (λ (x : List ℕ). length x) w.lanes-is ∙ before.1,
            ap (λ (x : List ℕ). length x) same ∙ before.2 ∙ sym w.count-is,
            rw w.count-is (rw w.lanes-is (before.3 ∙ sym same)),
          )
    ]
