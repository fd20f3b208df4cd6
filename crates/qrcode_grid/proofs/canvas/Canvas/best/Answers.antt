use Rattle.qrcode_grid.proofs.Prelude.{◌≡◌, ◌<◌, ℕ, ap, ◌∙◌, sym, subst, arith, List, length, get_or, get_or_default, slice_get, Some, Drawing, MaskPattern}
use Rattle.qrcode_grid.proofs.Prelude.{family, penalty, colors_of, with_mask, mask_penalties, IsFirstLeast, slice_get-get_or, length-map}
use Rattle.qrcode_grid.specs.declared.canvas.MaskPattern.TheVariants.{Checkerboard}
use Rattle.qrcode_grid.proofs.Conditions.{some_mask, of_family, penalty_at}
use Rattle.qrcode_grid.proofs.canvas.Canvas.best.Goals as goal

-- the masks that were read are those of the family, and there is one at the place
family_is : (c : goal.After-drop-values) → c.family_of.result.now ≡ family c.args.self.now.version
family_is c = c.family_of.ensures ∙ ap (λ (d : Drawing). family d.version) (c.self.view_is ∙ c.candidates.ensures.unchanged)

size_is : (c : goal.After-drop-values) → length c.in_ok-scratch.values.items ≡ length (family c.args.self.now.version)
size_is c = grind (arith, length-map)

within : (c : goal.After-drop-values) → c.loop-i.best < length (family c.args.self.now.version)
within c = omega (arith, size_is c, some_mask c.args.self.now.version)

value_at_best : (c : goal.After-drop-values) → c.index-2.result.now ≡ get_or (mask_penalties c.args.self.now) c.loop-i.best 0
value_at_best c = grind (arith, get_or_default, size_is)

pub returns-clause-best : goal.returns-clause-best
returns-clause-best c =
    let d = c.args.self.now in
    let i = c.loop-i.best in (
      i,
      subst (λ (masks : List MaskPattern). slice_get (family d.version) i ≡ Some (get_or masks i Checkerboard)) (sym (family_is c))
          (slice_get-get_or (family d.version) i Checkerboard (within c)),
      subst (λ (values : List ℕ). IsFirstLeast values i) c.in_ok-scratch.ensures.penalties
          ((omega (arith, size_is c, within c), λ k h. c.loop-i.invariant.least k (omega (arith, h)), c.loop-i.invariant.first)),
    )

pub returns-clause-family : goal.returns-clause-family
returns-clause-family c = grind (arith, family_is, of_family)

pub returns-clause-least : goal.returns-clause-least
returns-clause-least c =
    let d = c.args.self.now in
    let i = c.loop-i.best in
    subst (λ (masks : List MaskPattern). c.index-2.result.now ≡ penalty d.version (colors_of (with_mask (get_or masks i Checkerboard) d))) (sym (family_is c))
    (value_at_best c ∙ penalty_at d i (within c))

pub returns-clause-candidate : goal.returns-clause-candidate
returns-clause-candidate c = c.in_ok-scratch.ensures.candidates _ (returns-clause-family c)
