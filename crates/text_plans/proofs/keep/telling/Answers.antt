-- What a character says was said, or it is taken.
use Rattle.std.proofs.Common.{◌≡◌, ◌<◌, ◌∙◌, inl, inr, ℕ, Vec, Global, List, [], ◌∷◌, ◌++◌, All, length, length-append, replicate, take, refl, ap, sym, subst, arith}
use Rattle.std.proofs.Math.ListN.{get_or-append}
use Rattle.std.proofs.Math.Seq.{get_or-append_seam}
use Rattle.std.proofs.lemmas.Grind.{common_steps}
use Rattle.std.proofs.lemmas.List.Elements.{All-more}
use Rattle.text_plans.specs.declared.facts.Facts.{Facts}
use Rattle.text_plans.specs.Keeping.{StandFor, TakesNoMore}
use Rattle.text_plans.proofs.Sizes.{ones}
use Rattle.text_plans.proofs.keep.telling.Goals as goal
use Rattle.text_plans.proofs.keep.telling.Goals.{then-is_new+in_ok-push, else-is_new}

all_front : (P : Facts → Type 0) (xs ys : List Facts) → All P (xs ++ ys) → All P xs
all_front P xs ys h n d inside = subst P (get_or-append xs ys d n inside) (h n d (omega (arith, inside, length-append xs ys)))

all_last : (P : Facts → Type 0) (xs : List Facts) (x : Facts) → All P (xs ++ x ∷ []) → P x
all_last P xs x h = subst P (get_or-append_seam xs x [] x) (h (length xs) x (omega (arith, length-append xs (x ∷ []))))

even : (to lane : ℕ) (sizes : List ℕ) → to < 17 → lane < 17 → sizes ≡ replicate 17 1 → TakesNoMore to lane sizes
even to lane sizes a b e = rw e (λ some. (λ none. absurd (omega (arith, none, ones 1 to a)), omega (arith, ones 1 to a, ones 1 lane b)))

pub loop-facts-init : goal.loop-facts-init
loop-facts-init c = (
  λ to lane a b h k d inside. absurd (omega (arith, inside)),
  λ to lane a b h. even to lane (replicate 17 1) a b refl,
)

pub loop-facts-preserved : goal.loop-facts-preserved
loop-facts-preserved c =
    let before = c.loop-facts.invariant in
    elim c.if-is_new.branch [
      | then-is_new+in_ok-push w ↦
          let items : c.if-is_new.some.items ≡ c.loop-facts.some.items ++ _ ∷ [] =
          ap (λ (x : Vec Facts Global). x.items) w.some-is ∙ w.in_ok-push.ensures.items in (
            λ to lane a b h.
                let both = subst (λ (x : List Facts). All (λ (facts : Facts). TakesNoMore to lane facts.sizes) x) items h in
                All-more (λ (facts : Facts). TakesNoMore to lane facts.sizes) c.args.all.now c.loop-facts.facts-index _ c.loop-facts-test.true
                (before.0 to lane a b (all_front (λ (facts : Facts). TakesNoMore to lane facts.sizes) c.loop-facts.some.items _ both))
                (all_last (λ (facts : Facts). TakesNoMore to lane facts.sizes) c.loop-facts.some.items _ both),
            λ to lane a b h.
                let both = subst (λ (x : List Facts). All (λ (facts : Facts). TakesNoMore to lane facts.sizes) x) items h in
                subst (λ (sizes : List ℕ). TakesNoMore to lane sizes) (sym w.last-is)
                (all_last (λ (facts : Facts). TakesNoMore to lane facts.sizes) c.loop-facts.some.items _ both),
          )
      | else-is_new w ↦ (
        λ to lane a b h.
            let same = subst (λ (x : Vec Facts Global). All (λ (facts : Facts). TakesNoMore to lane facts.sizes) x.items) w.some-is h in
            All-more (λ (facts : Facts). TakesNoMore to lane facts.sizes) c.args.all.now c.loop-facts.facts-index _ c.loop-facts-test.true
            (before.0 to lane a b same)
            (elim (c.is_new.ensures w.if-is_new.false) [
              | inl ones ↦ even to lane _ a b ones
              | inr again ↦ subst (λ (sizes : List ℕ). TakesNoMore to lane sizes) (sym again) (before.1 to lane a b same)
            ]),
        λ to lane a b h.
            let same = subst (λ (x : Vec Facts Global). All (λ (facts : Facts). TakesNoMore to lane facts.sizes) x.items) w.some-is h in
            subst (λ (sizes : List ℕ). TakesNoMore to lane sizes) (sym w.last-is) (before.1 to lane a b same),
      )
    ]

pub returns : goal.returns
returns c =
    let whole : take c.loop-facts.facts-index c.args.all.now ≡ c.args.all.now = grind (arith, common_steps) in
    subst (λ (all : List Facts). StandFor c.loop-facts.some.items all) whole c.loop-facts.invariant.0
