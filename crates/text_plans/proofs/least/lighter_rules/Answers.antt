-- One of the ways has no more than any parts.
use Rattle.std.proofs.Common.{◌≡◌, ◌⊎◌, ℕ, ap, sym, inl, inr, refl, arith, subst}
use Rattle.std.specs.Prelude.{Option, None, Some, IfNone}
use Rattle.std.proofs.lemmas.Option.{IfSome_then}
use Rattle.text_plans.specs.Keeping.{KeepsEnough}
use Rattle.text_plans.specs.Tables.{first_weight}
use Rattle.text_plans.specs.declared.rules.Rules.{Rules}
use Rattle.text_plans.specs.declared.rules.Way.TheVariants.{Plain, Unmixed, Mixed}
use Rattle.text_plans.proofs.AllWays.{as_way, one_of, one_of_two}
use Rattle.text_plans.proofs.least.lighter_rules.Goals as goal

none_then : {X : Type 0} (r : Option X) (P Q : Type 0) → (P → Q) → IfNone r P → IfNone r Q
none_then None P Q f h = f h
none_then (Some x) P Q f h = tt

one_of_pairs : (P : Rules × ℕ → Type 0) (first second found : Rules × ℕ) → (found ≡ first) ⊎ (found ≡ second) → P first → P second → P found
one_of_pairs P first second found either p q =
    elim either [
      | inl e ↦ subst P (sym e) p
      | inr e ↦ subst P (sym e) q
    ]

pub returns-then-dominates-clause-least : goal.returns-then-dominates-clause-least
returns-then-dominates-clause-least c =
    IfSome_then c.up_to.result c.up_to.ensures.some (λ rules found text others known written.
    let e : first_weight rules c.args.all.now ≡ first_weight c.weighed-plain.result.0 c.args.all.now =
    ap (λ (r : Rules). first_weight r c.args.all.now) found.0 in
    elim (one_of_two c.args.mixed.now.version c.weighed-plain.result.0 c.args.mixed.now
    (as_way c.weighed-plain.result.0 c.args.mixed.now.version Plain c.weighed-plain.ensures.version c.weighed-plain.ensures.way c.weighed-plain.ensures.rules)
    (as_way c.args.mixed.now c.args.mixed.now.version Mixed refl c.requires.way c.requires.rules)
    others text c.args.all.now known (c.dominates.ensures c.if-dominates.true) written) [
      | inl w ↦ omega (arith, e, w)
      | inr w ↦ omega (arith, e, w, found.1, c.weighed-plain.ensures.weight, c.requires.weight)
    ])

pub returns-then-dominates-clause-none : goal.returns-then-dominates-clause-none
returns-then-dominates-clause-none c =
    none_then c.up_to.result _ _ (λ less text others known written.
    elim (one_of_two c.args.mixed.now.version c.weighed-plain.result.0 c.args.mixed.now
    (as_way c.weighed-plain.result.0 c.args.mixed.now.version Plain c.weighed-plain.ensures.version c.weighed-plain.ensures.way c.weighed-plain.ensures.rules)
    (as_way c.args.mixed.now c.args.mixed.now.version Mixed refl c.requires.way c.requires.rules)
    others text c.args.all.now known (c.dominates.ensures c.if-dominates.true) written) [
      | inl w ↦ omega (arith, w, less, c.weighed-plain.ensures.weight, c.requires.weight)
      | inr w ↦ omega (arith, w)
    ]) c.up_to.ensures.none

pub returns-clause-enough : goal.returns-clause-enough
returns-clause-enough c =
    IfSome_then c.up_to-2.result c.up_to-2.ensures.some (λ rules found.
    subst (λ (r : Rules). KeepsEnough r c.args.all.now) (sym found.0)
    (one_of_pairs (λ (x : Rules × ℕ). KeepsEnough x.0 c.args.all.now) c.weighed-plain.result c.weighed-unmixed.result c.lighter.result c.lighter.ensures.either
    c.weighed-plain.ensures.enough c.weighed-unmixed.ensures.enough))

pub returns-clause-least : goal.returns-clause-least
returns-clause-least c =
    IfSome_then c.up_to-2.result c.up_to-2.ensures.some (λ rules found text others known written.
    let e : first_weight rules c.args.all.now ≡ first_weight c.lighter.result.0 c.args.all.now =
    ap (λ (r : Rules). first_weight r c.args.all.now) found.0 in
    let weight : first_weight c.lighter.result.0 c.args.all.now ≡ c.lighter.result.1 =
    sym (one_of_pairs (λ (x : Rules × ℕ). x.1 ≡ first_weight x.0 c.args.all.now) c.weighed-plain.result c.weighed-unmixed.result c.lighter.result
    c.lighter.ensures.either c.weighed-plain.ensures.weight c.weighed-unmixed.ensures.weight) in
    elim (one_of c.args.mixed.now.version c.weighed-plain.result.0 c.weighed-unmixed.result.0 c.args.mixed.now
    (as_way c.weighed-plain.result.0 c.args.mixed.now.version Plain c.weighed-plain.ensures.version c.weighed-plain.ensures.way c.weighed-plain.ensures.rules)
    (as_way c.weighed-unmixed.result.0 c.args.mixed.now.version Unmixed c.weighed-unmixed.ensures.version c.weighed-unmixed.ensures.way c.weighed-unmixed.ensures.rules)
    (as_way c.args.mixed.now c.args.mixed.now.version Mixed refl c.requires.way c.requires.rules)
    others text c.args.all.now known written) [
      | inl w ↦ omega (arith, e, weight, w, c.lighter.ensures.less, c.weighed-plain.ensures.weight)
      | inr rest ↦ elim rest [
        | inl w ↦ omega (arith, e, weight, w, c.lighter.ensures.also, c.weighed-unmixed.ensures.weight)
        | inr w ↦ omega (arith, e, weight, w, found.1, c.requires.weight)
      ]
    ])

pub returns-clause-none : goal.returns-clause-none
returns-clause-none c =
    none_then c.up_to-2.result _ _ (λ less text others known written.
    elim (one_of c.args.mixed.now.version c.weighed-plain.result.0 c.weighed-unmixed.result.0 c.args.mixed.now
    (as_way c.weighed-plain.result.0 c.args.mixed.now.version Plain c.weighed-plain.ensures.version c.weighed-plain.ensures.way c.weighed-plain.ensures.rules)
    (as_way c.weighed-unmixed.result.0 c.args.mixed.now.version Unmixed c.weighed-unmixed.ensures.version c.weighed-unmixed.ensures.way c.weighed-unmixed.ensures.rules)
    (as_way c.args.mixed.now c.args.mixed.now.version Mixed refl c.requires.way c.requires.rules)
    others text c.args.all.now known written) [
      | inl w ↦ omega (arith, less, w, c.lighter.ensures.less, c.weighed-plain.ensures.weight, c.requires.weight)
      | inr rest ↦ elim rest [
        | inl w ↦ omega (arith, less, w, c.lighter.ensures.also, c.weighed-unmixed.ensures.weight, c.requires.weight)
        | inr w ↦ omega (arith, w)
      ]
    ]) c.up_to-2.ensures.none
