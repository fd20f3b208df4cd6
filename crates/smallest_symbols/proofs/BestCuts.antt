-- The fewest of the cuts of all manners are the best.
use Rattle.std.proofs.Common.{◌≡◌, ℕ, ◌-◌, ◌^◌, ◌<◌, ◌≤◌, ◌⊎◌, inl, inr, List, length, sym, subst}
use Rattle.std.proofs.Common.{arith, Global, Vec}
use Rattle.std.specs.Prelude.{IfNone, IfSome, None, Option, Some}
use Rattle.qrcode_base.specs.declared.types.EcLevel.{EcLevel}
use Rattle.text_plans.specs.declared.rules.Manner.{Manner}
use Rattle.text_plans.specs.declared.rules.Manner.TheVariants.{Ascii, Paired, Designated}
use Rattle.smallest_symbols.specs.TextCuts.{AreBestTextCuts, AreFewestIn, AreFittingTextCuts}
use Rattle.smallest_symbols.specs.TextCuts.{HasNoCutsIn, count_of_cuts}

module _ (message : List ℕ) (level : EcLevel) (limit : ℕ) where
  -- What is known of the cuts of a manner.
  abbrev pub AreThose : Manner → Option (Vec ℕ Global) → Type 0
  AreThose manner None = HasNoCutsIn manner message level limit
  AreThose manner (Some cuts) = AreFewestIn manner message level limit cuts.items

  pub those_are : (manner : Manner) (found : Option (Vec ℕ Global)) → IfSome found (λ cuts. AreFewestIn manner message level limit cuts.items) →
      IfNone found (HasNoCutsIn manner message level limit) → AreThose manner found
  those_are manner None some none = none
  those_are manner (Some cuts) some none = some

  -- A list of cuts that are no more than those of a manner are no more than any that fit in it.
  no_more : (manner : Manner) (found : Option (Vec ℕ Global)) (n : ℕ) → AreThose manner found → n < 16 → n ≤ count_of_cuts found →
      (others : List ℕ) → AreFittingTextCuts manner message level limit 0 others → n ≤ length others
  no_more manner None n h few less others fit = let many = h others fit in omega (arith, many, few)
  no_more manner (Some cuts) n h few less others fit = let fewest = h.fewest others fit in omega (arith, fewest, less)

  -- Where there are none that are no more, there are none.
  none_in : (manner : Manner) (found : Option (Vec ℕ Global)) → AreThose manner found → 2 ^ 64 - 1 ≤ count_of_cuts found →
      HasNoCutsIn manner message level limit
  none_in manner None h less = h
  none_in manner (Some cuts) h less = absurd (omega (arith, h.few, less))

  module _ (ascii paired plain designated best : Option (Vec ℕ Global)) (a : AreThose Ascii ascii) (p : AreThose Paired paired)
      (d : AreThose Designated designated) (pa : count_of_cuts plain ≤ count_of_cuts ascii) (pp : count_of_cuts plain ≤ count_of_cuts paired)
      (bp : count_of_cuts best ≤ count_of_cuts plain) (bd : count_of_cuts best ≤ count_of_cuts designated)
      (either : (plain ≡ ascii) ⊎ (plain ≡ paired)) (or : (best ≡ plain) ⊎ (best ≡ designated)) where
    of_plain : (manner : Manner) × AreThose manner plain
    of_plain = elim either [
      | inl e ↦ (Ascii, subst (AreThose Ascii) (sym e) a)
      | inr e ↦ (Paired, subst (AreThose Paired) (sym e) p)
    ]

    of_best : (manner : Manner) × AreThose manner best
    of_best = elim or [
      | inl e ↦ (of_plain.0, subst (AreThose of_plain.0) (sym e) of_plain.1)
      | inr e ↦ (Designated, subst (AreThose Designated) (sym e) d)
    ]

    fewest_of : (n : ℕ) → n < 16 → n ≤ count_of_cuts best → (manner : Manner) (others : List ℕ) →
        AreFittingTextCuts manner message level limit 0 others → n ≤ length others
    fewest_of n few less Ascii others fit = no_more Ascii ascii n a few (omega (arith, less, bp, pa)) others fit
    fewest_of n few less Paired others fit = no_more Paired paired n p few (omega (arith, less, bp, pp)) others fit
    fewest_of n few less Designated others fit = no_more Designated designated n d few (omega (arith, less, bd)) others fit

    none_of : 2 ^ 64 - 1 ≤ count_of_cuts best → (manner : Manner) → HasNoCutsIn manner message level limit
    none_of less Ascii = none_in Ascii ascii a (omega (arith, less, bp, pa))
    none_of less Paired = none_in Paired paired p (omega (arith, less, bp, pp))
    none_of less Designated = none_in Designated designated d (omega (arith, less, bd))

    pub best_of : (cuts : Vec ℕ Global) → best ≡ Some cuts → AreBestTextCuts message level limit cuts.items
    best_of cuts is =
        let found = subst (AreThose of_best.0) is of_best.1 in
        let size : length cuts.items ≤ count_of_cuts best = subst (λ (o : Option (Vec ℕ Global)). length cuts.items ≤ count_of_cuts o) (sym is) (omega arith) in
        record {
          manner = of_best.0;
          fitting = found.fitting;
          few = found.few;
          fewest = λ manner others fit. fewest_of (length cuts.items) found.few size manner others fit;
        }

    pub none_at_best : best ≡ None → (manner : Manner) → HasNoCutsIn manner message level limit
    none_at_best is =
        none_of (subst (λ (o : Option (Vec ℕ Global)). 2 ^ 64 - 1 ≤ count_of_cuts o) (sym is) (omega arith))
