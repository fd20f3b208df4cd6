-- Where runs of one colour end, from the last module of a row to the first.
use Rattle.std.proofs.Common.{◌≡◌, ℕ, zero, suc, ◌+◌, ◌-◌, ◌<◌, ◌≤◌, Bool, true, false, List, inl, inr, refl, sym, subst, ap, ◌∙◌, arith, length}
use mathlib.Core.Bool.{beq}
use Rattle.std.specs.Prelude.{◌≢◌, not, nat_lt, slice_index, slice_set}
use Rattle.std.proofs.lemmas.Bool.{cases_lt}
use Rattle.std.proofs.lemmas.List.{get_or-set_same, get_or-set_other}
use Rattle.grid_pictures.specs.Runs.{EndsRun}

alike : (a b : Bool) → not (beq a b) ≡ false → a ≡ b
alike a b e = grind (arith, e)

apart : (a b : Bool) → not (beq a b) ≡ true → b ≡ not a
apart a b e = grind (arith, e)

module _ (m : List ℕ) (columns : ℕ) where
  abbrev dark : ℕ → Bool
  dark k = nat_lt 0 (slice_index m k)

  -- the last module
  run_last : (k end : ℕ) → k + 1 ≡ columns → end ≡ columns → EndsRun m columns k end
  run_last k end last is = record {
    after = omega (arith, last, is);
    within = omega (arith, is);
    same = λ j least below. (let e : j ≡ k = omega (arith, last, is, least, below) in ap dark e);
    other = λ inside. absurd (omega (arith, is, inside));
  }

  -- a module of the colour of the next one
  run_longer : (k end : ℕ) → dark k ≡ dark (k + 1) → EndsRun m columns (k + 1) end → EndsRun m columns k end
  run_longer k end same next = record {
    after = omega (arith, next.after);
    within = next.within;
    same = λ j least below. elim (cases_lt k j) [
      | inl later ↦ next.same j (omega (arith, later)) below ∙ sym same
      | inr early ↦ (let e : j ≡ k = omega (arith, early, least) in ap dark e)
    ];
    other = λ inside. next.other inside ∙ ap not (sym same);
  }

  -- a module of another colour
  run_begun : (k : ℕ) → k + 1 < columns → dark (k + 1) ≡ not (dark k) → EndsRun m columns k (k + 1)
  run_begun k inside differs = record {
    after = omega arith;
    within = omega (arith, inside);
    same = λ j least below. (let e : j ≡ k = omega (arith, least, below) in ap dark e);
    other = λ _. differs;
  }

  -- one module more, before those that have their ends
  pub run_same : (i x end : ℕ) → x + 1 + i ≡ columns → (i ≡ 0 → end ≡ columns) → (0 < i → EndsRun m columns (columns - i) end) →
      not (beq (dark x) (dark (x + 1))) ≡ false → EndsRun m columns x end
  run_same zero x end place first here same = run_last x end (omega (arith, place)) (first refl)
  run_same (suc i) x end place first here same =
      let e : columns - suc i ≡ x + 1 = omega (arith, place) in
      run_longer x end (alike _ _ same) (subst (λ k. EndsRun m columns k end) e (here (omega arith)))

  pub run_other : (i x end : ℕ) → x + 1 + i ≡ columns → end ≡ x + 1 → not (beq (dark x) (dark (x + 1))) ≡ true → EndsRun m columns x end
  run_other zero x end place is other = run_last x end (omega (arith, place)) (omega (arith, place, is))
  run_other (suc i) x end place is other =
      subst (EndsRun m columns x) (sym is) (run_begun x (omega (arith, place)) (apart _ _ other))

  -- the ends of those that have them, and of one more
  pub runs_more : (ends : List ℕ) (x end : ℕ) → x < length ends → EndsRun m columns x end →
      ((k : ℕ) → x + 1 ≤ k → k < columns → EndsRun m columns k (slice_index ends k)) →
      (k : ℕ) → x ≤ k → k < columns → EndsRun m columns k (slice_index (slice_set ends x end) k)
  runs_more ends x end room here runs k least below = elim (cases_lt x k) [
    | inl later ↦ (
        let other : k ≢ x = λ e. omega (arith, later, e) in
        subst (EndsRun m columns k) (sym (get_or-set_other ends x k end 0 other)) (runs k (omega (arith, later)) below))
    | inr early ↦ (
        let e : x ≡ k = omega (arith, early, least) in
        let same : slice_index (slice_set ends x end) x ≡ end = get_or-set_same ends x end 0 room in
        subst (λ j. EndsRun m columns j (slice_index (slice_set ends x end) j)) e (subst (EndsRun m columns x) (sym same) here))
  ]
