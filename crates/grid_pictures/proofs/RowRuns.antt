-- The path of a row, run by run, by where each run ends.
use Rattle.std.proofs.Common.{◌≡◌, ℕ, zero, suc, ◌+◌, ◌-◌, ◌<◌, ◌≤◌, true, false, List, [], inl, inr, refl, sym, subst, ap, ◌∙◌, arith}
use Rattle.std.specs.Prelude.{not, nat_lt, slice_index}
use Rattle.std.proofs.lemmas.Bool.{cases_lt}
use Rattle.grid_pictures.specs.{Paths.begins_run, Paths.dark_run_length, Paths.row_path, Pictures.Picture, Pictures.columns_of, Pictures.is_dark_module}
use Rattle.grid_pictures.specs.{Runs.EndsRun}
use Rattle.grid_pictures.proofs.PathLemmas.{begins_behind, first_begins, row_no_run, row_none, run_dark, run_end, run_light}

-- dark modules up to a light one are a run
run_of : (p : Picture) (y x n : ℕ) → x + n ≤ columns_of p → ((k : ℕ) → x ≤ k → k < x + n → is_dark_module p k y ≡ true) →
    (x + n < columns_of p → is_dark_module p (x + n) y ≡ false) → dark_run_length p x y ≡ n
run_of p y x zero inside dark light = elim (cases_lt x (columns_of p)) [
  | inl less ↦ (
      let e : x + zero ≡ x = omega arith in
      run_light p x y less (subst (λ k. is_dark_module p k y ≡ false) e (light (omega (arith, less)))))
  | inr past ↦ run_end p x y past
]
run_of p y x (suc n) inside dark light =
    let e : x + suc n ≡ x + 1 + n = omega arith in
    let rest = run_of p y (x + 1) n (omega (arith, inside)) (λ k least below. dark k (omega (arith, least)) (omega (arith, below)))
    (λ less. subst (λ k. is_dark_module p k y ≡ false) e (light (omega (arith, less)))) in
    run_dark p x y (omega (arith, inside)) (dark x (omega arith) (omega arith)) ∙ omega (arith, rest)

none_begins : (p : Picture) (y x : ℕ) → is_dark_module p x y ≡ false → begins_run p x y ≡ false
none_begins p y x light = rw light refl

-- light modules add nothing
over_light : (write : ℕ → ℕ → ℕ → List ℕ) (p : Picture) (y x n : ℕ) → ((k : ℕ) → x ≤ k → k < x + n → is_dark_module p k y ≡ false) →
    row_path write p y (x + n) ≡ row_path write p y x
over_light write p y x zero light = let e : x + zero ≡ x = omega arith in ap (row_path write p y) e
over_light write p y x (suc n) light =
    let e : x + suc n ≡ (x + n) + 1 = omega arith in
    ap (row_path write p y) e
    ∙ row_no_run write p y (x + n) (none_begins p y (x + n) (light (x + n) (omega arith) (omega arith)))
    ∙ over_light write p y x n (λ k least below. light k least (omega (arith, below)))

-- from one column to the next run, or to the end of the row
pub record Reaches (write : ℕ → ℕ → ℕ → List ℕ) (p : Picture) (y from to : ℕ) : Type 0 where
  pub onward : from ≤ to
  pub within : to ≤ columns_of p
  pub text : row_path write p y to ≡ row_path write p y from
  pub dark : to < columns_of p → is_dark_module p to y ≡ true
  pub begins : to < columns_of p → begins_run p to y ≡ true

-- a run begins here, or the row ends, and there was none before
pub record Begins (write : ℕ → ℕ → ℕ → List ℕ) (p : Picture) (y x : ℕ) : Type 0 where
  pub inside : x ≤ columns_of p
  pub none : row_path write p y x ≡ []
  pub dark : x < columns_of p → is_dark_module p x y ≡ true
  pub begins : x < columns_of p → begins_run p x y ≡ true

pub begins_at_once : (write : ℕ → ℕ → ℕ → List ℕ) (p : Picture) (y x : ℕ) → x ≡ 0 → is_dark_module p 0 y ≡ true → Begins write p y x
begins_at_once write p y x is dark = subst (Begins write p y) (sym is) (record {
  inside = omega arith;
  none = row_none write p y;
  dark = λ _. dark;
  begins = λ _. first_begins p y ∙ dark;
})

pub begins_later : (write : ℕ → ℕ → ℕ → List ℕ) (p : Picture) (y x to : ℕ) → x ≡ to → Reaches write p y 0 to → Begins write p y x
begins_later write p y x to is w = subst (Begins write p y) (sym is) (record {
  inside = w.within;
  none = w.text ∙ row_none write p y;
  dark = w.dark;
  begins = w.begins;
})

-- nothing stands in a row without a dark module
pub nothing_dark : (write : ℕ → ℕ → ℕ → List ℕ) (p : Picture) (y n : ℕ) → ((k : ℕ) → is_dark_module p k y ≡ false) → row_path write p y n ≡ []
nothing_dark write p y n light =
    let e : 0 + n ≡ n = omega arith in
    sym (ap (row_path write p y) e) ∙ over_light write p y 0 n (λ k _ _. light k) ∙ row_none write p y

module _ (p : Picture) (y : ℕ) (m : List ℕ) (places : (k : ℕ) → k < columns_of p → nat_lt 0 (slice_index m k) ≡ is_dark_module p k y) where
  -- the modules of a run are alike
  alike : (x end : ℕ) → EndsRun m (columns_of p) x end → (k : ℕ) → x ≤ k → k < end → is_dark_module p k y ≡ is_dark_module p x y
  alike x end w k least below =
      sym (places k (omega (arith, below, w.within))) ∙ w.same k least below ∙ places x (omega (arith, w.after, w.within))

  -- the one behind it is not
  differs : (x end : ℕ) → EndsRun m (columns_of p) x end → end < columns_of p → is_dark_module p end y ≡ not (is_dark_module p x y)
  differs x end w inside =
      sym (places end inside) ∙ w.other inside ∙ ap not (places x (omega (arith, w.after, w.within)))

  pub dark_run : (x end : ℕ) → EndsRun m (columns_of p) x end → is_dark_module p x y ≡ true → dark_run_length p x y ≡ end - x
  dark_run x end w dark =
      let e : x + (end - x) ≡ end = omega (arith, w.after) in
      run_of p y x (end - x) (omega (arith, e, w.within))
      (λ k least below. alike x end w k least (omega (arith, below, e)) ∙ dark)
      (λ inside. subst (λ k. is_dark_module p k y ≡ false) (sym e) (differs x end w (omega (arith, inside, e)) ∙ ap not dark))

  pub light_after : (x end : ℕ) → EndsRun m (columns_of p) x end → is_dark_module p x y ≡ true → end < columns_of p →
      is_dark_module p end y ≡ false
  light_after x end w dark inside = differs x end w inside ∙ ap not dark

  -- from a light module, or from the end of the row
  pub reaches : (write : ℕ → ℕ → ℕ → List ℕ) (x end : ℕ) → x ≤ columns_of p → (x < columns_of p → is_dark_module p x y ≡ false) →
      (x < columns_of p → EndsRun m (columns_of p) x end) → (x ≡ columns_of p → end ≡ columns_of p) → Reaches write p y x end
  reaches write x end inside light run last = elim (cases_lt x (columns_of p)) [
    | inl less ↦ (
        let w = run less in
        let e : x + (end - x) ≡ end = omega (arith, w.after) in
        let before : (end - 1) + 1 ≡ end = omega (arith, w.after) in
        let dark : end < columns_of p → is_dark_module p end y ≡ true = λ h. differs x end w h ∙ ap not (light less) in
        record {
          onward = omega (arith, w.after);
          within = w.within;
          text = ap (row_path write p y) (sym e)
              ∙ over_light write p y x (end - x) (λ k least below. alike x end w k least (omega (arith, below, e)) ∙ light less);
          dark = dark;
          begins = λ h. ap (λ k. begins_run p k y) (sym before)
              ∙ begins_behind p (end - 1) y (alike x end w (end - 1) (omega (arith, w.after)) (omega (arith, w.after)) ∙ light less)
              ∙ ap (λ k. is_dark_module p k y) before ∙ dark h;
        })
    | inr past ↦ (
        let is : x ≡ columns_of p = omega (arith, inside, past) in
        let same : end ≡ x = omega (arith, last is, is) in
        record {
          onward = omega (arith, same);
          within = omega (arith, same, inside);
          text = ap (row_path write p y) same;
          dark = λ h. absurd (omega (arith, h, same, past));
          begins = λ h. absurd (omega (arith, h, same, past));
        })
  ]

  module _ (write : ℕ → ℕ → ℕ → List ℕ) (ends : List ℕ)
      (runs : (k : ℕ) → k < columns_of p → EndsRun m (columns_of p) k (slice_index ends k))
      (last : slice_index ends (columns_of p) ≡ columns_of p) where
    -- the run that begins first
    pub first_run : (x : ℕ) → x ≤ columns_of p → (x < columns_of p → is_dark_module p x y ≡ false) →
        Reaches write p y x (slice_index ends x)
    first_run x inside light = reaches write x (slice_index ends x) inside light (runs x) (λ e. ap (slice_index ends) e ∙ last)

    -- the run behind one
    pub next_run : (x : ℕ) → x < columns_of p → is_dark_module p x y ≡ true → Reaches write p y (slice_index ends x) (slice_index ends (slice_index ends x))
    next_run x inside dark =
        first_run (slice_index ends x) (runs x inside).within (light_after x (slice_index ends x) (runs x inside) dark)
