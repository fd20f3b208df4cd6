-- The rectangles of the runs of a row cover its dark modules, and each module by one.
use Rattle.std.proofs.Common.{◌≡◌, ℕ, zero, suc, ◌+◌, ◌-◌, ◌<◌, ◌≤◌, true, false, refl, arith, inl, inr}
use Rattle.std.proofs.lemmas.Bool.{true_from_ne_false, cases_lt, cases_Bool, Decides.nat_tests}
use Rattle.grid_pictures.{specs.Pictures.Picture, specs.Pictures.columns_of, specs.Pictures.is_dark_module, specs.Paths.begins_run, specs.Paths.dark_run_length}
use Rattle.grid_pictures.{specs.PathLaws.Covers, specs.PathLaws.CoversDarkModules, proofs.PathLemmas.run_dark, proofs.PathLemmas.run_light}
use Rattle.grid_pictures.{proofs.PathLemmas.run_end}

-- a run of some modules begins within the row, and with a dark module
run_inside : (p : Picture) (a y : ℕ) → 0 < dark_run_length p a y → a < columns_of p
run_inside p a y some = elim (cases_lt a (columns_of p)) [ inl inside ↦ inside | inr outside ↦ absurd (omega (arith, run_end p a y outside, some)) ]

first_dark : (p : Picture) (a y : ℕ) → 0 < dark_run_length p a y → is_dark_module p a y ≡ true
first_dark p a y some = grind (arith, true_from_ne_false, is_dark_module, run_light, run_inside)

-- and so is each of its modules
run_passes : (p : Picture) (a y k : ℕ) → k < dark_run_length p a y → is_dark_module p (a + k) y ≡ true
run_passes p a y zero some = let e : a + 0 ≡ a = omega arith in rw e (first_dark p a y some)
run_passes p a y (suc k) some = grind (arith, dark_run_length, run_dark, run_inside, first_dark, run_passes p (a + 1) y k)

-- it reaches as far as the modules are dark
run_reaches : (p : Picture) (a y n : ℕ) → a + n ≤ columns_of p → ((k : ℕ) → k < n → is_dark_module p (a + k) y ≡ true) → n ≤ dark_run_length p a y
run_reaches p a y zero fits dark = omega arith
run_reaches p a y (suc n) fits dark =
    let e : a + 0 ≡ a = omega arith in
    let first : is_dark_module p a y ≡ true = rw e at (dark 0 (omega arith)) in
    let more : dark_run_length p a y ≡ 1 + dark_run_length p (a + 1) y = run_dark p a y (omega arith) first in
    let rest : n ≤ dark_run_length p (a + 1) y =
    run_reaches p (a + 1) y n (omega arith) (λ k below. let next : a + 1 + k ≡ a + suc k = omega arith in rw next (dark (suc k) (omega arith))) in
    omega (arith, more, rest)

begins_first : (p : Picture) (y : ℕ) → is_dark_module p 0 y ≡ true → begins_run p 0 y ≡ true
begins_first p y dark = rw dark refl

begins_after_light : (p : Picture) (x y : ℕ) → is_dark_module p (x + 1) y ≡ true → is_dark_module p x y ≡ false → begins_run p (x + 1) y ≡ true
begins_after_light p x y dark light = grind (arith, nat_tests)

-- the modules of a run, by their columns
covered_dark : (p : Picture) (start x y : ℕ) → start ≤ x → x < start + dark_run_length p start y → is_dark_module p x y ≡ true
covered_dark p start x y from to =
    let e : x ≡ start + (x - start) = omega arith in
    rw e (run_passes p start y (x - start) (omega arith))

-- a run goes on over a dark module after its last one
reaches_next : (p : Picture) (start x y : ℕ) → x + 1 < columns_of p → is_dark_module p (x + 1) y ≡ true → start ≤ x → x < start + dark_run_length p start y →
    x + 1 < start + dark_run_length p start y
reaches_next p start x y inside dark from to =
    let each : (k : ℕ) → k < x + 2 - start → is_dark_module p (start + k) y ≡ true =
    λ k below. elim (cases_lt (start + k) (x + 1)) [
      | inl earlier ↦ covered_dark p start (start + k) y (omega arith) (omega arith)
      | inr last ↦ (let e : start + k ≡ x + 1 = omega arith in rw e dark)
    ] in
    let far : x + 2 - start ≤ dark_run_length p start y = run_reaches p start y (x + 2 - start) (omega arith) each in
    omega (arith, far)

-- a dark module is covered
covered : (p : Picture) (x y : ℕ) → x < columns_of p → is_dark_module p x y ≡ true → (start : ℕ) × Covers p start x y
covered p zero y inside dark =
    let more : dark_run_length p 0 y ≡ 1 + dark_run_length p (0 + 1) y = run_dark p 0 y inside dark in
    (0, record { begins = begins_first p y dark; from = omega arith; to = omega (arith, more) })
covered p (suc x) y inside dark =
    let next : suc x ≡ x + 1 = omega arith in
    let dark_here : is_dark_module p (x + 1) y ≡ true = rw next at dark in
    elim (cases_Bool (is_dark_module p x y)) [
      | inl before ↦
          (let run = covered p x y (omega arith) before in (
            run.0,
            record {
              begins = run.1.begins;
              from = omega (arith, run.1.from);
              to =
                  rw next (reaches_next p run.0 x y (omega arith) dark_here run.1.from run.1.to);
            },
          ))
      | inr light ↦
          (let more : dark_run_length p (x + 1) y ≡ 1 + dark_run_length p (x + 1 + 1) y = run_dark p (x + 1) y (omega arith) dark_here in
          (x + 1, record { begins = begins_after_light p x y dark_here light; from = omega arith; to = omega (arith, more) }))
    ]

-- no run begins after a dark module
no_begin : (p : Picture) (b y : ℕ) → 0 < b → is_dark_module p (b - 1) y ≡ true → begins_run p b y ≡ false
no_begin p b y some dark = rw dark (grind (arith, nat_tests))

not_before : (p : Picture) (a b x y : ℕ) → Covers p a x y → Covers p b x y → a < b → ⊥
not_before p a b x y first second earlier = grind (arith, is_dark_module, covered_dark, begins_run, no_begin)

-- no two rectangles cover a module
one_each : (p : Picture) (a b x y : ℕ) → Covers p a x y → Covers p b x y → a ≡ b
one_each p a b x y first second =
    elim (cases_lt a b) [
      | inl less ↦ absurd (not_before p a b x y first second less)
      | inr rest ↦ elim (cases_lt b a) [ inl less ↦ absurd (not_before p b a x y second first less) | inr other ↦ omega arith ]
    ]

pub covers_dark_modules : CoversDarkModules
covers_dark_modules p x y inside =
    ((λ dark. covered p x y inside dark, λ run. covered_dark p run.0 x y run.1.from run.1.to), λ a b. one_each p a b x y)
