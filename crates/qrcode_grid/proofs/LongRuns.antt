-- The runs of a line, by its fives and sixes of one colour: a run of n modules, n at least 5, has n
-- - 4 fives and n - 5 sixes.
use Rattle.qrcode_grid.proofs.Prelude.{◌≡◌, ℕ, zero, suc, ◌+◌, ◌-◌, ◌*◌, ◌<◌, ◌≤◌, ◌==◌, ◌&&◌, Bool, true, false, cond, List, [], ◌∷◌, length, get_or, refl}
use Rattle.qrcode_grid.proofs.Prelude.{◌||◌, arith, not, ap, ◌∙◌, sym, prefix_len, eqb_tells, common_steps, count_below, sum_below, nat_le}
use Rattle.qrcode_grid.{specs.Penalty.run_length, proofs.Totals.total-first, proofs.Totals.total-cong}

-- what a run of n modules counts
abbrev pub length_penalty : ℕ → ℕ
length_penalty n = cond (nat_le 5 n) (n - 2) 0

-- whether a maximal run begins at a place
abbrev begins_run : List ℕ → ℕ → Bool
begins_run line i = i == 0 || not (get_or line (i - 1) 0 == get_or line i 0)

-- what the runs of a line count
abbrev pub runs_penalty : List ℕ → ℕ
runs_penalty line = sum_below (λ i. cond (begins_run line i && nat_le 5 (run_length line i)) (run_length line i - 2) 0) (length line)

-- what the run counts that begins at a place, if one does
abbrev pub run_penalty : List ℕ → ℕ → ℕ
run_penalty line i = cond (begins_run line i) (length_penalty (run_length line i)) 0

both_tests : (a b : Bool) (n : ℕ) → cond (a && b) n 0 ≡ cond a (cond b n 0) 0
both_tests a b n = grind arith

by_runs : (line : List ℕ) → runs_penalty line ≡ sum_below (run_penalty line) (length line)
by_runs line = grind (arith, total-cong, both_tests)

-- The runs of a line, by those of the line after its first module.

-- the runs of a line that follows a module, but for the rest of that module's run
abbrev pub new_runs : ℕ → List ℕ → ℕ
new_runs b [] = 0
new_runs b (c ∷ cs) = cond (b == c) 0 (length_penalty (1 + prefix_len (λ d. c == d) cs)) + new_runs c cs

pub same_byte : (b : ℕ) → (b == b) ≡ true
same_byte b = grind arith

-- a run later in a line does not see the first module
shifted : (c d : ℕ) (ds : List ℕ) (k : ℕ) → run_penalty (c ∷ d ∷ ds) (suc (suc k)) ≡ run_penalty (d ∷ ds) (suc k)
shifted c d ds k = (grind (arith, common_steps))

not_cond : (b : Bool) (n : ℕ) → cond (not b) n 0 ≡ cond b 0 n
not_cond b n = grind arith

pub later_runs : (c : ℕ) (cs : List ℕ) → sum_below (λ k. run_penalty (c ∷ cs) (suc k)) (length cs) ≡ new_runs c cs
later_runs c [] = refl
later_runs c (d ∷ ds) =
    cc (
      same_byte d,
      not_cond (c == d) (length_penalty (1 + prefix_len (λ e. d == e) ds)),
      total-first (λ k. run_penalty (c ∷ d ∷ ds) (suc k)) (length ds),
      total-cong (λ k. run_penalty (c ∷ d ∷ ds) (suc (suc k))) (λ k. run_penalty (d ∷ ds) (suc k)) (length ds) (λ k l. shifted c d ds k),
      later_runs d ds,
    )

-- whether n + 1 modules from place 0 on are inside the line and of one colour
abbrev alike : ℕ → List ℕ → Bool
alike n [] = false
alike n (c ∷ cs) = nat_le n (prefix_len (λ d. c == d) cs)

-- how many places of a line begin such
abbrev alikes : ℕ → List ℕ → ℕ
alikes n [] = 0
alikes n (c ∷ cs) = cond (alike n (c ∷ cs)) 1 0 + alikes n cs

longer : (q : ℕ) → length_penalty (1 + (1 + q)) + 2 * cond (nat_le 5 (1 + q)) 1 0 ≡ length_penalty (1 + q) + 3 * cond (nat_le 4 (1 + q)) 1 0
longer q = grind arith

counted : (c : ℕ) (cs : List ℕ) → length_penalty (1 + prefix_len (λ e. c == e) cs) + new_runs c cs + 2 * alikes 5 (c ∷ cs) ≡ 3 * alikes 4 (c ∷ cs)
counted c [] = refl
counted c (d ∷ ds) = grind (arith, common_steps, eqb_tells, new_runs, same_byte, longer, counted d ds)

-- what the runs of a line count
runs_by_alikes : (line : List ℕ) → sum_below (run_penalty line) (length line) + 2 * alikes 5 line ≡ 3 * alikes 4 line
runs_by_alikes [] = refl
runs_by_alikes (c ∷ cs) = cc (same_byte c, total-first (run_penalty (c ∷ cs)) (length cs), later_runs c cs, counted c cs)

-- whether the module at a place has the colour of the next one in the line
abbrev pub twin : List ℕ → ℕ → Bool
twin [] i = false
twin (c ∷ []) i = false
twin (c ∷ d ∷ ds) zero = c == d
twin (c ∷ d ∷ ds) (suc i) = twin (d ∷ ds) i

-- whether each of n modules from an index on has the colour of the next
abbrev twins : ℕ → List ℕ → ℕ → Bool
twins zero line i = true
twins (suc n) line i = twin line i && twins n line (suc i)

twin_later : (c : ℕ) (cs : List ℕ) (i : ℕ) → twin (c ∷ cs) (suc i) ≡ twin cs i
twin_later c cs i = grind arith

twins_later : (n c : ℕ) (cs : List ℕ) (i : ℕ) → twins n (c ∷ cs) (suc i) ≡ twins n cs i
twins_later zero c cs i = refl
twins_later (suc n) c cs i = ap (λ t. t && twins n (c ∷ cs) (suc (suc i))) (twin_later c cs i) ∙ ap (λ t. twin cs i && t) (twins_later n c cs (suc i))

first_twins : (n c : ℕ) (cs : List ℕ) → nat_le n (prefix_len (λ d. c == d) cs) ≡ twins n (c ∷ cs) 0
first_twins zero c cs = grind arith
first_twins (suc n) c [] = grind arith
first_twins (suc n) c (d ∷ ds) = grind (arith, common_steps, eqb_tells, first_twins n d ds, twins_later n c (d ∷ ds) 0)

by_places : (n : ℕ) (line : List ℕ) → alikes n line ≡ count_below (twins n line) (length line)
by_places n [] = refl
by_places n (c ∷ cs) =
    let line = c ∷ cs in
    let later = total-cong (λ k. cond (twins n line (suc k)) 1 0) (λ k. cond (twins n cs k) 1 0) (length cs)
    (λ k l. ap (λ b. cond b 1 0) (twins_later n c cs k)) in
    ap (λ b. cond b 1 0 + alikes n cs) (first_twins n c cs)
    ∙ ap (λ t. cond (twins n line 0) 1 0 + t) (by_places n cs ∙ sym later)
    ∙ sym (total-first (λ k. cond (twins n line k) 1 0) (length cs))

-- an twin lies between two modules of the line
pub twin_within : (line : List ℕ) (i : ℕ) → i + 1 < length line → twin line i ≡ (get_or line i 0 == get_or line (i + 1) 0)
twin_within [] i h = absurd (omega (arith, h))
twin_within (c ∷ []) i h = absurd (omega (arith, h))
twin_within (c ∷ d ∷ ds) zero h = refl
twin_within (c ∷ d ∷ ds) (suc i) h = grind (arith, twin_within (d ∷ ds) i (omega (arith, h)))

pub twin_past : (line : List ℕ) (i : ℕ) → length line ≤ i + 1 → twin line i ≡ false
twin_past [] i h = refl
twin_past (c ∷ []) i h = refl
twin_past (c ∷ d ∷ ds) zero h = absurd (omega (arith, h))
twin_past (c ∷ d ∷ ds) (suc i) h = twin_past (d ∷ ds) i (omega (arith, h))

-- five and six modules of one colour, by their twins
abbrev pub five_of : List ℕ → ℕ → Bool
five_of line i = twin line i && twin line (i + 1) && twin line (i + 2) && twin line (i + 3)

abbrev pub six_of : List ℕ → ℕ → Bool
six_of line i = five_of line i && twin line (i + 4)

four_twins : (line : List ℕ) (i : ℕ) → twins 4 line i ≡ five_of line i
four_twins line i = grind (arith, common_steps)

five_twins : (line : List ℕ) (i : ℕ) → twins 5 line i ≡ six_of line i
five_twins line i = grind (arith, common_steps)

-- what the runs of a line count, by its places
pub runs_are : (line : List ℕ) → runs_penalty line + 2 * count_below (six_of line) (length line) ≡ 3 * count_below (five_of line) (length line)
runs_are line =
    let fives = total-cong (λ k. cond (twins 4 line k) 1 0) (λ k. cond (five_of line k) 1 0) (length line) (λ k l. ap (λ b. cond b 1 0) (four_twins line k)) in
    let sixes = total-cong (λ k. cond (twins 5 line k) 1 0) (λ k. cond (six_of line k) 1 0) (length line) (λ k l. ap (λ b. cond b 1 0) (five_twins line k)) in
    omega (arith, by_runs line, runs_by_alikes line, by_places 4 line, by_places 5 line, fives, sixes)
