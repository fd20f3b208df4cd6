-- Words and rows that loops write into a grid: over bytes and over modules alike. Then the distance
-- of drawn words.
use Rattle.qrcode_grid.proofs.Prelude.{All, rules, ◌≡◌, ◌≢◌, ℕ, ◌<◌, ◌≤◌, ◌+◌, ◌-◌, ◌*◌, ◌==◌, ◌&&◌, Bool, true, false, List, [], ◌∷◌, length, get_or, set}
use Rattle.qrcode_grid.proofs.Prelude.{drop, Option, Some, None, option_map, cond, ap, ◌∙◌, sym, subst, arith, inl, inr, refl, suc, get_or-set_same, replicate}
use Rattle.qrcode_grid.proofs.Prelude.{get_or-set_other, pos, negsuc, unwrap_or, ◌/◌, ◌%◌, zero, length-set, ℤ, slice_get, fold, option_or, cases_eq, cases_lt}
use Rattle.qrcode_grid.proofs.Prelude.{nat_tests, Color, Dark, format_first, format_second, format_micro, digit_at, bit_at, digit_color, version_word}
use Rattle.qrcode_grid.proofs.Prelude.{differing_digits, map_cells, map, common_steps, EcLevel, Version, Normal, Micro, IsVersion, MaskPattern, format_value}
use Rattle.qrcode_grid.proofs.Prelude.{format_color, level_number, normal_number, micro_number, symbol_number, same_lists, get_or_default, mod-mul-add}
use Rattle.qrcode_grid.proofs.Prelude.{div-mul-add, mul-le-mul_right, to_z-of_z, slice_get-get_or, Drawing}
use Rattle.qrcode_grid.{specs.Laws.IsFarFormatWord, specs.Laws.IsFarVersionWord, proofs.Distance.format_codes_differ, proofs.Distance.version_words_differ}
use Rattle.qrcode_grid.{specs.Canvas.place, specs.Canvas.with_module, proofs.Prelude.Module}
use Rattle.std.{proofs.Common.length-drop, proofs.Common.drop-cons, proofs.Common.w16, specs.List.enumerate_from}
use mir.Val.{SFits, of_z, to_z}

-- A loop that changes the elements of a list one after another, each by a function of its place.

pub length-enumerated : {X : Type 0} (f : ℕ × X → X) (i : ℕ) (xs : List X) → length (map f (enumerate_from i xs)) ≡ length xs
length-enumerated f i [] = refl
length-enumerated f i (x ∷ xs) = ap suc (length-enumerated f (i + 1) xs)

pub get_or-enumerated : {X : Type 0} (f : ℕ × X → X) (i : ℕ) (xs : List X) (k : ℕ) (d : X) → k < length xs →
    get_or (map f (enumerate_from i xs)) k d ≡ f (i + k, get_or xs k d)
get_or-enumerated f i [] k d h = absurd (omega arith)
get_or-enumerated f i (x ∷ xs) zero d h = let e : i ≡ i + 0 = omega arith in ap (λ j. f (j, x)) e
get_or-enumerated f i (x ∷ xs) (suc k) d h = grind (arith, common_steps, get_or-enumerated f (i + 1) xs k d (omega arith))

-- ys is xs with the elements below n changed
pub record ChangedBelow {X : Type 0} (f : ℕ → X → X) (xs ys : List X) (n : ℕ) : Type 0 where
  pub size : length ys ≡ length xs
  pub below : (k : ℕ) (d : X) → k < n → k < length xs → get_or ys k d ≡ f k (get_or xs k d)
  pub above : (k : ℕ) (d : X) → n ≤ k → get_or ys k d ≡ get_or xs k d

-- the element at n is written
pub changed_set : {X : Type 0} (f : ℕ → X → X) (xs ys : List X) (n : ℕ) (v e : X) → n < length xs → v ≡ f n (get_or ys n e) → ChangedBelow f xs ys n →
    ChangedBelow f xs (set ys n v) (n + 1)
changed_set f xs ys n v e l is c = grind (arith, common_steps, length-set, get_or-set_same, get_or_default, get_or-set_other)

-- the elements from n to m are left as they are
pub changed_skip : {X : Type 0} (f : ℕ → X → X) (xs ys : List X) (n m : ℕ) → n ≤ m → ((k : ℕ) → n ≤ k → k < m → (x : X) → f k x ≡ x) →
    ChangedBelow f xs ys n → ChangedBelow f xs ys m
changed_skip f xs ys n m le same c = grind (arith, common_steps)

-- the column and the row of a place
pub column_of_place : (w x y i : ℕ) → x < w → y * w + x ≡ i → i % w ≡ x
column_of_place w x y i inside place = ap (λ k. k % w) (sym place) ∙ mod-mul-add y w x inside

pub row_of_place : (w x y i : ℕ) → x < w → y * w + x ≡ i → i / w ≡ y
row_of_place w x y i inside place = ap (λ k. k / w) (sym place) ∙ div-mul-add y w x inside

-- what is said of a cell, by its place
pub at_place : {X : Type 0} (f : ℕ → ℕ → X) (w x y i : ℕ) → x < w → y * w + x ≡ i → f x y ≡ f (i % w) (i / w)
at_place f w x y i inside place = ap (λ k. f k y) (sym (column_of_place w x y i inside place)) ∙ ap (f (i % w)) (sym (row_of_place w x y i inside place))

-- a grid whose cells are changed is the whole change
pub cells_are : {X : Type 0} (f : ℕ → ℕ → X → X) (w : ℕ) (old now : List X) (d : X) → length now ≡ length old → length old ≡ w * w →
    ((x y : ℕ) → x < w → y < w → get_or now (y * w + x) d ≡ f x y (get_or old (y * w + x) d)) → now ≡ map_cells w f old
cells_are f w old now d same square is =
    same_lists now (map_cells w f old) (same ∙ sym (length-enumerated (λ p. f (p.0 % w) (p.0 / w) p.1) 0 old))
    (λ k e h.
    let inside : k < length old = omega (arith, same) in
    let some : 0 < w = elim (cases_lt 0 w) [
      | inl a ↦ a
      | inr b ↦ let zero_wide : w ≡ 0 = omega arith in
          absurd (omega (arith, inside, square ∙ ap (λ t. t * w) zero_wide))
    ] in
    let x = k % w in let y = k / w in
    let column : x < w = omega arith in
    let row : y < w = elim (cases_lt y w) [ inl a ↦ a | inr b ↦ absurd (omega (arith, inside, square, mul-le-mul_right w b)) ] in
    let place : y * w + x ≡ k = omega arith in
    let from : 0 + k ≡ k = omega arith in
    get_or_default now k e d h ∙ ap (λ j. get_or now j d) (sym place) ∙ is x y column row ∙ ap (λ j. f x y (get_or old j d)) place
    ∙ ap (f x y) (get_or_default old k d e inside)
    ∙ sym (get_or-enumerated (λ p. f (p.0 % w) (p.0 / w) p.1) 0 old k e inside ∙ ap (λ j. f (j % w) (j / w) (get_or old k e)) from))

-- Rows of a grid that are changed from one column to another, where the other cells stay as
-- they are.
abbrev pub CellsChanged : {X : Type 0} → (ℕ → ℕ → X → X) → ℕ → List X → List X → ℕ → Type 0
CellsChanged f w xs ys n = ChangedBelow (λ i m. f (i % w) (i / w) m) xs ys n

stays_at : {X : Type 0} (f : ℕ → ℕ → X → X) (w y k : ℕ) (m : X) → y * w ≤ k → k < (y + 1) * w →
    ((x : ℕ) → x ≡ k - y * w → x < w → f x y m ≡ m) → f (k % w) (k / w) m ≡ m
stays_at f w y k m low high same =
    grind (arith, k - y * w, at_place (λ u v. f u v m) w (k - y * w) y k (omega arith) (omega arith), same (k - y * w) refl (omega arith))

-- the columns before the first one are left
pub row_begins : {X : Type 0} (f : ℕ → ℕ → X → X) (w y a : ℕ) (xs ys : List X) → a ≤ w → ((x : ℕ) → x < a → (m : X) → f x y m ≡ m) →
    CellsChanged f w xs ys (y * w) → CellsChanged f w xs ys (y * w + a)
row_begins f w y a xs ys within same c = grind (arith, nat_tests, changed_skip, stays_at)

-- the columns from one to another are left
pub row_between : {X : Type 0} (f : ℕ → ℕ → X → X) (w y a b : ℕ) (xs ys : List X) → a ≤ b → b ≤ w → ((x : ℕ) → a ≤ x → x < b → (m : X) → f x y m ≡ m) →
    CellsChanged f w xs ys (y * w + a) → CellsChanged f w xs ys (y * w + b)
row_between f w y a b xs ys order within same c = grind (arith, changed_skip, stays_at f w y)

-- a cell is written
pub cell_changed : {X : Type 0} (f : ℕ → ℕ → X → X) (w y x : ℕ) (xs ys : List X) (v e : X) → x < w → y < w → length xs ≡ w * w →
    v ≡ f x y (get_or ys (y * w + x) e) →
    CellsChanged f w xs ys (y * w + x) → CellsChanged f w xs (set ys (y * w + x) v) (y * w + (x + 1))
cell_changed f w y x xs ys v e column row square is c =
    let i = y * w + x in
    let inside : i < length xs = omega (arith, square, mul-le-mul_right w row) in
    let next : i + 1 ≡ y * w + (x + 1) = omega arith in
    let at = at_place (λ u t. f u t (get_or ys i e)) w x y i column refl in
    let step = changed_set (λ i m. f (i % w) (i / w) m) xs ys i v e inside (is ∙ at) c in
    subst (λ (n : ℕ). CellsChanged f w xs (set ys i v) n) next step

-- the columns from the last one on are left
pub row_ends : {X : Type 0} (f : ℕ → ℕ → X → X) (w y b : ℕ) (xs ys : List X) → b ≤ w → ((x : ℕ) → b ≤ x → x < w → (m : X) → f x y m ≡ m) →
    CellsChanged f w xs ys (y * w + b) → CellsChanged f w xs ys ((y + 1) * w)
row_ends f w y b xs ys within same c = grind (arith, nat_tests, changed_skip, stays_at)

-- the rows from one to another are left
pub rows_between : {X : Type 0} (f : ℕ → ℕ → X → X) (w a b : ℕ) (xs ys : List X) → 0 < w → a ≤ b → ((x y : ℕ) → x < w → a ≤ y → y < b → (m : X) → f x y m ≡ m) →
    CellsChanged f w xs ys (a * w) → CellsChanged f w xs ys (b * w)
rows_between f w a b xs ys some order same c = grind (arith, common_steps, changed_skip, mul-le-mul_right)

-- before the first row nothing is changed
pub rows_begin : {X : Type 0} (f : ℕ → ℕ → X → X) (w : ℕ) (xs : List X) → CellsChanged f w xs xs (0 * w)
rows_begin f w xs = record { size = refl; below = λ k d h l. absurd (omega arith); above = λ k d h. refl }

-- after the last row each cell is
pub rows_end : {X : Type 0} (f : ℕ → ℕ → X → X) (w y : ℕ) (xs ys : List X) (d : X) → w ≤ y → length xs ≡ w * w → CellsChanged f w xs ys (y * w) →
    (u v : ℕ) → u < w → v < w → get_or ys (v * w + u) d ≡ f u v (get_or xs (v * w + u) d)
rows_end f w y xs ys d last square c u v column row =
    grind (arith, mul-le-mul_right w row, at_place (λ s t. f s t (get_or xs (v * w + u) d)) w u v (v * w + u) column refl)

-- Places of cells in the row-major list.

-- a place that a call was given signed coordinates for
pub place_passed : (d : Drawing) (x y : ℤ) (i : ℕ) → SFits w16 x → SFits w16 y → i ≡ place d (to_z w16 (of_z w16 x)) (to_z w16 (of_z w16 y)) → i ≡ place d x y
place_passed d x y i fits_x fits_y e = e ∙ ap (λ u. place d u (to_z w16 (of_z w16 y))) (to_z-of_z w16 x fits_x) ∙ ap (λ v. place d x v) (to_z-of_z w16 y fits_y)

-- an element that was read at a place
pub slice_get_at : {X : Type 0} (xs : List X) (i k : ℕ) (x : X) → i ≡ k → i < length xs → x ≡ get_or xs i x → slice_get xs k ≡ Some x
slice_get_at xs i k x e h r = ap (slice_get xs) (sym e) ∙ slice_get-get_or xs i x h ∙ ap Some (sym r)

-- a module that is lent, and one that is not
pub lent_here : {X : Type 0} (xs cells : List X) (i k lent : ℕ) (slot : X) → xs ≡ set cells lent slot → i ≡ k → i < length xs → i ≡ lent →
    slice_get xs k ≡ Some slot
lent_here {X = X} xs cells i k lent slot is at within same =
    slice_get_at xs i k slot at within (sym (ap (λ (l : List X). get_or l i slot) is ∙ ap (λ j. get_or (set cells lent slot) j slot) same
    ∙ get_or-set_same cells lent slot slot (omega (arith, within, ap length is, length-set cells lent slot, same))))

pub lent_elsewhere : {X : Type 0} (xs cells : List X) (i k lent : ℕ) (slot x : X) → xs ≡ set cells lent slot → i ≡ k → i < length xs → i ≢ lent →
    x ≡ get_or cells i x → slice_get xs k ≡ Some x
lent_elsewhere {X = X} xs cells i k lent slot x is at within other read =
    slice_get_at xs i k x at within (read ∙ sym (ap (λ (l : List X). get_or l i x) is ∙ get_or-set_other cells lent i slot x other))

-- the first module of an empty list is lent as it is
pub first_lent : {X : Type 0} (n : ℕ) (x : X) → set (replicate n x) 0 x ≡ replicate n x
first_lent zero x = refl
first_lent (suc n) x = refl

-- a drawing whose module at k is lent
pub with_slot : (d : Drawing) (version : Version) (level : EcLevel) (old now : List Module) (i k : ℕ) (slot : Module) →
    (record { version = version; level = level; modules = old }) ≡ d → now ≡ old → i ≡ k →
    (record { version = version; level = level; modules = set now i slot }) ≡ with_module d k slot
with_slot d version level old now i k slot is same at =
    ap (λ (l : List Module). record { version = version; level = level; modules = set l i slot }) same
    ∙ ap (λ j. record { version = version; level = level; modules = set old j slot }) at
    ∙ ap (λ (e : Drawing). with_module e k slot) is

-- the places of the second copy of the format word lie within the grid
pub second_within : (w : ℕ) → 9 ≤ w → All (λ (place : ℕ × ℕ). (place.0 < w) × (place.1 < w)) (format_second w)
second_within w h = search rules

-- a cell of a row lies within the grid
pub cell_within : (w x y : ℕ) → x < w → y < w → y * w + x < w * w
cell_within w x y hx hy = omega (arith, mul-le-mul_right w hy)

equal : (a b : ℕ) → a ≡ b → (a == b) ≡ true
equal a b h = grind (arith, nat_tests)

differs : (a b : ℕ) → a ≢ b → (a == b) ≡ false
differs a b h = grind (arith, nat_tests)

and_false : (t : Bool) → (t && false) ≡ false
and_false t = grind (arith)

digit_here : (p : ℕ × ℕ) (rest : List (ℕ × ℕ)) (x y : ℕ) → x ≡ p.0 → y ≡ p.1 → digit_at (p ∷ rest) x y ≡ Some (length rest)
digit_here p rest x y e f = grind (arith, common_steps, equal)

digit_off_column : (p : ℕ × ℕ) (rest : List (ℕ × ℕ)) (x y : ℕ) → x ≢ p.0 → digit_at (p ∷ rest) x y ≡ digit_at rest x y
digit_off_column p rest x y e = ap (λ b. cond (b && y == p.1) (Some (length rest)) (digit_at rest x y)) (differs x p.0 e)

-- The cells of a grid are those of an older one with a word over them, which is written into a list
-- of places.
abbrev pub IsWritten : {X : Type 0} → (ℕ → X) → ℕ → List (ℕ × ℕ) → X → List X → List X → Type 0
IsWritten digits w places d old now =
    (x y : ℕ) → x < w → y < w → get_or now (y * w + x) d ≡ unwrap_or (option_map digits (digit_at places x y)) (get_or old (y * w + x) d)

-- one more place is written
pub written_step : {X : Type 0} (digits : ℕ → X) (w : ℕ) (p : ℕ × ℕ) (rest : List (ℕ × ℕ)) (d : X) (old now : List X) (v : X) →
    p.0 < w → p.1 < w → length now ≡ w * w → v ≡ digits (length rest) →
    IsWritten digits w rest d old now → IsWritten digits w (p ∷ rest) d old (set now (p.1 * w + p.0) v)
written_step digits w p rest d old now v column row long is h = λ x y l m.
    let i = p.1 * w + p.0 in
    let old_cell = get_or old (y * w + x) d in
    elim (cases_eq x p.0) [
      | inl e ↦ elim (cases_eq y p.1) [
        | inl f ↦
            let place : y * w + x ≡ i = ap (λ t. t * w + x) f ∙ ap (λ t. p.1 * w + t) e in
            ap (λ j. get_or (set now i v) j d) place ∙ get_or-set_same now i v d (omega (arith, long, cell_within w p.0 p.1 column row))
            ∙ is ∙ ap (λ o. unwrap_or (option_map digits o) old_cell) (sym (digit_here p rest x y e f))
        | inr f ↦
            let ne : y * w + x ≢ i = λ same. f (sym (row_of_place w x y i l same) ∙ row_of_place w p.0 p.1 i column refl) in
            get_or-set_other now i (y * w + x) v d ne ∙ h x y l m ∙ ap (λ o. unwrap_or (option_map digits o) old_cell)
            (sym (grind (arith, common_steps, differs, and_false)))
      ]
      | inr e ↦
          let ne : y * w + x ≢ i = λ same. e (sym (column_of_place w x y i l same) ∙ column_of_place w p.0 p.1 i column refl) in
          get_or-set_other now i (y * w + x) v d ne ∙ h x y l m ∙ ap (λ o. unwrap_or (option_map digits o) old_cell) (sym (digit_off_column p rest x y e))
    ]

-- the digit k is written into the place as far from the end
pub next_written : {X : Type 0} (digits : ℕ → X) (w : ℕ) (places : List (ℕ × ℕ)) (k : ℕ) (d : X) (old now : List X) (v : X) → k < length places →
    (get_or places (length places - 1 - k) (0, 0)).0 < w → (get_or places (length places - 1 - k) (0, 0)).1 < w → length now ≡ w * w →
    v ≡ digits k → IsWritten digits w (drop (length places - k) places) d old now →
    IsWritten digits w (drop (length places - (k + 1)) places) d old
    (set now ((get_or places (length places - 1 - k) (0, 0)).1 * w + (get_or places (length places - 1 - k) (0, 0)).0) v)
next_written digits w places k d old now v below column row long is h =
    let n = length places in
    let i = n - 1 - k in
    let p = get_or places i (0, 0) in
    let rest = drop (n - k) places in
    let inside : i < length places = omega arith in
    let at : n - (k + 1) ≡ i = omega arith in
    let next : suc i ≡ n - k = omega arith in
    let count : k ≡ length rest = omega (arith, length-drop (n - k) places) in
    let shape : drop (n - (k + 1)) places ≡ p ∷ rest = ap (λ j. drop j places) at ∙ drop-cons places i (0, 0) inside ∙ ap (λ j. p ∷ drop j places) next in
    subst (λ (ps : List (ℕ × ℕ)). IsWritten digits w ps d old (set now (p.1 * w + p.0) v)) (sym shape)
    (written_step digits w p rest d old now v column row long (is ∙ ap digits count) h)

-- the dark module is written
pub dark_written : {X : Type 0} (w : ℕ) (d : X) (now : List X) (v : X) → 9 ≤ w → length now ≡ w * w → (x y : ℕ) → x < w → y < w →
    get_or (set now ((w - 8) * w + 8) v) (y * w + x) d ≡ unwrap_or (cond (x == 8 && y == w - 8) (Some v) None) (get_or now (y * w + x) d)
dark_written {X} w d now v wide long x y l m =
    let i = (w - 8) * w + 8 in
    let if_dark : Bool → Option X = λ t. cond t (Some v) None in
    let b = get_or now (y * w + x) d in
    let column : 8 < w = omega arith in let row : w - 8 < w = omega arith in
    elim (cases_eq x 8) [
      | inl e ↦ elim (cases_eq y (w - 8)) [
        | inl f ↦
            let place : y * w + x ≡ i = ap (λ t. t * w + x) f ∙ ap (λ t. (w - 8) * w + t) e in
            ap (λ j. get_or (set now i v) j d) place ∙ get_or-set_same now i v d (omega (arith, long, cell_within w 8 (w - 8) column row))
            ∙ sym (ap (λ t. unwrap_or (if_dark (t && y == w - 8)) b) (equal x 8 e) ∙ ap (λ t. unwrap_or (if_dark t) b) (equal y (w - 8) f))
        | inr f ↦
            let ne : y * w + x ≢ i = λ same. f (sym (row_of_place w x y i l same) ∙ row_of_place w 8 (w - 8) i column refl) in
            get_or-set_other now i (y * w + x) v d ne
            ∙ sym (ap (λ t. unwrap_or (if_dark (x == 8 && t)) b) (differs y (w - 8) f) ∙ ap (λ t. unwrap_or (if_dark t) b) (and_false (x == 8)))
      ]
      | inr e ↦
          let ne : y * w + x ≢ i = λ same. e (sym (column_of_place w x y i l same) ∙ column_of_place w 8 (w - 8) i column refl) in
          get_or-set_other now i (y * w + x) v d ne ∙ sym (ap (λ t. unwrap_or (if_dark (t && y == w - 8)) b) (differs x 8 e))
    ]

-- what the first of three says is written last
pub over_three : {X : Type 0} (o p q : Option X) (b : X) → unwrap_or (fold option_or None (o ∷ p ∷ q ∷ [])) b ≡ unwrap_or o (unwrap_or p (unwrap_or q b))
over_three o p q b = grind arith

digit_at-below : (places : List (ℕ × ℕ)) (x y k : ℕ) → digit_at places x y ≡ Some k → k < length places
digit_at-below [] x y k e = cc
digit_at-below (p ∷ places) x y k e = grind (arith, common_steps, digit_at-below places x y k)

-- What is shown of values is what a word shows: here by the digits of the values, dark ones by the
-- digits of the word.
module _ {X Y : Type 0} (show : X → Y) (over : Option Color → Y → Y) (digits : ℕ → X) (dark : X) (word : ℕ)
    (digit_shown : (k : ℕ) (b : Y) → k < 15 → show (digits k) ≡ over (Some (digit_color (bit_at word k))) b)
    (dark_shown : (b : Y) → show dark ≡ over (Some Dark) b) (none_shown : (b : Y) → over None b ≡ b) where
  abbrev Below : Option ℕ → Type 0
  Below o = (k : ℕ) → o ≡ Some k → k < 15

  word_shown : (o : Option ℕ) → Below o → (b : X) →
      show (unwrap_or (option_map digits o) b) ≡ over (option_map (λ k. digit_color (bit_at word k)) o) (show b)
  word_shown o h b = grind arith

  words_shown : (t : Bool) (o p : Option ℕ) → Below o → Below p → (b : X) →
      show (unwrap_or (fold option_or None (cond t (Some dark) None ∷ option_map digits o ∷ option_map digits p ∷ [])) b)
      ≡ over (fold option_or None (cond t (Some Dark) None ∷ option_map (λ k. digit_color (bit_at word k)) o
      ∷ option_map (λ k. digit_color (bit_at word k)) p ∷ [])) (show b)
  words_shown t o p h k b = grind arith

  pub format_shown : (version : Version) (w x y : ℕ) (b : X) →
      show (unwrap_or (format_value version w digits dark x y) b) ≡ over (format_color version w word x y) (show b)
  format_shown (Normal z) w x y b =
      words_shown (x == 8 && y == w - 8) (digit_at format_first x y) (digit_at (format_second w) x y)
      (digit_at-below format_first x y) (digit_at-below (format_second w) x y) b
  format_shown (Micro z) w x y b = word_shown (digit_at format_micro x y) (digit_at-below format_micro x y) b

-- The words that are drawn differ in many digits from all others.

level_small : (level : EcLevel) → level_number level < 4
level_small level = grind (arith)

normal_small : (pattern : MaskPattern) → normal_number pattern < 8
normal_small pattern = grind (arith)

micro_small : (pattern : MaskPattern) → unwrap_or (micro_number pattern) 0 < 4
micro_small pattern = grind (arith)

symbol_small : (n : ℕ) (level : EcLevel) → n ≤ 4 → symbol_number n level < 8
symbol_small n level h = grind (arith)

pub far_format_word : (version : Version) (level : EcLevel) (pattern : MaskPattern) → IsVersion version → IsFarFormatWord version level pattern
unfolding IsFarFormatWord
far_format_word (Normal z) level pattern h =
    let digits = 8 * level_number level + normal_number pattern in
    let small : digits < 32 = omega (arith, level_small level, normal_small pattern) in
    (digits, small, refl, λ other below ne. format_codes_differ (Normal z) digits other small below (λ e. ne (sym e)))
far_format_word (Micro (pos n)) level pattern h =
    let digits = 4 * symbol_number n level + unwrap_or (micro_number pattern) 0 in
    let small : digits < 32 = omega (arith, symbol_small n level h.1, micro_small pattern) in
    (digits, small, refl, λ other below ne. format_codes_differ (Micro (pos n)) digits other small below (λ e. ne (sym e)))
far_format_word (Micro (negsuc n)) level pattern h = absurd h

pub far_version_word : (version : Version) → IsVersion version → IsFarVersionWord version
unfolding IsFarVersionWord
far_version_word (Normal (pos n)) h = λ low other first last ne.
    let en : 7 + (n - 7) ≡ n = omega arith in
    let eo : 7 + (other - 7) ≡ other = omega arith in
    subst (λ (x : ℕ). 8 ≤ differing_digits 18 (version_word x) (version_word other)) en
    (subst (λ (y : ℕ). 8 ≤ differing_digits 18 (version_word (7 + (n - 7))) (version_word y)) eo
    (version_words_differ (n - 7) (other - 7) (omega arith) (omega arith) (omega arith)))
far_version_word (Normal (negsuc n)) h = tt
far_version_word (Micro z) h = tt
