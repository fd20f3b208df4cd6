-- No grid is read in two ways: its size gives the version, its functional colours the level and
-- mask, its data cells the codewords.
use Rattle.qrcode_core.proofs.Prelude.{◌≡◌, ℕ, zero, suc, pos, ◌+◌, ◌*◌, ◌<◌, ◌≤◌, refl, sym, ◌∙◌, arith, List, [], ◌∷◌, Bool, true, false, get_or, Option}
use Rattle.qrcode_core.proofs.Prelude.{Some, None, is_some, unwrap_or, IsTrue, slice_get, range_with_len, count_by, cases_eq, ne_eqb, eqb-true, leb-true}
use Rattle.qrcode_core.proofs.Prelude.{eq-eqb, Color, EcLevel, Version, Normal, Micro, MaskPattern, functional_color, normal_number, micro_number, level_number}
use Rattle.qrcode_core.proofs.Prelude.{symbol_number, IsOfFamily, HasFunctionalColors, IsVersion, IsSymbol, width_of, common_steps, ap, append_cancel_right}
use Rattle.qrcode_core.proofs.Prelude.{same_Some, Carries, HaveOneReading, HaveOneContent}
use Rattle.qrcode_core.proofs.Codewords.{bytes-of_drawn}
use Rattle.std.proofs.Common.{negsuc, ◌==◌, ◌&&◌, nat_le}
use Rattle.std.specs.Int.{bit_at}
use Rattle.qrcode_grid.specs.Regions.{digit_color, differing_digits, format_code, digit_at, format_first, format_micro}
use Rattle.qrcode_grid.proofs.{Tests.all_pass, Tests.passes, Tests.both, FormatCells.functional_color-format, Distance.format_codes_differ}
use Rattle.qrcode_bits.proofs.Reading.{frame_one_reading}
use Rattle.qrcode_base.proofs.Widths.{version-of_blocks, version-of_size}

-- ---- The functional colours of a grid determine the level and the mask

-- ---- The first copy of the format word, in both families

-- the cells of the digits, digit 0 first
abbrev normal_cells : List (ℕ × ℕ)
normal_cells =
    (8, 0) ∷ (8, 1) ∷ (8, 2) ∷ (8, 3) ∷ (8, 4) ∷ (8, 5) ∷ (8, 7) ∷ (8, 8) ∷ (7, 8) ∷ (5, 8) ∷ (4, 8) ∷ (3, 8) ∷ (2, 8) ∷ (1, 8) ∷ (0, 8) ∷ []

abbrev micro_cells : List (ℕ × ℕ)
micro_cells =
    (8, 1) ∷ (8, 2) ∷ (8, 3) ∷ (8, 4) ∷ (8, 5) ∷ (8, 6) ∷ (8, 7) ∷ (8, 8) ∷ (7, 8) ∷ (6, 8) ∷ (5, 8) ∷ (4, 8) ∷ (3, 8) ∷ (2, 8) ∷ (1, 8) ∷ []

abbrev cell : List (ℕ × ℕ) → ℕ → ℕ × ℕ
cell cells k = get_or cells k (0, 0)

abbrev is_digit : Option ℕ → ℕ → Bool
is_digit None k = false
is_digit (Some j) k = j == k

-- bit k is at cell k, inside the corner of 9 by 9 cells
abbrev is_at : List (ℕ × ℕ) → List (ℕ × ℕ) → ℕ → Bool
is_at places cells k = is_digit (digit_at places (cell cells k).0 (cell cells k).1) k && (nat_le (cell cells k).0 8 && nat_le (cell cells k).1 8)

digit_cell : (places cells : List (ℕ × ℕ)) (k : ℕ) → all_pass (is_at places cells) 0 15 ≡ true → k < 15 →
    ((cell cells k).0 ≤ 8) × ((cell cells k).1 ≤ 8) × (digit_at places (cell cells k).0 (cell cells k).1 ≡ Some k)
digit_cell places cells k test below =
    grind (arith, common_steps, passes (is_at places cells) 0 15 k test (omega arith) (omega arith), both, leb-true, eqb-true)

-- The cells of the first copy in a version.
abbrev pub format_cell : Version → ℕ → ℕ × ℕ
format_cell (Normal z) k = cell normal_cells k
format_cell (Micro z) k = cell micro_cells k

-- The functional colours show each digit of the format word.
pub shows_digit : (version : Version) (format k : ℕ) → IsVersion version → k < 15 →
    ((format_cell version k).0 < width_of version) × ((format_cell version k).1 < width_of version)
    × (functional_color version format (format_cell version k).0 (format_cell version k).1 ≡ Some (digit_color (bit_at format k)))
shows_digit (Normal (pos n)) format k h below =
    let at = digit_cell format_first normal_cells k refl below in
    grind (arith, common_steps, at, functional_color-format (Normal (pos n)) format (cell normal_cells k).0 (cell normal_cells k).1, ne_eqb)
shows_digit (Normal (negsuc n)) format k h below = absurd h
shows_digit (Micro (pos n)) format k h below =
    let at = digit_cell format_micro micro_cells k refl below in
    grind (arith, common_steps, at, functional_color-format (Micro (pos n)) format (cell micro_cells k).0 (cell micro_cells k).1)
shows_digit (Micro (negsuc n)) format k h below = absurd h

-- ---- Equal words

color-injective : (a b : ℕ) → a < 2 → b < 2 → digit_color a ≡ digit_color b → a ≡ b
color-injective a b h k e = grind (arith, common_steps)

-- A grid that has the functional colours of two format words shows the same digits of both.
pub same_digits : (version : Version) (a b : ℕ) (grid : List Color) → IsVersion version →
    ((x y : ℕ) (c : Color) → x < width_of version → y < width_of version → functional_color version a x y ≡ Some c →
    slice_get grid (y * width_of version + x) ≡ Some c) →
    ((x y : ℕ) (c : Color) → x < width_of version → y < width_of version → functional_color version b x y ≡ Some c →
    slice_get grid (y * width_of version + x) ≡ Some c) →
    (k : ℕ) → k < 15 → bit_at a k ≡ bit_at b k
same_digits version a b grid h f g k below =
    let p = shows_digit version a k h below in
    let q = shows_digit version b k h below in
    grind (arith, color-injective, sym (f _ _ _ p.0 p.1 p.2) ∙ g _ _ _ q.0 q.1 q.2)

none_counted : (p : ℕ → Bool) (a n : ℕ) → ((k : ℕ) → a ≤ k → k < a + n → p k ≡ false) → count_by p (range_with_len a n) ≡ 0
none_counted p a zero h = refl
none_counted p a (suc n) h = grind (arith, common_steps, none_counted p (a + 1) n)

none_differ : (n a b : ℕ) → ((k : ℕ) → k < n → bit_at a k ≡ bit_at b k) → differing_digits n a b ≡ 0
none_differ n a b same = grind (arith, common_steps, none_counted, eq-eqb)

-- ---- The format words determine level and mask

-- masks of Normal symbols have different numbers, below 8
normal_numbers : (p q : MaskPattern) → (normal_number p < 8) × (normal_number q < 8) × (normal_number p ≡ normal_number q → p ≡ q)
normal_numbers p q = grind (arith, common_steps)

level_numbers : (l m : EcLevel) → (level_number l < 4) × (level_number m < 4) × (level_number l ≡ level_number m → l ≡ m)
level_numbers l m = grind (arith, common_steps)

-- masks of Micro symbols have different numbers, below 4
micro_numbers : (p q : MaskPattern) → IsTrue (is_some (micro_number p)) → IsTrue (is_some (micro_number q)) →
    (unwrap_or (micro_number p) 0 < 4) × (unwrap_or (micro_number q) 0 < 4) × (unwrap_or (micro_number p) 0 ≡ unwrap_or (micro_number q) 0 → p ≡ q)
micro_numbers p q h k = grind (arith, common_steps)

-- so have the levels of a Micro version
symbol_numbers : (n : ℕ) (l m : EcLevel) → IsVersion (Micro (pos n)) → IsSymbol (Micro (pos n)) l → IsSymbol (Micro (pos n)) m →
    (symbol_number n l < 8) × (symbol_number n m < 8) × (symbol_number n l ≡ symbol_number n m → l ≡ m)
symbol_numbers n l m h s t = grind (arith, common_steps)

-- a format word that shows the same digits has the same data
data_same : (word : ℕ → ℕ) → ((a b : ℕ) → a < 32 → b < 32 → (a ≡ b → ⊥) → 7 ≤ differing_digits 15 (word a) (word b)) →
    (a b : ℕ) → a < 32 → b < 32 → ((k : ℕ) → k < 15 → bit_at (word a) k ≡ bit_at (word b) k) → a ≡ b
data_same word apart a b h k same = grind (arith, cases_eq a b, apart a b h k, none_differ 15 (word a) (word b) same)

-- A version, and the level and mask that a grid's functional colours show.
pub same_format : (version : Version) (l m : EcLevel) (p q : MaskPattern) (grid : List Color) → IsVersion version →
    IsSymbol version l → IsSymbol version m → IsOfFamily version p → IsOfFamily version q →
    HasFunctionalColors version l p grid → HasFunctionalColors version m q grid → (l ≡ m) × (p ≡ q)
same_format (Normal (pos n)) l m p q grid h sl sm fp fq f g =
    let masks = normal_numbers p q in
    let levels = level_numbers l m in
    let same = data_same (format_code (Normal (pos n))) (format_codes_differ (Normal (pos n))) (8 * level_number l + normal_number p)
    (8 * level_number m + normal_number q) (omega arith) (omega arith) (same_digits (Normal (pos n)) _ _ grid h f g) in
    grind (arith, same, masks, levels)
same_format (Normal (negsuc n)) l m p q grid h sl sm fp fq f g = absurd h
same_format (Micro (pos n)) l m p q grid h sl sm fp fq f g =
    let masks = micro_numbers p q fp fq in
    let levels = symbol_numbers n l m h sl sm in
    let same = data_same (format_code (Micro (pos n))) (format_codes_differ (Micro (pos n))) (4 * symbol_number n l + unwrap_or (micro_number p) 0)
    (4 * symbol_number n m + unwrap_or (micro_number q) 0) (omega arith) (omega arith) (same_digits (Micro (pos n)) _ _ grid h f g) in
    grind (arith, same, masks, levels)
same_format (Micro (negsuc n)) l m p q grid h sl sm fp fq f g = absurd h

-- ---- No grid is read in two ways

-- What a grid carries in one version: the levels and the masks are one
with_version : (grid : List Color) (v : Version) (l m : EcLevel) (p q : MaskPattern) (a b : List Bool) → Carries grid v l p a → Carries grid v m q b →
    (l ≡ m) × (p ≡ q)
with_version grid v l m p q a b f s =
    same_format v l m p q grid (version-of_blocks v l f.blocks f.has_level) (ap is_some f.has_level) (ap is_some s.has_level)
    f.has_mask s.has_mask f.functional s.functional

-- with one version, level and mask, the bits are one
with_mask : (grid : List Color) (v : Version) (l : EcLevel) (p : MaskPattern) (a b : List Bool) → Carries grid v l p a → Carries grid v l p b → a ≡ b
with_mask grid v l p a b f s = grind (arith, common_steps, same_Some, bytes-of_drawn, append_cancel_right)

-- No grid carries two lists of bits, nor bits in two versions, at two levels or under two masks.
pub one_carried : HaveOneContent
one_carried grid v w l m p q a b f g =
    let versions = version-of_size v w _ (version-of_blocks v l _ f.has_level) (version-of_blocks w m _ g.has_level) f.is_square g.is_square in
    grind (arith, versions, with_version grid v l m p q a b, with_mask grid v l p a b)

pub one_reading : HaveOneReading
one_reading grid r s f g =
    let same = one_carried grid r.version s.version r.level s.level r.mask s.mask f.frame g.frame f.carries g.carries in
    let framed = rw (same.0, same.1, same.3) at f.framed in
    let rest = frame_one_reading s.version s.level r.front s.front r.bytes s.bytes r.payload s.payload g.frame framed g.framed in
    grind (arith, same, rest)
