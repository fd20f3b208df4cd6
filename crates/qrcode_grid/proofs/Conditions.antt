-- The table of the masks' conditions, modules as bytes, masked and formatted, masks by their
-- numbers, and lists of penalties.
use Rattle.qrcode_grid.proofs.Prelude.{◌≡◌, ℕ, ◌+◌, ◌/◌, ◌%◌, ◌<◌, ◌==◌, eqb, Bool, cond, min, [], get_or, refl, ap, arith, List, map, length, Option, ◌∙◌, sym}
use Rattle.qrcode_grid.proofs.Prelude.{zero, suc, ◌∷◌, ◌++◌, take, drop, slice_get, Some, option_map, unwrap_or, bit_at-lt, bit_at_xor, bit_at_and, bit_at_ones}
use Rattle.qrcode_grid.proofs.Prelude.{bit_at-zero, true, false, nat_tests, bit_at, Light, Dark, Module, Empty, code_of, masked_code, pattern_of, is_inverted}
use Rattle.qrcode_grid.proofs.Prelude.{drawn_over, format_color, masked, masked_cell, masked_cells, format_word, normal_number, family, add-mul, mul-add}
use Rattle.qrcode_grid.proofs.Prelude.{mul_assoc, mul_comm, MaskPattern, common_steps, same_number_lists, get_or-map, length-map, take_at, take_more, Color}
use Rattle.qrcode_grid.proofs.Prelude.{Version, color_of_module, Drawing, with_mask, mask_penalties, colors_of, byte_of, penalty, EcLevel, width_of}
use Rattle.qrcode_grid.proofs.Prelude.{slice_get-map, slice_get_within, get_or_from_slice_get, bit_and, bit_xor, IsOfFamily, set}
use Rattle.qrcode_grid.{specs.declared.canvas.MaskPattern.TheVariants.Checkerboard, specs.declared.canvas.masks.TheConstants.CONDITIONS}
use Rattle.qrcode_grid.{proofs.FieldLaws.passes_below, proofs.FieldLaws.passes_below-at, proofs.MarkedLanes.eqb_true, proofs.WrittenWords.length-enumerated}
use Rattle.qrcode_grid.{proofs.WrittenWords.get_or-enumerated}
use Rattle.std.proofs.lemmas.List.{set-get_or, set-set}

abbrev is_right : ℕ → ℕ → ℕ → Bool
is_right y k m = eqb (bit_at (get_or (get_or CONDITIONS y []) k 0) m) (cond (is_inverted (pattern_of m) k y) 1 0)

pub condition_at : (m k y : ℕ) → m < 8 → k < 6 → y < 12 → bit_at (get_or (get_or CONDITIONS y []) k 0) m ≡ cond (is_inverted (pattern_of m) k y) 1 0
condition_at m k y hm hk hy =
    eqb_true (bit_at (get_or (get_or CONDITIONS y []) k 0) m) (cond (is_inverted (pattern_of m) k y) 1 0)
    (passes_below-at (is_right y k) 8 m
    (passes_below-at (λ i. passes_below 8 (is_right y i)) 6 k (passes_below-at
    (λ j. passes_below 6 (λ i. passes_below 8 (is_right j i))) 12 y (refl) hy) hk) hm)

pub set_again : (b : Bool) (n : ℕ) → n ≡ cond b 1 0 → (n == 1) ≡ b
set_again b n h = grind (arith)

bits_masked : (code b : ℕ) → code < 4 → b < 2 → (cond (code % 2 == 1) 1 0 + min (cond (code / 2 == 1) 1 0) b) % 2 ≡ masked_code code (b == 1)
bits_masked code b h l = grind (arith, nat_tests)

-- the bit of a module under one mask, by those of its code
pub bit_masked : (dark free conditions code m : ℕ) → code < 4 → bit_at dark m ≡ cond (code % 2 == 1) 1 0 → bit_at free m ≡ cond (code / 2 == 1) 1 0 →
    bit_at (bit_xor dark (bit_and free conditions)) m ≡ masked_code code (bit_at conditions m == 1)
bit_masked dark free conditions code m h d e = grind (arith, common_steps, bit_at-lt, bit_at_and, bit_at_xor, bits_masked)

-- a bit in all eight places of a byte
pub spread_bit : (bit : Bool) (byte m : ℕ) → m < 8 → byte ≡ cond bit 255 0 → bit_at byte m ≡ cond bit 1 0
spread_bit true byte m h is = ap (λ b. bit_at b m) is ∙ bit_at_ones 8 m h
spread_bit false byte m h is = ap (λ b. bit_at b m) is ∙ bit_at-zero m

-- the byte of a module under eight masks
pub cell_masked : (cell : Module) (dark free conditions m : ℕ) → m < 8 → dark ≡ cond (code_of cell % 2 == 1) 255 0 →
    free ≡ cond (code_of cell / 2 == 1) 255 0 → bit_at (bit_xor dark (bit_and free conditions)) m ≡ masked_code (code_of cell) (bit_at conditions m == 1)
cell_masked cell dark free conditions m h d f =
    let small : code_of cell < 4 = grind (arith) in
    bit_masked dark free conditions (code_of cell) m small (spread_bit (code_of cell % 2 == 1) dark m h d) (spread_bit (code_of cell / 2 == 1) free m h f)

-- Each row of a mask pattern repeats after six cells.

pub is_inverted-repeats : (pattern : MaskPattern) (x y : ℕ) → is_inverted pattern x y ≡ is_inverted pattern (x % 6) y
is_inverted-repeats pattern x y = grind (arith, common_steps, add-mul, mul_assoc)

-- and after twelve rows the pattern itself
pub is_inverted-repeats_rows : (pattern : MaskPattern) (x y : ℕ) → is_inverted pattern x y ≡ is_inverted pattern x (y % 12)
is_inverted-repeats_rows pattern x y = grind (arith, common_steps, mul_comm, mul_assoc, mul-add)

-- Modules as bytes, masked and formatted.

-- a byte after a functional colour is drawn over it, if there is one
abbrev pub byte_under : Option Color → ℕ → ℕ
byte_under o b = unwrap_or (option_map byte_of o) b

drawn_byte : (o : Option Color) (b : Bool) (m : Module) → byte_under o (masked_code (code_of m) b) ≡ byte_of (color_of_module (drawn_over o (masked b m)))
drawn_byte o b m = grind (arith)

abbrev pub candidate_byte : Version → ℕ → ℕ → MaskPattern → List ℕ → ℕ → ℕ
candidate_byte version w format pattern codes k =
    byte_under (format_color version w format (k % w) (k / w)) (masked_code (get_or codes k 0) (is_inverted pattern (k % w) (k / w)))

-- the bytes of a candidate are those of the masked modules
pub candidate_is : (version : Version) (w format : ℕ) (pattern : MaskPattern) (modules : List Module) (codes candidate : List ℕ)
    → codes ≡ map code_of modules → length candidate ≡ length codes
    → ((k : ℕ) → k < length codes → get_or candidate k 0 ≡ candidate_byte version w format pattern codes k)
    → candidate ≡ map byte_of (map color_of_module (masked_cells version w format pattern modules))
candidate_is version w format pattern modules codes candidate coded long is =
    let cells = masked_cells version w format pattern modules in
    let sizes : length cells ≡ length modules = length-enumerated (λ p. masked_cell version w format pattern (p.0 % w) (p.0 / w) p.1) 0 modules in
    let same : length codes ≡ length modules = ap length coded ∙ length-map modules code_of in
    same_number_lists candidate (map byte_of (map color_of_module cells))
    (omega (arith, length-map (map color_of_module cells) byte_of, length-map cells color_of_module, sizes, same, long))
    (λ k h.
    let inside : k < length modules = omega (arith, h, long, same) in
    let from : 0 + k ≡ k = omega arith in
    let m = get_or modules k Empty in
    is k (omega (arith, h, long))
    ∙ ap (λ c. byte_under (format_color version w format (k % w) (k / w)) (masked_code c (is_inverted pattern (k % w) (k / w)))) (ap (λ cs. get_or cs k 0) coded
    ∙ get_or-map code_of modules k Empty 0 inside)
    ∙ drawn_byte (format_color version w format (k % w) (k / w)) (is_inverted pattern (k % w) (k / w)) m
    ∙ sym (
    get_or-map byte_of (map color_of_module cells) k Light 0 (omega (arith, length-map cells color_of_module, sizes, inside))
    ∙ ap byte_of (get_or-map color_of_module cells k Empty Light (omega (arith, sizes, inside)))
    ∙ ap (λ d. byte_of (color_of_module d)) (get_or-enumerated (λ p. masked_cell version w format pattern (p.0 % w) (p.0 / w) p.1) 0 modules k Empty inside
    ∙ ap (λ j. masked_cell version w format pattern (j % w) (j / w) m) from)
    ))

-- Masks by their numbers.

pub pattern_of-number : (p : MaskPattern) → pattern_of (normal_number p) ≡ p
pattern_of-number p = grind arith

pub number_small : (p : MaskPattern) → normal_number p < 8
number_small p = grind arith

-- the modules under a mask, as the code names width, word and mask
pub masked_by_number : (version : Version) (level : EcLevel) (p : MaskPattern) (w word : ℕ) (held modules : List Module) → w ≡ width_of version →
    word ≡ format_word version level p → held ≡ modules →
    masked_cells version w word (pattern_of (normal_number p)) held ≡ masked_cells version (width_of version) (format_word version level p) p modules
masked_by_number version level p w word held modules wide named same = cc (pattern_of-number p)

color_of_byte : ℕ → Color
color_of_byte zero = Light
color_of_byte (suc b) = Dark

colors_again : (xs : List Color) → map color_of_byte (map byte_of xs) ≡ xs
unfolding color_of_byte
colors_again [] = refl
colors_again (Light ∷ xs) = ap (λ (t : List Color). Light ∷ t) (colors_again xs)
colors_again (Dark ∷ xs) = ap (λ (t : List Color). Dark ∷ t) (colors_again xs)

-- colours with the same bytes are the same
pub same_colors : (xs ys : List Color) → map byte_of xs ≡ map byte_of ys → xs ≡ ys
same_colors xs ys e = sym (colors_again xs) ∙ ap (map color_of_byte) e ∙ colors_again ys

-- a list that was written whole
pub written_whole : {X : Type 0} (new old : List X) (n : ℕ) → length new ≡ n → take n (new ++ drop (length new) old) ≡ new
written_whole new old n e = take_at new (drop (length new) old) n e

-- the modules of a canvas after the one that was lent is written into its place
pub settled_modules : (read cells now items : List Module) (long lent : ℕ) (slot : Module) → read ≡ take long (cells ++ drop (length cells) items) →
    length cells ≡ long → cells ≡ set now lent slot → now ≡ items → read ≡ set items lent slot
settled_modules read cells now items long lent slot is whole written same =
    is ∙ written_whole cells items long whole ∙ written ∙ ap (λ (l : List Module). set l lent slot) same

-- a canvas whose lent module is also written into its place
pub still_lent : (d : Drawing) (version : Version) (level : EcLevel) (cells now items : List Module) (long lent : ℕ) (slot : Module) →
    (record { version = version; level = level; modules = set items lent slot }) ≡ d → length cells ≡ long → cells ≡ set now lent slot → now ≡ items →
    (record { version = version; level = level; modules = set (take long (cells ++ drop (length cells) items)) lent slot }) ≡ d
still_lent d version level cells now items long lent slot is whole written same =
    ap (λ (l : List Module). record { version = version; level = level; modules = l })
    (ap (λ (l : List Module). set l lent slot) (settled_modules _ cells now items long lent slot refl whole written same) ∙ set-set items lent slot slot) ∙ is

-- the modules of a canvas after they were drawn, and the one that was lent read again
pub drawn_modules : (read new items : List Module) (long lent : ℕ) (slot cell : Module) → read ≡ take long (new ++ drop (length new) items) →
    length new ≡ long → slot ≡ cell → cell ≡ get_or read lent cell → set read lent slot ≡ new
drawn_modules read new items long lent slot cell is whole same at =
    ap (set read lent) (same ∙ at) ∙ set-get_or read lent cell ∙ is ∙ written_whole new items long whole

-- The masks of a family: one at each of its places, with a penalty of its own.

pub some_mask : (v : Version) → 0 < length (family v)
some_mask v = grind arith

pub of_family : (v : Version) (i : ℕ) → i < length (family v) → IsOfFamily v (get_or (family v) i Checkerboard)
of_family v i h = grind arith

pub penalty_at : (d : Drawing) (i : ℕ) → i < length (family d.version) →
    get_or (mask_penalties d) i 0 ≡ penalty d.version (colors_of (with_mask (get_or (family d.version) i Checkerboard) d))
penalty_at d i h = get_or-map (λ q. penalty d.version (colors_of (with_mask q d))) (family d.version) i Checkerboard 0 h

-- The list of penalties grows by one.

pub next_penalty : (d : Drawing) (values : List ℕ) (i : ℕ) (p : MaskPattern) (v : ℕ) → values ≡ take i (mask_penalties d) →
    slice_get (family d.version) i ≡ Some p →
    v ≡ penalty d.version (colors_of (with_mask p d)) → values ++ v ∷ [] ≡ take (i + 1) (mask_penalties d)
next_penalty d values i p v so_far here is =
    let e : slice_get (mask_penalties d) i ≡ Some (penalty d.version (colors_of (with_mask p d))) =
    slice_get-map (λ q. penalty d.version (colors_of (with_mask q d))) (family d.version) i
    ∙ ap (option_map (λ q. penalty d.version (colors_of (with_mask q d)))) here in
    ap (λ l. l ++ v ∷ []) so_far ∙ ap (λ n. take i (mask_penalties d) ++ n ∷ []) (is ∙ sym (get_or_from_slice_get (mask_penalties d) i _ 0 e))
    ∙ sym (take_more (mask_penalties d) i 0 (slice_get_within (mask_penalties d) i _ e))
