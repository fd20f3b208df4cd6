-- The lines of a text below a picture, one character and one line more.
use Rattle.std.proofs.Common.{◌≡◌, ℕ, zero, suc, codes, ◌+◌, ◌-◌, ◌*◌, ◌/◌, ◌<◌, ◌≤◌, ◌++◌, List, [], ◌∷◌, length, map, refl, ◌∙◌, ap, sym, append-nil, flat_map, get_or, arith}
use Rattle.std.proofs.lemmas.Nat.{div_below, le-div, mul-le}
use Rattle.std.specs.Prelude.{fold}
use Rattle.std.specs.List.{range_with_len}
use Rattle.std.proofs.lemmas.Grind.{flat_map-append}
use Rattle.std.proofs.lemmas.List.Sums.{fold-append}
use Rattle.std.proofs.lemmas.List.{get_or-map, length-map}
use Rattle.picture_settings.proofs.Ranges.{flat_map_range}
use Rattle.qrcode_render.specs.Zpl.{line_break}
use Rattle.qrcode_render.specs.Captions.{Breaks, character_bytes, each_line, first_lines, next_character}

-- one character more on a line
pub characters_more : (cs : List ℕ) (c : ℕ) → flat_map character_bytes (cs ++ c ∷ []) ≡ flat_map character_bytes cs ++ character_bytes c
characters_more cs c =
    flat_map-append character_bytes cs (c ∷ []) ∙ ap (λ l. flat_map character_bytes cs ++ l) (append-nil (character_bytes c))

-- one character more of a text
pub breaks_more : (most : ℕ) (start : Breaks) (cs : List ℕ) (c : ℕ) →
    fold (next_character most) start (cs ++ c ∷ []) ≡ next_character most (fold (next_character most) start cs) c
breaks_more most start cs c = fold-append (next_character most) start cs (c ∷ [])

pub lines_none : (write : ℕ → List ℕ → List ℕ) (lines : List (List ℕ)) → first_lines write lines 0 ≡ []
unfolding first_lines
lines_none write lines = refl

-- one line more
pub lines_more : {S : Type 0} (bytes : S → List ℕ) (write : ℕ → List ℕ → List ℕ) (lines : List S) (n : ℕ) (d : S) → n < length lines →
    first_lines write (map bytes lines) (n + 1) ≡ first_lines write (map bytes lines) n ++ write n (bytes (get_or lines n d))
unfolding first_lines
lines_more bytes write lines n d below =
    flat_map_range (λ k. write k (get_or (map bytes lines) k [])) n
    ∙ ap (λ line. flat_map (λ k. write k (get_or (map bytes lines) k [])) (range_with_len 0 n) ++ write n line) (get_or-map bytes lines n d [] below)

-- one line more, by what it is
pub lines_one : (write : ℕ → List ℕ → List ℕ) (lines : List (List ℕ)) (n : ℕ) (line : List ℕ) → get_or lines n [] ≡ line →
    first_lines write lines (n + 1) ≡ first_lines write lines n ++ write n line
unfolding first_lines
lines_one write lines n line is =
    flat_map_range (λ k. write k (get_or lines k [])) n
    ∙ ap (λ l. flat_map (λ k. write k (get_or lines k [])) (range_with_len 0 n) ++ write n l) is

-- the bytes of a line
pub line_is : {S : Type 0} (bytes : S → List ℕ) (lines : List S) (n : ℕ) (line : S) → n < length lines → line ≡ get_or lines n line →
    get_or (map bytes lines) n [] ≡ bytes line
line_is bytes lines n line below is = get_or-map bytes lines n line [] below ∙ ap bytes (sym is)

-- before the first line nothing was added
pub lines_start : (write : ℕ → List ℕ → List ℕ) (lines : List (List ℕ)) (old : List ℕ) → old ≡ old ++ first_lines write lines 0
unfolding first_lines
lines_start write lines old = sym (append-nil old)

-- after the last line
pub lines_all : {S : Type 0} (bytes : S → List ℕ) (write : ℕ → List ℕ → List ℕ) (lines : List S) (n : ℕ) → n ≡ length lines →
    first_lines write (map bytes lines) n ≡ each_line write (map bytes lines)
lines_all bytes write lines n all = ap (first_lines write (map bytes lines)) (all ∙ sym (length-map lines bytes))

-- the rows of some lines
pub rows_bound : (n pitch : ℕ) → n ≤ 1073741824 → pitch ≤ 40 → n * pitch + pitch / 3 ≤ 42949672960 + 40
rows_bound n pitch few small = omega (arith, mul-le n pitch 1073741824 40 few small)

-- 2 mm have at least one hundredth of a module, and at most 40 modules
pub least_some : (m : ℕ) → 50 ≤ m → 0 < (200000 + (m - 1)) / m
least_some m some = le-div 1 (200000 + (m - 1)) m (omega (arith, some)) (omega (arith, some))

pub least_bound : (m : ℕ) → 50 ≤ m → (200000 + (m - 1)) / m ≤ 4000
least_bound m some =
    let below : (200000 + (m - 1)) / m < 4001 = div_below (200000 + (m - 1)) m 4001 (omega (arith, some)) (omega (arith, some)) in
    omega (arith, below)

-- what ends the line before one of a field block
pub first_break : (n : ℕ) → n ≤ 0 → line_break n ≡ []
first_break zero none = refl
first_break (suc n) none = absurd (omega (arith, none))

pub later_break : (n : ℕ) → 0 < n → line_break n ≡ codes "\\&"
later_break zero some = absurd (omega (arith, some))
later_break (suc n) some = refl

pub ruleset least_sizes = (least_some, least_bound)
