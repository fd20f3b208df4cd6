-- The lines of a terminal's text, one after the other.
use Rattle.std.proofs.Common.{◌≡◌, ℕ, ◌+◌, ◌*◌, ◌/◌, ◌<◌, Bool, [], ◌++◌, refl, sym, ap, ◌∙◌, arith}
use Rattle.std.specs.Prelude.{if◌then◌else◌, not}
use Rattle.std.proofs.lemmas.Nat.{div-mul-add}
use Rattle.std.specs.{Prelude.flat_map, Prelude.encode_utf8, List.range_with_len}
use Rattle.picture_settings.proofs.Ranges.{flat_map_range}
use Rattle.grid_pictures.specs.Terminals.{is_filled, half_blocks, terminal_character, terminal_line, lines_of}
use Rattle.grid_pictures.specs.Pictures.{Picture, is_dark_module}

pub lines_none : (inverted : Bool) (p : Picture) → lines_of inverted p 0 ≡ []
unfolding lines_of
lines_none inverted p = refl

pub lines_more : (inverted : Bool) (p : Picture) (n : ℕ) → lines_of inverted p (n + 1) ≡ lines_of inverted p n ++ terminal_line inverted p n
unfolding lines_of
lines_more inverted p n = flat_map_range (terminal_line inverted p) n

-- one character more of a line
characters_more : (inverted : Bool) (p : Picture) (line n : ℕ) →
    flat_map (terminal_character inverted p line) (range_with_len 0 (n + 1)) ≡ flat_map (terminal_character inverted p line) (range_with_len 0 n)
    ++ encode_utf8 (half_blocks (is_filled inverted p n (2 * line)) (is_filled inverted p n (2 * line + 1)))
unfolding terminal_character
characters_more inverted p line n = flat_map_range (terminal_character inverted p line) n

-- a pixel of a module is filled as the module is
pixel_filled : (inverted : Bool) (p : Picture) (scale column copy y : ℕ) (filled : Bool) → scale ≡ p.scale → copy < scale →
    filled ≡ (if inverted then not (is_dark_module p column (y / scale)) else is_dark_module p column (y / scale)) →
    is_filled inverted p (column * scale + copy) y ≡ filled
pixel_filled inverted p scale column copy y filled is below fills =
    ap (λ s. if inverted then not (is_dark_module p ((column * scale + copy) / s) (y / s)) else is_dark_module p ((column * scale + copy) / s) (y / s)) (sym is)
    ∙ (ap (λ x. if inverted then not (is_dark_module p x (y / scale)) else is_dark_module p x (y / scale)) (div-mul-add column scale copy below)
    ∙ sym fills)

-- one character more of a module
pub characters_copy : (inverted : Bool) (p : Picture) (line scale column copy : ℕ) (upper lower : Bool) → scale ≡ p.scale → copy < scale →
    upper ≡ (if inverted then not (is_dark_module p column (2 * line / scale)) else is_dark_module p column (2 * line / scale)) →
    lower ≡ (if inverted then not (is_dark_module p column ((2 * line + 1) / scale)) else is_dark_module p column ((2 * line + 1) / scale)) →
    flat_map (terminal_character inverted p line) (range_with_len 0 (column * scale + (copy + 1)))
    ≡ flat_map (terminal_character inverted p line) (range_with_len 0 (column * scale + copy)) ++ encode_utf8 (half_blocks upper lower)
characters_copy inverted p line scale column copy upper lower is below above under =
    let place = column * scale + copy in
    let next : column * scale + (copy + 1) ≡ place + 1 = omega arith in
    ap (λ n. flat_map (terminal_character inverted p line) (range_with_len 0 n)) next
    ∙ (characters_more inverted p line place
    ∙ (ap (λ u. flat_map (terminal_character inverted p line) (range_with_len 0 place)
    ++ encode_utf8 (half_blocks u (is_filled inverted p place (2 * line + 1)))) (pixel_filled inverted p scale column copy (2 * line) upper is below above)
    ∙ ap (λ l. flat_map (terminal_character inverted p line) (range_with_len 0 place) ++ encode_utf8 (half_blocks upper l))
    (pixel_filled inverted p scale column copy (2 * line + 1) lower is below under)))
