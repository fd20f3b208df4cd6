-- The modules of a row of a picture.
use Rattle.std.specs.Prelude.{ℕ, ◌≡◌, ◌-◌, ◌<◌, Bool, true, false, ◌&&◌, nat_le, slice_get, if◌then◌else◌}
use Rattle.std.specs.Prelude.{Option, None, Some}
use Rattle.grid_pictures.specs.Pictures.{is_dark_color}
use Rattle.grid_pictures.specs.declared.picture.Row.{Row}

-- Whether the module of a column is dark, counted from the edge of the quiet zone.
abbrev pub is_dark_at : Row → ℕ → Bool
is_dark_at row column = nat_le row.quiet column && is_dark_color (slice_get row.modules.now (column - row.quiet))

-- The byte of a column: 255 where the module is dark.
abbrev pub dark_byte : Row → ℕ → ℕ
dark_byte row column = if is_dark_at row column then 255 else 0

-- This is the first dark column: those before it are light. Where there is none, all are light.
abbrev pub IsFirstDark : Row → Option ℕ → Type 0
IsFirstDark row None = (column : ℕ) → is_dark_at row column ≡ false
IsFirstDark row (Some first) =
    (is_dark_at row first ≡ true) × ((column : ℕ) → column < first → is_dark_at row column ≡ false)
