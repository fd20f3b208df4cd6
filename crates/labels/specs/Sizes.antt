-- The line on standard error of modules of whole dots, where they have not the width that was asked
-- for.
use Rattle.std.specs.Prelude.{ℕ, ◌-◌, ◌/◌, ◌%◌, nat_le, nat_lt, if◌then◌else◌, codes, decimal}
use Rattle.std.specs.Prelude.{List, [], ◌∷◌, Option, None, Some}
use Rattle.picture_settings.specs.declared.draw_options.DrawOptions.{DrawOptions}
use Rattle.label_words.specs.declared.command.Label.{Label}
use Rattle.single_label.specs.Details.{physical_width}
use Rattle.labels.specs.Pieces.{line_of}

-- By how much two widths differ.
abbrev pub difference : ℕ → ℕ → ℕ
difference real asked = if nat_le asked real then real - asked else asked - real

-- The width of a module and the one that was asked for, in micrometres, where they differ by more
-- than 5 in 100 of the latter.
abbrev pub far_off : (real asked : ℕ) → Option (ℕ × ℕ)
far_off real asked = if nat_lt (asked / 20) (difference real asked) then Some (real, asked) else None

abbrev pub other_width : Label → DrawOptions → Option (ℕ × ℕ)
other_width label options =
    elim label.asked_um [
      | Some asked ↦ elim (physical_width 1 label options) [ Some real ↦ far_off real asked | None ↦ None ]
      | None ↦ None
    ]

-- The line of both. Example: 0.43 mm at 8 dots a millimetre are 3 dots, of 0.375 mm.
unfoldable pub size_line : (real asked : ℕ) → List ℕ
size_line real asked =
    line_of (codes "qrlabel") (codes "in whole dots a module is " ∷ decimal (real / 1000) ∷ codes "."
    ∷ decimal (real / 100 % 10) ∷ decimal (real / 10 % 10) ∷ decimal (real % 10)
    ∷ codes " mm wide, and not " ∷ decimal (asked / 1000) ∷ codes "." ∷ decimal (asked / 100 % 10)
    ∷ decimal (asked / 10 % 10) ∷ decimal (asked % 10) ∷ codes " mm" ∷ [])

-- The line, or nothing.
abbrev pub size_report : Label → DrawOptions → List ℕ
size_report label options =
    elim (other_width label options) [ Some widths ↦ size_line widths.0 widths.1 | None ↦ [] ]
