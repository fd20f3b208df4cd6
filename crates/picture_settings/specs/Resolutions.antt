-- How many pixels there are in a metre.
use Rattle.std.specs.Prelude.{ℕ, ◌+◌, ◌*◌, ◌/◌, Option, Some, None}

-- The whole number that is nearest to a quotient; the greater one, if two are.
abbrev pub nearest : (dividend divisor : ℕ) → ℕ
nearest dividend divisor = (2 * dividend + divisor) / (2 * divisor)

-- The number of pixels in a metre, if the width of a module is given in micrometres, or the number
-- of pixels in ten inches, of which each is 25.4 mm.
abbrev pub per_metre : (scale : ℕ) → (module_um dpi_tenths : Option ℕ) → Option ℕ
per_metre scale (Some module_um) dpi_tenths = Some (nearest (scale * 1000000) module_um)
per_metre scale None (Some dpi_tenths) = Some (nearest (dpi_tenths * 1000) 254)
per_metre scale None None = None
