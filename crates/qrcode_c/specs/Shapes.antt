-- The properties of a symbol besides its modules.
use Rattle.std.specs.Prelude.{◌≡◌, ℕ, ℤ, pos, unwrap_or}
use Rattle.qrcode_base.specs.declared.types.Version.{Version}
use Rattle.qrcode_base.specs.declared.types.Version.TheVariants.{Normal, Micro}
use Rattle.qrcode_base.specs.Symbols.{IsVersion, width_of, is_micro}
use Rattle.qrcode_grid.specs.declared.canvas.MaskPattern.{MaskPattern}
use Rattle.qrcode_grid.specs.Masks.{normal_number, micro_number}
use Rattle.qrcode_core.specs.Symbol.{DrawnSymbol}
use Rattle.qrcode_c.specs.declared.shape.Shape.{Shape}
use Rattle.qrcode_c.specs.Levels.{level_argument}

-- The number of a version: 1 to 40, or 1 to 4 for a Micro version.
abbrev pub version_number : Version → ℤ
version_number (Normal number) = number
version_number (Micro number) = number

-- The data mask pattern reference of a mask: its number in the format information of a version
-- (ISO/IEC 18004:2006, "Format information").
abbrev pub mask_reference : Version → MaskPattern → ℤ
mask_reference (Normal _) mask = pos (normal_number mask)
mask_reference (Micro _) mask = pos (unwrap_or (micro_number mask) 0)

-- The shape of a symbol.
abbrev pub shape_of : DrawnSymbol → Shape
shape_of symbol = record {
  width = pos (width_of symbol.version);
  version = version_number symbol.version;
  mask = mask_reference symbol.version symbol.mask;
  micro = is_micro symbol.version;
  level = level_argument symbol.level;
}

-- The number is that of a version whose symbols have this width.
abbrev pub IsNumberAtWidth : ℤ → ℕ → Type 0
IsNumberAtWidth number width =
    (version : Version) × IsVersion version × (width_of version ≡ width)
    × (number ≡ version_number version)
