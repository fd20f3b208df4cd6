-- The grid after its modules were lent as a mutable slice.
use Rattle.std.specs.Prelude.{List}
use Rattle.std.proofs.Common.{◌∙◌, sym}
use Rattle.std.specs.Borrow.{Lends, MutBor, Fml, Array}
use Rattle.std.specs.Vec.{with_items}
use Rattle.qrcode_base.specs.declared.types.Color.{Color}
use Rattle.qrcode_base.specs.contracts.types.Color.{the_row as color_row}
use Rattle.qrcode_core.specs.declared.plugin.grid.ModuleGrid.{ModuleGrid}
use Rattle.qrcode_core.specs.contracts.plugin.grid.ModuleGrid.{the_row}

-- The grid with these modules.
abbrev pub with_modules : ModuleGrid → List Color → ModuleGrid
with_modules g colors =
    let v = with_items g.modules colors in
    record { modules = v; width = g.width; height = g.height; full = sym v.ok.0 ∙ (g.modules.ok.0 ∙ g.full) }

-- When the borrow ends, the grid has the modules that the slice has then, and the sides that it
-- had before.
abbrev pub LendsModules : MutBor ModuleGrid → MutBor (List Color) → Fml
LendsModules grid slice = Lends the_row (Array color_row 0) grid slice (with_modules grid.now)
