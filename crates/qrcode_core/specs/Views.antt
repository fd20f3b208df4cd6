-- The grids of views.
use Rattle.qrcode_base.specs.declared.types.EcLevel.{EcLevel}
use Rattle.qrcode_base.specs.declared.types.Version.{Version}
use Rattle.qrcode_core.specs.declared.traits.ModuleView.{ModuleView}
use Rattle.qrcode_core.specs.declared.traits.QrCodeRef.{QrCodeRef}
use Rattle.qrcode_core.specs.Grids.{Grid, grid_of}

-- The grid of a view.
abbrev pub view_grid : ModuleView → Grid
view_grid v = grid_of v.modules.now v.width v.height

-- The square grid of a borrowed symbol.
abbrev pub symbol_grid : QrCodeRef → Grid
symbol_grid s = grid_of s.modules.now s.width s.width

-- The version of a borrowed symbol.
abbrev pub symbol_version : QrCodeRef → Version
symbol_version s = s.version

-- The level of a borrowed symbol.
abbrev pub symbol_level : QrCodeRef → EcLevel
symbol_level s = s.ec_level
