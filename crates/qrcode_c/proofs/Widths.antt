-- The widths of symbols.
use Rattle.std.proofs.Common.{◌<◌, ◌≤◌, arith}
use Rattle.qrcode_base.specs.declared.types.Version.{Version}
use Rattle.qrcode_base.specs.Symbols.{IsVersion, width_of}

pub width_bounds : (version : Version) → IsVersion version → (0 < width_of version) × (width_of version ≤ 177)
width_bounds version is = grind arith
