-- The limits that an encoding can keep to, the default limits, and the best symbol within limits.
use Rattle.std.specs.Prelude.{◌≢◌, Some, None, pos, ℕ, nat_abs, ◌<◌, ◌≤◌, ◌⊎◌, List, length}
use Rattle.qrcode_base.specs.declared.symbols.TheConstants.{LONGEST_DATA}
use Rattle.qrcode_base.specs.Symbols.{IsNormalNumber}
use Rattle.qrcode_base.specs.declared.types.Version.{Version}
use Rattle.qrcode_base.specs.declared.types.Version.TheVariants.{Normal, Micro}
use Rattle.qrcode_core.specs.declared.limits.ResourceLimits.{ResourceLimits}
use Rattle.qrcode_base.specs.declared.types.Color.{Color}
use Rattle.qrcode_base.specs.declared.types.EcLevel.{EcLevel}
use Rattle.qrcode_base.specs.declared.types.errors.QrError.{QrError}
use Rattle.qrcode_base.specs.declared.types.errors.QrError.TheVariants.{DataTooLong}
use Rattle.qrcode_base.specs.declared.types.errors.QrError.TheVariants.{InvalidResourceLimits}
use Rattle.qrcode_base.specs.declared.types.errors.QrError.TheVariants.{OutOfMemory}
use Rattle.qrcode_bits.specs.Plans.{normal, FitsNone}
use Rattle.qrcode_core.specs.Headline.{IsBestSymbol}

-- The version is one of Normal 1 to 40 (ISO/IEC 18004:2006, "Symbol versions and sizes").
abbrev pub IsNormalVersion : Version → Type 0
IsNormalVersion (Normal n) = IsNormalNumber n
IsNormalVersion (Micro n) = ⊥

-- An encoding can keep to the limits: the version is a Normal one, neither side is 0, and the time,
-- if it is limited, is not 0.
abbrev pub IsBudget : ResourceLimits → Type 0
IsBudget l =
    IsNormalVersion l.max_version
    × (l.max_render_size.0 ≢ 0)
    × (l.max_render_size.1 ≢ 0)
    × (l.encoding_timeout ≢ Some 0)

-- The default limits: 7089 bytes, which is the number of digits that the largest symbol holds,
-- every Normal version, a size of 4096 by 4096, and any time.
abbrev pub default_budget : ResourceLimits
default_budget = record {
  max_data_length = LONGEST_DATA;
  max_version = Normal (pos 40);
  max_render_size = (4096, 4096);
  encoding_timeout = None;
}

-- ---- The symbol of some bytes within limits

-- The number of the greatest Normal version that a limit allows.
abbrev pub greatest_number : Version → ℕ
greatest_number (Normal n) = nat_abs n
greatest_number (Micro n) = 0

-- The best symbol of the bytes, in a version within the limit.
pub record IsBestWithin (limits : ResourceLimits) (bytes : List ℕ) (level : EcLevel)
    (grid : List Color) : Type 0 where
  pub best : IsBestSymbol bytes level grid
  pub up_to : best.number ≤ greatest_number limits.max_version

-- There are more bytes than the limit, or no plan of them fits any version within the limit.
abbrev pub IsTooLongWithin : ResourceLimits → List ℕ → EcLevel → Type 0
IsTooLongWithin limits bytes level =
    (limits.max_data_length < length bytes)
    ⊎ FitsNone normal 0 bytes level (greatest_number limits.max_version)

-- The errors of `Symbol::with_limits`, and when each is returned. The limits themselves are checked
-- first. `OutOfMemory` comes only where the number of bytes is within the limit.
abbrev pub IsLimitedRefusal : ResourceLimits → List ℕ → EcLevel → QrError → Type 0
IsLimitedRefusal limits bytes level InvalidResourceLimits = IsBudget limits → ⊥
IsLimitedRefusal limits bytes level DataTooLong =
    IsBudget limits × IsTooLongWithin limits bytes level
IsLimitedRefusal limits bytes level OutOfMemory =
    IsBudget limits × (length bytes ≤ limits.max_data_length) × (length bytes ≤ LONGEST_DATA)
IsLimitedRefusal limits bytes level other = ⊥
