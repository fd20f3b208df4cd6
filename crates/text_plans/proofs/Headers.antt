-- The headers of all modes.
use Rattle.std.proofs.Common.{◌≡◌, ◌+◌, ◌*◌, ◌<◌}
use Rattle.qrcode_base.specs.Modes.{HasMode, count_width, indicator_width}
use Rattle.qrcode_base.specs.declared.types.Mode.{Mode}
use Rattle.qrcode_base.specs.declared.types.Mode.TheVariants.{Numeric, Alphanumeric, Byte, Kanji}
use Rattle.qrcode_base.specs.declared.types.Version.{Version}
use Rattle.text_plans.specs.Search.{header_weight}
use Rattle.text_plans.specs.Ways.{HasHeaders}
use Rattle.text_plans.specs.declared.row.TheConstants.{BIT, LIMIT}
use Rattle.text_plans.specs.declared.rules.Rules.{Rules}

-- One mode's header is right.
abbrev pub HasHeader : Version → Rules → Mode → Type 0
HasHeader version rules mode =
    HasMode version mode → header_weight rules mode ≡ BIT * (indicator_width version + count_width version mode) + 1

pub four_headers : (version : Version) (rules : Rules) → HasHeader version rules Numeric → HasHeader version rules Alphanumeric →
    HasHeader version rules Byte → HasHeader version rules Kanji → HasHeaders version rules
four_headers version rules n a b k Numeric = n
four_headers version rules n a b k Alphanumeric = a
four_headers version rules n a b k Byte = b
four_headers version rules n a b k Kanji = k

-- One mode is had where its header is.
abbrev pub HasOnly : Version → Rules → Mode → Type 0
HasOnly version rules mode = header_weight rules mode < LIMIT → HasMode version mode

pub four_modes : (version : Version) (rules : Rules) → HasOnly version rules Numeric → HasOnly version rules Alphanumeric →
    HasOnly version rules Byte → HasOnly version rules Kanji → (mode : Mode) → HasOnly version rules mode
four_modes version rules n a b k Numeric = n
four_modes version rules n a b k Alphanumeric = a
four_modes version rules n a b k Byte = b
four_modes version rules n a b k Kanji = k
