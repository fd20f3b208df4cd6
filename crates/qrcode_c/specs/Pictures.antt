-- The picture of a symbol in a caller's buffer, and the errors of the call that draws it.
use Rattle.std.specs.Prelude.{◌≡◌, ◌≢◌, ◌*◌, ◌<◌, ◌++◌, ℕ, zero, suc, ℤ, List, length, map, drop, None}
use Rattle.qrcode_base.specs.declared.types.Color.{Color}
use Rattle.qrcode_base.specs.declared.types.Color.TheVariants.{Light, Dark}
use Rattle.qrcode_base.specs.declared.types.Version.{Version}
use Rattle.qrcode_base.specs.Symbols.{IsVersion, width_of}
use Rattle.qrcode_core.specs.Grids.{Grid, grid_of}
use Rattle.picture_settings.specs.declared.format.Format.{Format}
use Rattle.picture_settings.specs.declared.settings.Settings.{Settings}
use Rattle.qrcode_render.specs.SettingDrawings.{ShowsAsAsked}
use Rattle.picture_settings.specs.Settings.{invalid_setting}
use Rattle.qrcode_c.specs.declared.refusal.Refusal.{Refusal}
use Rattle.qrcode_c.specs.declared.refusal.Refusal.TheVariants.{OutOfMemory, ShortBuffer}
use Rattle.qrcode_c.specs.declared.refusal.Refusal.TheVariants.{InvalidWidth, InvalidFormat}
use Rattle.qrcode_c.specs.declared.refusal.Refusal.TheVariants.{InvalidSetting}
use Rattle.qrcode_c.specs.declared.settings.PictureSettings.{PictureSettings}
use Rattle.qrcode_c.specs.Formats.{format_argument, IsNoFormat, MeansSettings}

-- The colour of a byte: light if it is 0, else dark.
abbrev pub color_of : ℕ → Color
color_of zero = Light
color_of (suc n) = Dark

-- The square grid of this width whose modules have these bytes.
abbrev pub grid_of_bytes : List ℕ → ℕ → Grid
grid_of_bytes modules width = grid_of (map color_of modules) width width

-- Symbols have this width, and this is the number of their modules.
pub record IsSymbolSquare (size width : ℕ) : Type 0 where
  pub version : Version
  pub is_version : IsVersion version
  pub width_is : width_of version ≡ width
  pub size_is : size ≡ width * width

-- The numbers of the caller mean a format and settings of which the fact is true.
pub record AsksFormat (number : ℤ) (asked : PictureSettings)
    (fact : Format → Settings → Type 0) : Type 0 where
  pub format : Format
  pub format_is : number ≡ format_argument format
  pub settings : Settings
  pub means : MeansSettings asked settings
  pub true_of : fact format settings

-- The bytes show the modules of a symbol in the format and as the settings ask.
pub record IsAskedPicture (modules : List ℕ) (width : ℕ) (number : ℤ) (asked : PictureSettings)
    (bytes : List ℕ) : Type 0 where
  pub square : IsSymbolSquare (length modules) width
  pub asks : AsksFormat number asked
      (λ format settings. ShowsAsAsked format settings (grid_of_bytes modules width) bytes)

-- The first bytes of the buffer are the picture that is asked for, as many as are counted; the
-- other bytes are unchanged.
pub record HoldsPicture (modules : List ℕ) (width : ℕ) (number : ℤ) (asked : PictureSettings)
    (before after : List ℕ) (count : ℕ) : Type 0 where
  pub bytes : List ℕ
  pub is_asked : IsAskedPicture modules width number asked bytes
  pub count_is : count ≡ length bytes
  pub written : after ≡ bytes ++ drop (length bytes) before

-- The picture that is asked for has as many bytes as are counted, and more than the buffer has.
pub record IsPictureAbove (room : ℕ) (modules : List ℕ) (width : ℕ) (number : ℤ)
    (asked : PictureSettings) (count : ℕ) : Type 0 where
  pub bytes : List ℕ
  pub is_asked : IsAskedPicture modules width number asked bytes
  pub count_is : count ≡ length bytes
  pub above : room < length bytes

-- The errors of a picture, and when each is returned: no symbol has the width, or another number of
-- modules; no format has the number; a setting is out of its bounds, or one that the format does
-- not have; all of these are as they should be, and memory ran out.
abbrev pub IsDrawRefusal : List ℕ → ℕ → ℤ → PictureSettings → Refusal → Type 0
IsDrawRefusal modules width number asked InvalidWidth = IsSymbolSquare (length modules) width → ⊥
IsDrawRefusal modules width number asked InvalidFormat =
    IsSymbolSquare (length modules) width × IsNoFormat number
IsDrawRefusal modules width number asked InvalidSetting =
    IsSymbolSquare (length modules) width
    × AsksFormat number asked (λ format settings. invalid_setting format settings ≢ None)
IsDrawRefusal modules width number asked OutOfMemory =
    IsSymbolSquare (length modules) width
    × AsksFormat number asked (λ format settings. invalid_setting format settings ≡ None)
IsDrawRefusal modules width number asked other = ⊥

-- The same of the call that writes the picture to a buffer, which may be too short.
abbrev pub IsPictureRefusal : List ℕ → ℕ → ℤ → PictureSettings → (room count : ℕ) → Refusal → Type 0
IsPictureRefusal modules width number asked room count ShortBuffer =
    IsPictureAbove room modules width number asked count
IsPictureRefusal modules width number asked room count other =
    IsDrawRefusal modules width number asked other
