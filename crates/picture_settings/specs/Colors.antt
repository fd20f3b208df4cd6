-- How light the colours of sRGB are, and which of them a reader can distinguish (W3C, "Web Content
-- Accessibility Guidelines", version 2.1, "relative luminance" and "contrast ratio").
use Rattle.std.specs.Prelude.{◌≡◌, ℕ, ◌+◌, ◌-◌, ◌*◌, ◌^◌, ◌<◌, ◌==◌, Bool, true, ◌&&◌, nat_le}
use Rattle.std.specs.Prelude.{nat_lt}
use Rattle.std.specs.Prelude.{get_or, if◌then◌else◌, unwrap_or, Option, Some, None}
use Rattle.picture_settings.specs.Resolutions.{nearest}
use Rattle.picture_settings.specs.declared.colors.Rgb.{Rgb}
use Rattle.picture_settings.specs.declared.colors.Colors.{Colors}
use Rattle.picture_settings.specs.declared.colors.Ground.{Ground}
use Rattle.picture_settings.specs.declared.colors.Ground.TheVariants.{Color}
use Rattle.picture_settings.specs.declared.colors.TheConstants.{BLACK, LIGHT, WHITE}

-- The number is the nearest to the light of a value of a channel, in millionths: that is a 12.92nd
-- of the value's share of 255, up to 10; and from 11 on the power 2.4 of (share + 0.055) / 1.055,
-- so that its fifth power is the twelfth one of (1000 value + 14025) / 269025.
abbrev pub is_light : (value millionths : ℕ) → Bool
is_light value n =
    if nat_le value 10 then n == nearest (value * 10 ^ 8) (255 * 1292) else
    nat_le ((2 * n - 1) ^ 5 * 269025 ^ 12) (32 * 10 ^ 30 * (1000 * value + 14025) ^ 12)
    && nat_lt (32 * 10 ^ 30 * (1000 * value + 14025) ^ 12) ((2 * n + 1) ^ 5 * 269025 ^ 12)

-- The light of a value of a channel, in millionths.
abbrev pub channel_light : ℕ → ℕ
channel_light value = get_or LIGHT value 0

-- The relative luminance of a colour, in units of which white has 10^10.
abbrev pub light_of : Rgb → ℕ
light_of c = 2126 * channel_light c.red + 7152 * channel_light c.green + 722 * channel_light c.blue

-- The contrast ratio between a dark colour and a light one is 3 at least: a twentieth of white is
-- added to the luminance of each.
abbrev pub is_readable : (dark light : Rgb) → Bool
is_readable dark light = nat_le (3 * (light_of dark + 500000000)) (light_of light + 500000000)

-- The colour of the dark modules.
abbrev pub dark_color : Colors → Rgb
dark_color colors = unwrap_or colors.dark BLACK

-- The colour of the ground, by what is asked for. A transparent one is taken to be white.
abbrev pub ground_color : Option Ground → Rgb
ground_color (Some (Color color)) = color
ground_color _ = WHITE

-- The colour of the ground of a picture. A transparent one is taken to be white.
abbrev pub light_color : Colors → Rgb
light_color colors = ground_color colors.light

-- Black on white.
abbrev pub no_colors : Colors
no_colors = record { dark = None; light = None }

-- A reader can distinguish the dark modules from the ground.
abbrev pub are_readable : Colors → Bool
are_readable colors = is_readable (dark_color colors) (light_color colors)

-- A law of luminance: each number is the nearest one.
abbrev pub LightIsNearest : Type 0
LightIsNearest = (value : ℕ) → value < 256 → is_light value (channel_light value) ≡ true
