-- The numbers of the levels for a caller in C.
use Rattle.std.specs.Prelude.{◌≡◌, ◌≢◌, ◌⊎◌, ℤ, pos}
use Rattle.qrcode_base.specs.declared.types.EcLevel.{EcLevel}
use Rattle.qrcode_base.specs.declared.types.EcLevel.TheVariants.{L, M, Q, H}

-- The number of a level.
abbrev pub level_argument : EcLevel → ℤ
level_argument L = pos 0
level_argument M = pos 1
level_argument Q = pos 2
level_argument H = pos 3

-- The number is that of a level, for which the fact is true.
abbrev pub AtLevel : ℤ → (EcLevel → Type 0) → Type 0
AtLevel number fact = (level : EcLevel) × (number ≡ level_argument level) × fact level

-- The number is not that of a level.
abbrev pub IsNoLevel : ℤ → Type 0
IsNoLevel number = (level : EcLevel) → number ≢ level_argument level

-- The number is not that of a level of the Micro versions. None of them has level H.
abbrev pub IsNoMicroLevel : ℤ → Type 0
IsNoMicroLevel number = AtLevel number (λ level. level ≡ H) ⊎ IsNoLevel number
