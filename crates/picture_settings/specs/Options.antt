-- The options `scale` and `quiet` of a picture, and errors with the name of an option.
use Rattle.picture_settings.specs.declared.bounds.TheConstants.{MIN_SCALE, MAX_SCALE, MAX_QUIET}
use Rattle.std.specs.Prelude.{◌≡◌, ℕ, ◌≤◌, ◌⊎◌, List, codes}
use Rattle.std.specs.String.{string_bytes}
use Rattle.qrcode_core.specs.declared.plugin.error.PluginError.{PluginError}
use Rattle.qrcode_core.specs.declared.plugin.error.PluginError.TheVariants.{InvalidConfig}
use Rattle.qrcode_core.specs.declared.plugin.error.PluginError.TheVariants.{OutOfMemory}

-- The option of this name, `scale` or `quiet`, is out of bounds.
abbrev pub IsOutside : (scale quiet : ℕ) → List ℕ → Type 0
IsOutside scale quiet name =
    ((name ≡ codes "scale") × ((MIN_SCALE ≤ scale) × (scale ≤ MAX_SCALE) → ⊥))
    ⊎ ((name ≡ codes "quiet") × (quiet ≤ MAX_QUIET → ⊥))

-- The error names this option, or there was no memory for the name.
abbrev pub NamesOption : List ℕ → PluginError → Type 0
NamesOption name (InvalidConfig what) = string_bytes what ≡ name
NamesOption name OutOfMemory = Unit {0}
NamesOption name _ = ⊥

-- The error names an option that is invalid, as `Invalid` says; or memory ran out.
abbrev pub IsOptionRefusal : (Invalid : List ℕ → Type 0) → PluginError → Type 0
IsOptionRefusal Invalid (InvalidConfig what) = Invalid (string_bytes what)
IsOptionRefusal Invalid OutOfMemory = Unit {0}
IsOptionRefusal Invalid _ = ⊥
