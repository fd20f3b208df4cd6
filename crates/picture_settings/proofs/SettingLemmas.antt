-- What a valid setting says.
use Rattle.std.proofs.Common.{◌≡◌, ℕ, ◌≤◌, Bool, true, false, Option, None, Some, arith}
use Rattle.std.specs.Prelude.{unwrap_or}
use Rattle.std.proofs.lemmas.Bool.Decides.{nat_tests}
use Rattle.std.proofs.Common.{List, ◌∷◌, refl, ◌∙◌, ap, Result, Ok, Err}
use Rattle.std.specs.Prelude.{◌&&◌, ◌||◌, not, is_none, IfErr}
use Rattle.std.specs.Option.{option_copied}
use Rattle.picture_settings.specs.Formats.{can_be_inverted, has_caption, has_dots, has_millimetres, has_position, has_title}
use Rattle.picture_settings.specs.declared.format.Format.{Format}
use Rattle.picture_settings.specs.declared.settings.Settings.{Settings}
use Rattle.picture_settings.specs.declared.settings.Setting.{Setting}
use Rattle.picture_settings.specs.Settings.{allows, allows_caption, allows_position, allows_title, first_failed, first_of, has_room, printer_tests, setting_tests}

-- a valid position is near
pub near : (has : Bool) (at : Option (ℕ × ℕ)) → allows_position has at ≡ true →
    ((unwrap_or at (0, 0)).0 ≤ 18000) × ((unwrap_or at (0, 0)).1 ≤ 18000)
near has None valid = (omega arith, omega arith)
near true (Some at) valid = (grind (arith, nat_tests), grind (arith, nat_tests))
near false (Some at) valid = cc

-- a test that passes is not the first that fails
pub passed : (setting : Setting) (test : Bool) (more : List (Setting × Bool)) → test ≡ true → first_failed ((setting, test) ∷ more) ≡ first_failed more
passed setting true more holds = refl
passed setting false more holds = cc

-- where the first eight tests pass, the printer's are left
pub all_passed : (format : Format) (s : Settings) → allows true 1 64 s.scale ≡ true → allows true 0 16 s.quiet ≡ true →
    allows (has_millimetres format) 50 10000 s.module_um ≡ true → allows (has_dots format && is_none s.module_um) 500 24000 s.dpi_tenths ≡ true →
    (not s.inverted || can_be_inverted format) ≡ true →
    (allows_title (has_title format) (option_copied s.title) && has_room format (option_copied s.title)) ≡ true →
    allows_caption (has_caption format) (option_copied s.caption) ≡ true →
    allows_position (has_position format) s.at ≡ true → first_failed (setting_tests format s) ≡ first_failed (printer_tests format s)
all_passed format s scale quiet millimetres dots inverted title caption place =
    passed _ _ _ scale ∙ (passed _ _ _ quiet ∙ (passed _ _ _ millimetres ∙ (passed _ _ _ dots ∙ (passed _ _ _ inverted
    ∙ (passed _ _ _ title ∙ (passed _ _ _ caption ∙ passed _ _ _ place))))))

-- the first of two that failed
pub first_is : {A : Type 0} (r : Result A Setting) (f g other : Option Setting) → f ≡ g → IfErr r (λ setting. g ≡ Some setting) →
    IfErr r (λ setting. first_of f other ≡ Some setting)
first_is (Ok a) f g other same failed = tt
first_is (Err e) f g other same failed = ap (λ o. first_of o other) (same ∙ failed)

pub second_is : {A : Type 0} (r : Result A Setting) (f other : Option Setting) → f ≡ None → IfErr r (λ setting. other ≡ Some setting) →
    IfErr r (λ setting. first_of f other ≡ Some setting)
second_is (Ok a) f other none failed = tt
second_is (Err e) f other none failed = ap (λ o. first_of o other) none ∙ failed
