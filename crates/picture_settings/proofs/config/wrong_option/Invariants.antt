-- No option so far is wrong.
use Rattle.std.proofs.Common.{◌≡◌, drop}
use Rattle.std.specs.List.{find}
use Rattle.qrcode_core.specs.Plugins.{render_options}
use Rattle.picture_settings.specs.Configs.{all_settings, is_wrong}
use Rattle.picture_settings.proofs.config.wrong_option.Given as goal

abbrev pub invariant-loop-setting : goal.invariant-loop-setting
invariant-loop-setting l =
    find (is_wrong l.format (render_options l.config)) (drop l.setting-index all_settings)
    ≡ find (is_wrong l.format (render_options l.config)) all_settings
