use Rattle.std.proofs.Common.{◌∙◌, add-one, sym}
use Rattle.qrcode_core.specs.Plugins.{render_options}
use Rattle.picture_settings.specs.Configs.{all_settings, is_wrong}
use Rattle.picture_settings.proofs.ConfigLemmas.{past}
use Rattle.picture_settings.proofs.config.wrong_option.Goals as goal

pub loop-setting-preserved : goal.loop-setting-preserved
loop-setting-preserved c =
    rw add-one (past (is_wrong c.args.format (render_options c.args.config.now)) all_settings c.loop-setting.setting-index _ c.loop-setting-test.true
    (sym c.is_wrong.ensures ∙ c.if-is_wrong.false)
    ∙ c.loop-setting.invariant)
