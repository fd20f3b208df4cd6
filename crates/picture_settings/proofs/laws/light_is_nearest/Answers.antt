-- The law of luminance.
use Rattle.picture_settings.proofs.LightLemmas.{light_is_nearest}
use Rattle.picture_settings.proofs.laws.light_is_nearest.Goals as goal

pub returns : goal.returns
returns c = light_is_nearest
