-- The table of light, computed.
use Rattle.std.proofs.Common.{◌≡◌, true, map, get_or, refl, sym, ◌∙◌, ap, arith}
use Rattle.std.specs.List.{range_with_len}
use Rattle.std.proofs.lemmas.List.FromFn.{get_or-map-range_with_len}
use Rattle.picture_settings.specs.Colors.{LightIsNearest, channel_light, is_light}

all_nearest : map (λ v. is_light v (channel_light v)) (range_with_len 0 256) ≡ map (λ v. true) (range_with_len 0 256)
all_nearest = refl

pub light_is_nearest : LightIsNearest
light_is_nearest v small =
    sym (get_or-map-range_with_len (λ w. is_light w (channel_light w)) 0 256 v v true small (omega arith))
    ∙ ap (λ l. get_or l v true) all_nearest
    ∙ get_or-map-range_with_len (λ w. true) 0 256 v v true small (omega arith)
