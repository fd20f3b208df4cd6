-- The law of rectangles.
use Rattle.grid_pictures.proofs.CoverLemmas.{covers_dark_modules}
use Rattle.grid_pictures.proofs.laws.rectangles_cover_dark_modules.Goals as goal

pub returns : goal.returns
returns c = covers_dark_modules
