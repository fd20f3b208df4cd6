-- The picture that a `Picture` of the program is. It is not in `Pictures`, since the
-- contracts of the file that declares the type use `Pictures`: that would be an import cycle.
use Rattle.qrcode_core.specs.Grids.{grid_of}
use Rattle.grid_pictures.specs.declared.picture.Picture.{Picture as Lent}
use Rattle.grid_pictures.specs.Pictures.{Picture, picture}

-- The picture of a borrowed grid.
abbrev pub shown : Lent → Picture
shown p = picture (grid_of p.modules.now p.columns p.rows) p.scale p.quiet
