-- The rectangles of the columns so far are written, and a run begins here.
use Rattle.std.proofs.Common.{◌≡◌, ◌-◌, ◌*◌, ◌≤◌, ◌<◌, take, true}
use Rattle.grid_pictures.specs.{Paths.begins_run, Paths.row_path, Pens.rectangle_by, Pictures.columns_of, Pictures.is_dark_module, Picture.shown}
use Rattle.grid_pictures.proofs.path.write_row.Given as goal

abbrev pub invariant-runs : goal.invariant-runs
invariant-runs l = record {
  inside : l.x ≤ columns_of (shown l.picture);
  room : l.end ≤ 17 * l.x;
  dark : l.x < columns_of (shown l.picture) → is_dark_module (shown l.picture) l.x l.y ≡ true;
  begins : l.x < columns_of (shown l.picture) → begins_run (shown l.picture) l.x l.y ≡ true;
  text : take l.end l.line ≡ row_path (rectangle_by l.pen) (shown l.picture) l.y l.x;
}

abbrev pub decreases-runs : goal.decreases-runs
decreases-runs l = columns_of (shown l.picture) - l.x
