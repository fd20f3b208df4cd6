-- The options are those that were made.
use Rattle.uses.proofs.pictures.picture_of.Goals as goal

pub returns-in-Ok-draw-clause-shown : goal.returns-in-Ok-draw-clause-shown
returns-in-Ok-draw-clause-shown c = record {
  options = c.in-Ok.options;
  valid = c.in-Ok.ensures.valid;
  made = c.in-Ok.ensures.made;
  shows = c.in-Ok-draw.ensures;
}
