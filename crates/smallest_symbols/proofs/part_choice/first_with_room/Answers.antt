-- What version 9 and version 26 hold decides.
use Rattle.smallest_symbols.proofs.PartVersions.{no_room_large}
use Rattle.smallest_symbols.proofs.part_choice.first_with_room.Goals as goal

pub returns-then-count-gt3282-clause-none : goal.returns-then-count-gt3282-clause-none
returns-then-count-gt3282-clause-none c = no_room_large c.args.count c.if-count-gt3282.true
