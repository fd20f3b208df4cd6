-- What holds the sum holds the header and the bits.
use Rattle.smallest_symbols.proofs.PartVersions.{first_sum, none_sum, none_weaker, some_weaker}
use Rattle.smallest_symbols.proofs.part_choice.first_holding_part.Goals as goal

pub returns-clause-found : goal.returns-clause-found
returns-clause-found c =
    some_weaker c.first_holding.result
    (first_sum c.args.bits c.saturating_add.result c.args.level c.args.first c.args.end c.saturating_add.ensures) c.first_holding.ensures.found

pub returns-clause-none : goal.returns-clause-none
returns-clause-none c =
    none_weaker c.first_holding.result
    (none_sum c.args.bits c.saturating_add.result c.args.level c.args.first c.args.end c.saturating_add.ensures) c.first_holding.ensures.none
