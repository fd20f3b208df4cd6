-- Few parsed segments have linear costs, and their chosen plan takes few bits.
use Rattle.smallest_symbols.proofs.ByteCosts.{few_bits, linear, ordered}
use Rattle.smallest_symbols.proofs.byte_choice.least_plan.Goals as goal

pub optimize_segments-requires-clause-linear : goal.optimize_segments-requires-clause-linear
optimize_segments-requires-clause-linear c = λ many. linear c.args.segments.now c.requires.parsed c.args.version c.requires.small

pub total_encoded_len-bits-requires-clause-ordered : goal.total_encoded_len-bits-requires-clause-ordered
total_encoded_len-bits-requires-clause-ordered c =
    rw c.deref.ensures.value (ordered c.args.segments.now c.requires.parsed c.args.version c.requires.small _ c.in_ok-plan.ensures.plan)

pub total_encoded_len-bits-requires-clause-fits : goal.total_encoded_len-bits-requires-clause-fits
total_encoded_len-bits-requires-clause-fits c =
    rw c.deref.ensures.value (few_bits c.args.segments.now c.requires.parsed c.args.version c.requires.small _ c.in_ok-plan.ensures.plan)
