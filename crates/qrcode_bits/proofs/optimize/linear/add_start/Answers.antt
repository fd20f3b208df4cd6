use Rattle.qrcode_bits.proofs.Grouping.{adds-four}
use Rattle.qrcode_bits.proofs.optimize.linear.add_start.Goals as goal

pub returns-clause-added : goal.returns-clause-added
returns-clause-added g c = adds-four _ _ _ _ _ _ _ _ _ c.add_to_bucket.ensures.added c.add_to_bucket-2.ensures.added
    c.add_to_bucket-3.ensures.added c.add_to_bucket-4.ensures.added
