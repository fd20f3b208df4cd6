-- The level falls.
use Rattle.qrcode_base.specs.Symbols.{column_of_level}
use Rattle.qrcode_core.proofs.symbol.asked.+stronger.Given as goal

abbrev pub decreases-stronger : goal.decreases-stronger
decreases-stronger l = column_of_level l.level
