-- The character stands between two places, one after the other.
use Rattle.std.proofs.Common.{◌+◌, arith}
use Rattle.qrcode_bits.specs.declared.bits.front.Content.TheVariants.{Text}
use Rattle.qrcode_core.proofs.BestCuts.{places_order}
use Rattle.smallest_symbols.proofs.FewestCuts.{stuck_at}
use Rattle.smallest_symbols.proofs.text_cuts.is_stuck.Goals as goal

pub range-part-requires-clause-start_le_end : goal.range-part-requires-clause-start_le_end
range-part-requires-clause-start_le_end c =
    let index = c.ascii_places-index.result in
    places_order Text c.args.text.now c.args.places.now c.requires.places index (index + 1) (omega arith) (grind arith)

pub returns-in-None-clause-stuck : goal.returns-in-None-clause-stuck
returns-in-None-clause-stuck c _ =
    let index = c.ascii_places-index.result in
    stuck_at c.args.manner c.args.text.now c.args.level c.args.limit c.utf8.text c.args.places.now c.requires.places index (grind arith)
    (rw c.range-part.ensures.value at (rw c.in-None.is at c.in_ok-fitting_bits.ensures.too_long))
