-- Nothing fits a smaller version.
use Rattle.std.proofs.Common.{chars}
use Rattle.qrcode_bits.specs.Plans.{micro}
use Rattle.smallest_symbols.specs.TextFrames.{NoVersionFits}
use Rattle.smallest_symbols.proofs.text_choice.chosen_micro.Given as goal

abbrev pub invariant-loop-smaller : goal.invariant-loop-smaller
invariant-loop-smaller l = NoVersionFits micro l.level (chars l.text) l.smaller
