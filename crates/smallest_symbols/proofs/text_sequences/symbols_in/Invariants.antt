-- The symbols of the first parts are made, and each returns its reading.
use Rattle.std.proofs.Common.{map}
use Rattle.std.specs.Prelude.{All}
use Rattle.qrcode_core.specs.Symbol.{modules_of}
use Rattle.smallest_symbols.specs.TextHeadline.{TellsTextReading}
use Rattle.smallest_symbols.proofs.TextMessages.{AreFirstSymbols}
use Rattle.smallest_symbols.proofs.text_sequences.symbols_in.Given as goal

abbrev pub invariant-loop-index : goal.invariant-loop-index
invariant-loop-index l = record {
  first : AreFirstSymbols l.manner l.text l.cuts l.level l.limit l.total l.index (map modules_of l.symbols.items);
  reading : All TellsTextReading l.symbols.items;
}
