-- The symbols of the first parts are made, and each returns its reading.
use Rattle.qrcode_core.proofs.Prelude.{map, nat_abs, All, TellsReading, modules_of}
use Rattle.qrcode_core.proofs.Sequences.{AreFirstSymbols}
use Rattle.qrcode_core.proofs.symbol.sequence.symbols_of.Given as goal

abbrev pub invariant-loop-index : goal.invariant-loop-index
invariant-loop-index l = record {
  first : AreFirstSymbols l.content l.bytes l.cuts l.level (nat_abs l.max_version) l.total l.index (map modules_of l.symbols.items);
  reading : All TellsReading l.symbols.items;
}
