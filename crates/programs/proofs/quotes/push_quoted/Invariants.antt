-- What was written so far, and what is left, are the bytes between the quotes.
use Rattle.std.proofs.Common.{◌≡◌, ◌++◌, drop, false, List, ℕ}
use Rattle.std.specs.Io.KnownBytes.{Appends}
use Rattle.programs.specs.Quotes.{quoted_from}
use Rattle.programs.proofs.quotes.push_quoted.Given as goal

abbrev pub invariant-loop-byte : goal.invariant-loop-byte
invariant-loop-byte g l = record {
  text : List ℕ;
  sent : Appends (g.E.Sink.state l.initial.errors).written (g.E.Sink.state l.errors).written text;
  whole : text ++ quoted_from l.escaped (drop l.byte-index l.word) ≡ quoted_from false l.word;
  sound : (g.E.Sink.state l.errors).failed ≡ false;
}
