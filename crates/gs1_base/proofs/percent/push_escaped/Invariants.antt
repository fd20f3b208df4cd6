use Rattle.std.proofs.Common.{◌≡◌, ◌++◌, take}
use Rattle.gs1_base.specs.Percent.{percent_text}
use Rattle.gs1_base.proofs.percent.push_escaped.Given as goal

abbrev pub invariant-loop-byte : goal.invariant-loop-byte
invariant-loop-byte l = l.text.items ≡ l.fn.text.items ++ percent_text (take l.byte-index l.bytes)
