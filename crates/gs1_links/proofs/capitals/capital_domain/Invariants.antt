use Rattle.std.proofs.Common.{◌≡◌, ◌++◌, drop}
use Rattle.gs1_links.specs.Capitals.{capital_domain, written_behind}
use Rattle.gs1_links.proofs.capitals.capital_domain.Given as goal

abbrev pub invariant-loop-byte : goal.invariant-loop-byte
invariant-loop-byte l = l.capitals.items ++ written_behind l.in_host (drop l.byte-index l.domain) ≡ capital_domain l.domain
