use Rattle.std.proofs.Common.{◌≡◌, ◌≤◌, drop}
use Rattle.gs1_base.specs.Domains.{number_after}
use Rattle.gs1_base.proofs.domain.is_port_number.Given as goal

abbrev pub invariant-loop-digit : goal.invariant-loop-digit
invariant-loop-digit l =
    (number_after l.number (drop l.digit-index l.port) ≡ number_after 0 l.port) × (l.number ≤ 65535)
