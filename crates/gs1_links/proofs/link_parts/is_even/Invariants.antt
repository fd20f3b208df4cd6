use Rattle.std.proofs.Common.{◌≡◌, ◌+◌, ◌%◌, length}
use Rattle.std.specs.Prelude.{◌==◌}
use Rattle.std.proofs.Common.{cond, not}
use Rattle.std.specs.Option.{option_map, option_map_or}
use Rattle.gs1_base.specs.Domains.{is_slash}
use Rattle.gs1_links.specs.LinkFaults.{cut_parts}
use Rattle.gs1_links.proofs.link_parts.is_even.Given as goal

abbrev pub invariant-loop-rest : goal.invariant-loop-rest
invariant-loop-rest l =
    cond l.even (length (cut_parts is_slash (option_map (λ t. t.now) l.rest)) % 2 == 0)
    (not (length (cut_parts is_slash (option_map (λ t. t.now) l.rest)) % 2 == 0))
    ≡ (length (cut_parts is_slash (option_map (λ t. t.now) l.path)) % 2 == 0)

abbrev pub decreases-loop-rest : goal.decreases-loop-rest
decreases-loop-rest l = option_map_or (λ t. length t.now + 1) l.rest 0
