use Rattle.std.proofs.Common.{◌≡◌, ◌≤◌, ◌+◌, ◌*◌, length}
use Rattle.std.specs.Option.{option_map, option_map_or}
use Rattle.gs1.specs.Together.{first_conflict}
use Rattle.gs1_links.specs.LinkFaults.{elements_in, elements_left}
use Rattle.gs1_links.proofs.link_together.check_all.Given as goal

abbrev pub invariant-loop-next : goal.invariant-loop-next
invariant-loop-next l =
    (first_conflict (elements_in l.link.path.now l.link.query.now) l.element
    (elements_left (option_map (λ t. t.now) l.left.path) (option_map (λ t. t.now) l.left.query))
    ≡ first_conflict (elements_in l.link.path.now l.link.query.now) 0 (elements_in l.link.path.now l.link.query.now))
    × (2 * l.element + (option_map_or (λ t. length t.now + 1) l.left.path 0 + 2 * option_map_or (λ t. length t.now + 1) l.left.query 0)
    ≤ length l.link.path.now + 2 * length l.link.query.now + 3)

abbrev pub decreases-loop-next : goal.decreases-loop-next
decreases-loop-next l = option_map_or (λ t. length t.now + 1) l.left.path 0 + 2 * option_map_or (λ t. length t.now + 1) l.left.query 0
