use Rattle.std.proofs.Common.{◌≡◌, ◌≤◌, ◌+◌, ◌*◌, length}
use Rattle.std.specs.Option.{option_map, option_map_or}
use Rattle.gs1.specs.Together.{first_among}
use Rattle.gs1_links.specs.LinkFaults.{elements_in, elements_left}
use Rattle.gs1_links.proofs.link_together.LinkPartsElementList.first_among.Given as goal

abbrev pub invariant-loop-next : goal.invariant-loop-next
invariant-loop-next l =
    (first_among l.ranges l.element
    (elements_left (option_map (λ t. t.now) l.left.path) (option_map (λ t. t.now) l.left.query))
    ≡ first_among l.ranges 0 (elements_in l.self.path.now l.self.query.now))
    × (2 * l.element + (option_map_or (λ t. length t.now + 1) l.left.path 0 + 2 * option_map_or (λ t. length t.now + 1) l.left.query 0)
    ≤ length l.self.path.now + 2 * length l.self.query.now + 3)

abbrev pub decreases-loop-next : goal.decreases-loop-next
decreases-loop-next l = option_map_or (λ t. length t.now + 1) l.left.path 0 + 2 * option_map_or (λ t. length t.now + 1) l.left.query 0
