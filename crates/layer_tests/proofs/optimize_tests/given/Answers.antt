-- The iterator returns the segments of the slice.
use Rattle.std.proofs.Common.{rules, ◌≡◌, ◌≤◌, ◌∙◌, List, length, sym, subst}
use Rattle.std.proofs.lemmas.Iterator.{YieldsList-from_slice, items_from_drains}
use Rattle.std.proofs.lemmas.Iterator.Consumers.{YieldsList-from_copied}
use Rattle.std.proofs.lemmas.List.{map-id}
use Rattle.qrcode_bits.specs.declared.optimize.Segment.{Segment}
use Rattle.qrcode_bits.specs.Plans.{HasLinearCosts}
use Rattle.layer_tests.proofs.optimize_tests.given.Goals as goal

pub new-requires-clause-linear : goal.new-requires-clause-linear
new-requires-clause-linear c = λ xs drains.
    let gives = YieldsList-from_copied (YieldsList-from_slice c.args.segments.now (search rules)) in
    let same : c.args.segments.now ≡ xs = sym (sym (map-id xs) ∙ items_from_drains xs (drains.1.0, drains.1.1, λ _. (drains.0, drains.1.2)) gives) in
    subst (λ (z : List Segment). 2 ≤ length z → HasLinearCosts z c.args.version) same c.requires.linear
