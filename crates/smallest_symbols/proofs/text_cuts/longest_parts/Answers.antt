use Rattle.std.proofs.Common.{arith, ◌+◌, ◌<◌, ◌≡◌, length}
use Rattle.smallest_symbols.proofs.FewestCuts.{all_cut, none_at_all, none_left, nothing_cut}
use Rattle.smallest_symbols.proofs.FewestCuts.{one_cut}
use Rattle.smallest_symbols.proofs.text_cuts.longest_parts.Goals as goal

pub loop-count-init : goal.loop-count-init
loop-count-init c =
    rw c.new-cuts.ensures.items
    (nothing_cut c.args.manner c.args.text.now c.args.level c.args.limit c.utf8.text c.args.places.now c.requires.places)

pub returns-then-last-places-clause-fewest : goal.returns-then-last-places-clause-fewest
returns-then-last-places-clause-fewest c =
    let places = c.args.places.now in
    let found = c.in_ok-last.ensures in
    let end : c.in_ok-last.last + 1 ≡ length places = grind (arith, c.if-last-places) in
    all_cut c.args.manner c.args.text.now c.args.level c.args.limit c.utf8.text places c.requires.places
    c.loop-count.first c.in_ok-last.last c.loop-count.count
    c.loop-count.cuts.items c.loop-count.invariant found.from found.exists found.fits found.last (omega (arith, c.loop-count-test.true)) end

pub returns-then-last-first-clause-none : goal.returns-then-last-first-clause-none
returns-then-last-first-clause-none c =
    let places = c.args.places.now in
    let found = c.in_ok-last.ensures in
    let before_end : c.in_ok-last.last + 1 < length places = grind (arith, c.if-last-places, found.exists) in
    none_at_all c.args.manner c.args.text.now c.args.level c.args.limit c.utf8.text places c.requires.places
    c.loop-count.first c.in_ok-last.last c.loop-count.count
    c.loop-count.cuts.items c.loop-count.invariant (omega (arith, c.if-last-first.true, found.from)) found.last before_end

pub loop-count-preserved : goal.loop-count-preserved
loop-count-preserved c =
    let places = c.args.places.now in
    let found = c.in_ok-last.ensures in
    let before_end : c.in_ok-last.last + 1 < length places = grind (arith, c.if-last-places, found.exists) in
    rw c.in_ok-push.ensures.items
    (one_cut c.args.manner c.args.text.now c.args.level c.args.limit c.utf8.text places c.requires.places
    c.loop-count.first c.in_ok-last.last c.loop-count.count
    c.loop-count.cuts.items c.loop-count.invariant found.from found.exists found.fits found.last before_end)

pub returns-clause-none : goal.returns-clause-none
returns-clause-none c =
    none_left c.args.manner c.args.text.now c.args.level c.args.limit c.utf8.text c.args.places.now c.requires.places
    c.loop-count.first c.loop-count.count c.loop-count.cuts.items c.loop-count.invariant (omega (arith, c.loop-count-test.false))
