-- The last place of the window up to which the part fits.
use mir.Syntax.{w16}
use Rattle.qrcode_core.proofs.Prelude.{arith, nat_abs, to_z-of_z, ℕ, ◌-◌, ◌<◌, ◌≤◌, ◌≡◌, length}
use Rattle.std.specs.Prelude.{slice_index_or}
use Rattle.qrcode_bits.proofs.{Pairs.bytes_valid, Texts.length-slice}
use Rattle.qrcode_core.proofs.BestCuts.{places_order, place_inside, past_first, window_fits, window_last, nothing_is_short}
use Rattle.qrcode_core.proofs.symbol.cuts.last_fitting.Goals as goal

pub first_from-end-requires-clause-order : goal.first_from-end-requires-clause-order
first_from-end-requires-clause-order c = places_order c.args.content c.args.bytes.now c.args.places.now c.requires.places

pub slice_bounds-window-count : goal.slice_bounds-window-count
slice_bounds-window-count c =
    let some = past_first _ _ _ _ c.first_too_long.ensures.some (λ h. c.first_from-end.ensures.after c.args.first h c.requires.exists) in
    places_order c.args.content c.args.bytes.now c.args.places.now c.requires.places c.args.first (c.first_from-end.result - 1) (omega (arith, some))
    (omega (arith, some, c.first_from-end.ensures.within))

pub slice_bounds-window-start : goal.slice_bounds-window-start
slice_bounds-window-start c = slice_bounds-window-count c

pub part_range-requires-clause-short : goal.part_range-requires-clause-short
part_range-requires-clause-short c =
    let end : ℕ = c.first_from-end.result - 1 in
    let some = past_first _ _ _ _ c.first_too_long.ensures.some (λ h. c.first_from-end.ensures.after c.args.first h c.requires.exists) in
    let inside : end < length c.args.places.now = omega (arith, some, c.first_from-end.ensures.within) in
    let near = c.first_from-end.ensures.before end (omega (arith, some)) (omega (arith, some)) in
    let order = places_order c.args.content c.args.bytes.now c.args.places.now c.requires.places c.args.first end (omega (arith, some)) inside in
    let most = place_inside c.args.content c.args.bytes.now c.args.places.now c.requires.places end inside in
    let size = length-slice c.args.bytes.now (slice_index_or c.args.places.now c.args.first 0) (slice_index_or c.args.places.now end 0) order most in
    omega (arith, size, near, c.first_too_long.ensures.most)

pub first_from-past-requires-clause-order : goal.first_from-past-requires-clause-order
first_from-past-requires-clause-order c = places_order c.args.content c.args.bytes.now c.args.places.now c.requires.places

pub returns-then-first-places-clause-fits : goal.returns-then-first-places-clause-fits
returns-then-first-places-clause-fits c =
    let one : 1 ≤ nat_abs c.args.max_version = grind (arith, c.requires.limit) in
    nothing_is_short c.args.content c.args.bytes.now c.args.level (nat_abs c.args.max_version) (slice_index_or c.args.places.now c.args.first 0) one

pub returns-clause-from : goal.returns-clause-from
returns-clause-from c =
    let some = past_first _ _ _ _ c.first_too_long.ensures.some (λ h. c.first_from-end.ensures.after c.args.first h c.requires.exists) in
    let one = past_first _ _ _ _ (omega arith) (λ h. c.first_from-past.ensures.after c.args.first h c.requires.exists) in
    omega (arith, c.min.ensures, some, one)

pub returns-clause-fits : goal.returns-clause-fits
returns-clause-fits c =
    let same = to_z-of_z w16 c.args.max_version c.ranges.max_version in
    let valid = bytes_valid c.args.bytes.now (λ i. omega (arith, c.type_inv.bytes i)) in
    let range = rw same at c.in_ok-sure.ensures in
    let end : ℕ = c.first_from-end.result - 1 in
    let some = past_first _ _ _ _ c.first_too_long.ensures.some (λ h. c.first_from-end.ensures.after c.args.first h c.requires.exists) in
    let one = past_first _ _ _ _ (omega arith) (λ h. c.first_from-past.ensures.after c.args.first h c.requires.exists) in
    let from : c.args.first ≤ c.min.result = omega (arith, c.min.ensures, some, one) in
    let up_to : c.min.result ≤ end = omega (arith, c.min.ensures) in
    let inside : end < length c.args.places.now = omega (arith, some, c.first_from-end.ensures.within) in
    let near = c.first_from-past.ensures.before c.min.result from (omega (arith, c.min.ensures, one)) in
    window_fits c.args.content c.args.bytes.now c.args.level (nat_abs c.args.max_version) valid c.args.places.now c.requires.places c.args.first end
    (omega (arith, some)) inside c.first_too_long.result (λ i more k. c.first_from-end.ensures.after i (omega (arith, more)) k)
    (rw same at c.first_too_long.ensures.too_long) c.in_ok-sure.sure c.in_ok-sure._past
    (record { fits = range.fits; too_long = range.too_long; close = range.close }) c.min.result from up_to
    (omega (arith, near))

pub returns-clause-last : goal.returns-clause-last
returns-clause-last c =
    let same = to_z-of_z w16 c.args.max_version c.ranges.max_version in
    let valid = bytes_valid c.args.bytes.now (λ i. omega (arith, c.type_inv.bytes i)) in
    let range = rw same at c.in_ok-sure.ensures in
    let end : ℕ = c.first_from-end.result - 1 in
    let some = past_first _ _ _ _ c.first_too_long.ensures.some (λ h. c.first_from-end.ensures.after c.args.first h c.requires.exists) in
    let one = past_first _ _ _ _ (omega arith) (λ h. c.first_from-past.ensures.after c.args.first h c.requires.exists) in
    let from : c.args.first ≤ c.min.result = omega (arith, c.min.ensures, some, one) in
    let up_to : c.min.result ≤ end = omega (arith, c.min.ensures) in
    let inside : end < length c.args.places.now = omega (arith, some, c.first_from-end.ensures.within) in
    window_last c.args.content c.args.bytes.now c.args.level (nat_abs c.args.max_version) valid c.args.places.now c.requires.places c.args.first end
    (omega (arith, some)) inside c.first_too_long.result (λ i more k. c.first_from-end.ensures.after i (omega (arith, more)) k)
    (rw same at c.first_too_long.ensures.too_long) c.in_ok-sure.sure c.in_ok-sure._past
    (record { fits = range.fits; too_long = range.too_long; close = range.close }) c.min.result from up_to
    (λ i h k. (let far = c.first_from-past.ensures.after i (omega (arith, c.min.ensures, h, k)) (omega (arith, k, inside)) in omega (arith, far)))
