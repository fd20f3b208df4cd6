-- Each place that is tried leaves fewer.
use Rattle.std.proofs.Common.{◌<◌, arith, length}
use Rattle.std.specs.Prelude.{slice_index_or}
use Rattle.qrcode_bits.specs.declared.bits.front.Content.TheVariants.{Text}
use Rattle.qrcode_core.proofs.BestCuts.{is_place, places_order}
use Rattle.smallest_symbols.proofs.FewestCuts.{later_too_long}
use Rattle.smallest_symbols.proofs.Slices.{far_place, nothing_fits_one, place_boundary}
use Rattle.smallest_symbols.proofs.text_cuts.last_fitting.Goals as goal

pub loop-high-init : goal.loop-high-init
loop-high-init c = record {
  from = omega arith;
  order = omega (arith, c.requires.exists, c.first_too_long.ensures.some);
  inside = omega (arith, c.requires.exists);
  fits = nothing_fits_one c.args.manner c.args.text.now c.args.level c.args.limit (slice_index_or c.args.places.now c.args.first 0) c.requires.some;
  after = λ i past inside.
      far_place c.args.text.now c.utf8.text c.args.places.now c.requires.places c.args.level c.args.limit c.first_too_long.result
      c.first_too_long.ensures.too_long c.args.manner c.args.first i (omega (arith, past, inside)) inside;
}

pub range-part-requires-clause-start_le_end : goal.range-part-requires-clause-start_le_end
range-part-requires-clause-start_le_end c =
    let middle = c.between-middle.result in
    places_order Text c.args.text.now c.args.places.now c.requires.places c.args.first middle
    (omega (arith, c.loop-high.invariant.from, c.between-middle.ensures.above)) (omega (arith, c.loop-high.invariant.inside, c.between-middle.ensures.below))

pub range-part-requires-clause-end_boundary : goal.range-part-requires-clause-end_boundary
range-part-requires-clause-end_boundary c =
    let middle = c.between-middle.result in
    place_boundary c.args.text.now (slice_index_or c.args.places.now middle 0) c.utf8.text
    (is_place Text c.args.text.now c.args.places.now c.requires.places middle
    (omega (arith, c.loop-high.invariant.inside, c.between-middle.ensures.below)))

pub loop-high-preserved-in-Some : goal.loop-high-preserved-in-Some
loop-high-preserved-in-Some c =
    let found = rw c.range-part.ensures.value at (rw c.in-Some.is at c.in_ok-bits.ensures.fits) in
    record {
      from = omega (arith, c.loop-high.invariant.from, c.between-middle.ensures.above);
      order = c.between-middle.ensures.below;
      inside = c.loop-high.invariant.inside;
      fits = found;
      after = c.loop-high.invariant.after;
    }

pub loop-high-preserved : goal.loop-high-preserved
loop-high-preserved c =
    let found = rw c.range-part.ensures.value at (rw c.in_default.is at c.in_ok-bits.ensures.too_long) in
    let middle = c.between-middle.result in
    let within : middle < length c.args.places.now = omega (arith, c.loop-high.invariant.inside, c.between-middle.ensures.below) in
    record {
      from = c.loop-high.invariant.from;
      order = c.between-middle.ensures.above;
      inside = omega (arith, within);
      fits = c.loop-high.invariant.fits;
      after = λ i past inside.
          later_too_long c.args.manner c.args.text.now c.args.level c.args.limit c.utf8.text (slice_index_or c.args.places.now c.args.first 0)
          (slice_index_or c.args.places.now middle 0) (slice_index_or c.args.places.now i 0)
          (places_order Text c.args.text.now c.args.places.now c.requires.places c.args.first middle
          (omega (arith, c.loop-high.invariant.from, c.between-middle.ensures.above)) within)
          (places_order Text c.args.text.now c.args.places.now c.requires.places middle i past inside)
          (is_place Text c.args.text.now c.args.places.now c.requires.places c.args.first c.requires.exists)
          (is_place Text c.args.text.now c.args.places.now c.requires.places middle within) found;
    }

pub returns-clause-last : goal.returns-clause-last
returns-clause-last c later more inside =
    c.loop-high.invariant.after later (omega (arith, c.loop-high-test.false, more)) inside
