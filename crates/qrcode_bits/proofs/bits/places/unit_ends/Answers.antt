use Rattle.qrcode_bits.proofs.Prelude.{◌≡◌, ◌+◌, ◌≤◌, ◌∷◌, sym, subst, arith, drop, Bytes, Pair, class_of, units, slice_index_or, ArePlacesBefore}
use Rattle.qrcode_bits.proofs.bits.places.unit_ends.Goals.{then-is_pair_at, else-is_pair_at}
use Rattle.qrcode_bits.proofs.{CutPlaces.none_before, CutPlaces.start_end, CutPlaces.step_end, CutPlaces.last_end, Adjoining.class_of-one}
use Rattle.qrcode_bits.proofs.bits.places.unit_ends.Goals as goal

pub loop-at-init : goal.loop-at-init
loop-at-init c = (
  subst (ArePlacesBefore 0 Bytes c.args.bytes.now) (sym c.new-places.ensures.items) (none_before Bytes c.args.bytes.now),
  start_end c.args.bytes.now,
  omega arith,
)

pub loop-at-preserved : goal.loop-at-preserved
loop-at-preserved c =
    let bytes = c.args.bytes.now in
    let at = c.loop-at.at in
    let next = at + c.if-is_pair_at.at in
    let old = c.loop-at.invariant in
    let items = c.in_ok-push.ensures.items in
    elim c.if-is_pair_at.branch [
      | then-is_pair_at w ↦
          let here : units (drop at bytes) ≡ Pair ∷ units (drop (at + 2) bytes) = grind (arith, c.is_pair_at.ensures.pair, w.if-is_pair_at) in
          let few : at + 2 ≤ Rattle.qrcode_bits.proofs.Prelude.length bytes = grind (arith, c.is_pair_at.ensures.inside, w.if-is_pair_at) in
          let s = step_end bytes c.loop-at.places.items at next Pair (units (drop (at + 2) bytes)) old.0 old.1 here (omega (arith, w.at-is))
          (omega (arith, w.at-is)) in
          (subst (ArePlacesBefore next Bytes bytes) (sym items) s.0, s.1, omega (arith, w.at-is, few))
      | else-is_pair_at w ↦
          let lone = class_of (slice_index_or bytes at 0) in
          let here : units (drop at bytes) ≡ lone ∷ units (drop (at + 1) bytes) = grind (arith, c.is_pair_at.ensures.alone, w.if-is_pair_at, c.loop-at-test) in
          let one = class_of-one (slice_index_or bytes at 0) in
          let s = step_end bytes c.loop-at.places.items at next lone (units (drop (at + 1) bytes)) old.0 old.1 here (omega (arith, w.at-is, one))
          (omega (arith, w.at-is)) in
          (subst (ArePlacesBefore next Bytes bytes) (sym items) s.0, s.1, omega (arith, w.at-is, c.loop-at-test.true))
    ]

pub returns : goal.returns
returns c =
    let old = c.loop-at.invariant in
    subst (ArePlacesBefore _ Bytes c.args.bytes.now) (sym c.in_ok-push-2.ensures.items)
    (last_end Bytes c.args.bytes.now c.loop-at.places.items c.loop-at.at (omega (arith, c.loop-at-test.false, old.2)) old.0 old.1)
