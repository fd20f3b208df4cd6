use Rattle.qrcode_bits.proofs.Prelude.{◌≡◌, ◌+◌, length, refl, sym, subst, arith, Text, ArePlacesBefore}
use Rattle.qrcode_bits.proofs.bits.places.character_ends.Goals.{then-is_character_start+in_ok-push, else-is_character_start}
use Rattle.qrcode_bits.proofs.CutPlaces.{none_before, one_place, no_place, last_end}
use Rattle.qrcode_bits.proofs.bits.places.character_ends.Goals as goal

pub loop-at-init : goal.loop-at-init
loop-at-init c = subst (ArePlacesBefore 0 Text c.args.text.now) (sym c.new-places.ensures.items) (none_before Text c.args.text.now)

pub loop-at-preserved : goal.loop-at-preserved
loop-at-preserved c =
    let text = c.args.text.now in
    let at = c.loop-at.at in
    elim c.if-is_character_start.branch [
      | then-is_character_start+in_ok-push w ↦
          rw w.places-is (subst (ArePlacesBefore (at + 1) Text text) (sym w.in_ok-push.ensures.items)
          (one_place Text text at (at + 1) c.loop-at.places.items c.loop-at.invariant (w.if-is_character_start.ensures.0 refl) (omega arith)
          (λ p h k l. omega (arith, k, l))))
      | else-is_character_start w ↦
          rw w.places-is (no_place Text text at c.loop-at.places.items c.loop-at.invariant (λ h. let e = c.is_character_start.ensures.1 h in cc))
    ]

pub returns : goal.returns
returns c =
    let text = c.args.text.now in
    let end : c.loop-at.at ≡ length text = omega (arith, c.loop-at-test.false, c.loop-at.auto.at-end) in
    subst (ArePlacesBefore (length text + 1) Text text) (sym c.in_ok-push-2.ensures.items)
    (last_end Text text c.loop-at.places.items (length text) refl (subst (λ n. ArePlacesBefore n Text text c.loop-at.places.items) end c.loop-at.invariant)
    (omega arith, λ h k. absurd (omega (arith, k))))
