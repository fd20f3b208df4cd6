use Rattle.qrcode_grid.proofs.Prelude.{◌≡◌, ◌<◌, ap, ◌∙◌, sym, arith, length, get_or, slice_get, slice_get-get_or, Some, family, normal_number, length-set}
use Rattle.qrcode_grid.specs.declared.canvas.MaskPattern.TheVariants.{Checkerboard}
use Rattle.qrcode_grid.proofs.Families.{next_word, place_of_mask}
use Rattle.std.proofs.Common.{set}
use Rattle.qrcode_grid.proofs.canvas.masks.format_words.Goals as goal

pub loop-number-preserved : goal.loop-number-preserved
loop-number-preserved c =
    let v = c.args.version in let i = c.loop-number.number in let words = c.loop-number.words in
    let masks = c.family_of-family.ensures in
    let mask = get_or c.family_of-family.result.now i Checkerboard in
    let inside : i < length (family v) = omega (arith, c.loop-number-test.true, ap length masks) in
    let here : slice_get (family v) i ≡ Some mask =
    slice_get-get_or (family v) i Checkerboard inside ∙ ap (λ ms. Some (get_or ms i Checkerboard)) (sym masks) in
    let next = next_word v c.args.level words i c.format_word.result mask c.loop-number.invariant.size here (c.format_word.ensures mask here)
    c.loop-number.invariant.done in
    record {
      size = length-set words _ _ ∙ c.loop-number.invariant.size;
      done = λ j p below e.
          ap (λ n. get_or (set words n c.format_word.result) (normal_number p) 0) c.normal_number.ensures.is ∙ next j p below e;
    }

pub returns : goal.returns
returns c = λ p known.
    let at = place_of_mask c.args.version p known in
    c.loop-number.invariant.done at.0 p (omega (arith, at.1, c.loop-number-test.false, ap length c.family_of-family.ensures)) at.2
