-- One byte more, and all of them.
use Rattle.std.proofs.Common.{◌≡◌, ℕ, ◌+◌, ◌*◌, ◌<◌, ◌≤◌, ◌∙◌, inl, inr, length, length-set, take, ap, sym, subst, map, arith}
use Rattle.std.specs.Prelude.{min}
use Rattle.std.specs.List.{range_with_len}
use Rattle.std.proofs.Math.Nat.{mul-le-mul_right}
use Rattle.std.proofs.lemmas.Bool.{cases_lt}
use Rattle.grid_pictures.specs.{Bitmaps.pixel_byte, Rows.dark_byte, Picture.shown}
use Rattle.grid_pictures.proofs.{BitmapLemmas.spelled, RunLemmas.picture_byte}
use Rattle.grid_pictures.proofs.PackedLemmas.{byte_within, front_row, groups_end, kept_bytes, one_byte, pixel_of}
use Rattle.grid_pictures.proofs.bitmap.write_narrow.Goals as goal

pub eight_modules-requires-clause-bytes : goal.eight_modules-requires-clause-bytes
eight_modules-requires-clause-bytes c =
    c.write_bytes.ensures ∙ ap (λ n. map (dark_byte c.row-row.result) (range_with_len 0 n)) (sym c.write_bytes.auto.line)

pub loop-i-preserved : goal.loop-i-preserved
loop-i-preserved c =
    let p = shown c.args.picture.now in
    let scale = c.scale-scale.result in
    let first = c.loop-group.group * scale in
    let i = c.loop-i.i in
    let f = pixel_of c.row-row.result scale in
    let most : first ≤ 26 * scale = mul-le-mul_right scale (omega (arith, c.loop-group-test.true, c.div_ceil-group-end.ensures, c.columns.ensures.bound)) in
    let inside : first + i < length c.loop-i.bytes =
    omega (arith, most, c.loop-i-test.true, c.loop-i.invariant.long, c.requires.narrow, c.scale-scale.ensures.exact) in
    let here : (8 * c.loop-group.group) * scale + 8 * i ≡ 8 * (first + i) = grind arith in
    record {
      long = length-set c.loop-i.bytes (first + i) _ ∙ c.loop-i.invariant.long;
      written = elim (cases_lt i scale) [
        | inl within ↦ (
            let same : first + min i scale ≡ first + i = omega (arith, within) in
            let byte = byte_within f ((8 * c.loop-group.group) * scale) scale i c.eight_modules.result c.eight_modules.ensures within
            (omega (arith, c.requires.narrow, c.scale-scale.ensures.exact))
            ∙ (ap (λ x. spelled f x 8) here
            ∙ picture_byte p c.row-row.result c.args.y (first + i) scale c.scale-scale.ensures.exact c.row-row.ensures.dark) in
            one_byte p c.args.y (first + i) (first + min (i + 1) scale) _ c.loop-i.bytes (omega (arith, within)) inside
            (subst (λ (n : ℕ). take n c.loop-i.bytes ≡ map (pixel_byte p c.args.y) (range_with_len 0 n)) same c.loop-i.invariant.written) byte)
        | inr past ↦ kept_bytes p c.args.y (first + i) (first + min i scale) (first + min (i + 1) scale) _ c.loop-i.bytes
            (omega (arith, past)) (omega (arith, past)) c.loop-i.invariant.written
      ];
    }

pub returns : goal.returns
returns c =
    let p = shown c.args.picture.now in
    let ends = groups_end p c.loop-group.group c.scale-scale.result c.columns.result c.scale-scale.ensures.exact c.columns.ensures.exact
    (omega (arith, c.loop-group-test.false, c.div_ceil-group-end.ensures)) in
    c.copy_from_slice.ensures.after
    ∙ front_row p c.args.y (c.loop-group.group * c.scale-scale.result) (length c.args.line.now) c.loop-group.bytes c.requires.long ends
    c.loop-group.invariant.written
