use Rattle.qrcode_grid.proofs.Prelude.{◌≡◌, ◌+◌, ◌<◌, length, xor_of_8, ◌/◌, ◌%◌, List, ℕ, [], ◌++◌, map, get_or, ap, ◌∙◌, sym, refl, arith}
use Rattle.qrcode_grid.proofs.Prelude.{range_with_len, get_or_default, bit_xor, product}
use lib.ListN.{replicate}
use lib.Lanes.{zip2}
use Rattle.qrcode_grid.proofs.RowDivision.{fits_at, lane_moved, lane_xor, length_xor, product-halves, times_one}
use Rattle.qrcode_grid.proofs.ec.field.division_step.Goals as goal

first_lane : (lanes : List ℕ) (first : ℕ) → 0 < length lanes → first ≡ get_or lanes 0 first → first ≡ get_or lanes 0 0
first_lane lanes first some is = is ∙ get_or_default lanes 0 first 0 some

pub returns-clause-lanes : goal.returns-clause-lanes
returns-clause-lanes c =
    let first : c.index.result.now ≡ get_or c.args.lanes 0 0 = first_lane c.args.lanes c.index.result.now (omega arith) c.index.ensures in
    let small : bit_xor c.args.byte c.index.result.now < 256 =
    xor_of_8 c.args.byte c.index.result.now (omega arith) (omega (arith, fits_at c.args.lanes 0 c.fits-lanes.1)) in
    let moved = map (λ k. get_or (c.args.lanes ++ replicate 32 0) k 0) (range_with_len 1 32) in
    length_xor moved _ 32 refl
    (length_xor _ _ 32 (c.requires.low c.from.result [] (omega arith)) (c.requires.high c.from-2.result [] (omega arith)))

pub returns-clause-step : goal.returns-clause-step
returns-clause-step c = λ terms low high j h.
    let t = get_or terms j 0 in
    let moved = map (λ k. get_or (c.args.lanes ++ replicate 32 0) k 0) (range_with_len 1 32) in
    let first : c.index.result.now ≡ get_or c.args.lanes 0 0 = first_lane c.args.lanes c.index.result.now (omega arith) c.index.ensures in
    let f = bit_xor c.args.byte c.index.result.now in
    let small : f < 256 = xor_of_8 c.args.byte c.index.result.now (omega arith) (omega (arith, fits_at c.args.lanes 0 c.fits-lanes.1)) in
    let a = get_or c.args.low.now c.from.result [] in
    let b = get_or c.args.high.now c.from-2.result [] in
    let la = c.requires.low c.from.result [] (omega arith) in
    let lb = c.requires.high c.from-2.result [] (omega arith) in
    let low_part : get_or a j 0 ≡ product (f % 16) t =
    low c.from.result j (omega arith) h ∙ ap (λ k. product k (product 1 t)) c.from.ensures ∙ times_one (f % 16) t (omega arith) in
    let high_part : get_or b j 0 ≡ product (f / 16) (product 16 t) =
    high c.from-2.result j (omega arith) h ∙ ap (λ k. product k (product 16 t)) c.from-2.ensures in
    let multiple : get_or (zip2 bit_xor a b) j 0 ≡ product f t =
    lane_xor a b 32 j la lb h ∙ ap (λ x. bit_xor x (get_or b j 0)) low_part ∙ ap (λ x. bit_xor (product (f % 16) t) x) high_part
    ∙ sym (product-halves f t small) in
    lane_xor moved (zip2 bit_xor a b) 32 j refl (length_xor a b 32 la lb) h
    ∙ ap (λ x. bit_xor x (get_or (zip2 bit_xor a b) j 0)) (lane_moved c.args.lanes j h)
    ∙ ap (λ x. bit_xor (get_or c.args.lanes (j + 1) 0) x) (multiple ∙ ap (λ z. product (bit_xor c.args.byte z) t) first)
