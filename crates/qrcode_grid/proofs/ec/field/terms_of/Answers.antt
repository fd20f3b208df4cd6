use Rattle.qrcode_grid.proofs.Prelude.{◌≡◌, ◌+◌, ◌-◌, ℕ, ◌++◌, length, get_or, drop, ap, ◌∙◌, arith, length-append, get_or-chunk, length-chunk, get_or-drop}
use Rattle.qrcode_grid.proofs.Prelude.{take_all, length-take, length-replicate, length-drop}
use lib.ListN.{replicate}
use Rattle.qrcode_grid.proofs.RowDivision.{padded_at}
use Rattle.std.proofs.lemmas.List.{drop-replicate}
use Rattle.qrcode_grid.proofs.ec.field.terms_of.Goals as goal

pub returns-clause-lanes : goal.returns-clause-lanes
returns-clause-lanes c =
    let n = length c.args.divisor.now - 1 in
    let rest : length (drop n (replicate {A = ℕ} 32 0)) ≡ 32 - n = ap length (drop-replicate n 32 0) ∙ length-replicate (32 - n) 0 in
    let copied : length c.copy_from_slice.new.self ≡ n = ap length c.copy_from_slice.ensures.after ∙ length-take n (drop 1 c.args.divisor.now)
    ∙ omega (arith, length-drop 1 c.args.divisor.now) in
    length-chunk 0 32 (c.copy_from_slice.new.self ++ drop n (replicate {A = ℕ} 32 0))
    (omega (arith, rest, copied, length-append c.copy_from_slice.new.self (drop n (replicate {A = ℕ} 32 0))))

pub returns-clause-terms : goal.returns-clause-terms
returns-clause-terms c = λ j h.
    let n = length c.args.divisor.now - 1 in
    let copied = c.copy_from_slice.new.self in
    let here : 0 + j ≡ j = omega arith in
    let next : 1 + j ≡ j + 1 = omega arith in
    get_or-chunk 0 32 (copied ++ drop n (replicate 32 0)) j 0 h
    ∙ ap (λ k. get_or (copied ++ drop n (replicate 32 0)) k 0) here
    ∙ ap (λ zs. get_or (copied ++ zs) j 0) (drop-replicate n 32 0)
    ∙ padded_at copied (32 - n) j
    ∙ ap (λ xs. get_or xs j 0) (c.copy_from_slice.ensures.after ∙ take_all n (drop 1 c.args.divisor.now) (omega (arith, length-drop 1 c.args.divisor.now)))
    ∙ get_or-drop 1 c.args.divisor.now j 0 ∙ ap (λ k. get_or c.args.divisor.now k 0) next
