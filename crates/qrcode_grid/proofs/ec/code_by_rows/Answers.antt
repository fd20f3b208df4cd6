use Rattle.qrcode_grid.proofs.Prelude.{◌≡◌, ◌-◌, ◌+◌, ℕ, List, length, subst, arith, AddsCode}
use Rattle.qrcode_grid.proofs.RowDivision.{begun, rows_made}
use Rattle.qrcode_grid.proofs.ec.code_by_rows.Goals as goal

pub returns : goal.returns
returns c =
    let divisor = c.args.divisor.now in
    let n = length divisor - 1 in
    let degree : length divisor ≡ n + 1 = begun divisor c.requires.monic in
    subst (λ (old : List ℕ). AddsCode n divisor c.args.data.now old c.add_code.new.codes.items) c.in_ok-code.ensures.items
    (c.in_ok-add_code.ensures.adds divisor c.terms_of.result (record { small = omega (arith, c.requires.few); degree = degree; monic = c.requires.monic })
    (rows_made divisor c.terms_of.result c.doubled.result c.multiples-low.result c.multiples-high.result c.terms_of.ensures.terms
    c.multiples-low.ensures.by_lane c.doubled.ensures.by_lane c.multiples-high.ensures.by_lane))
