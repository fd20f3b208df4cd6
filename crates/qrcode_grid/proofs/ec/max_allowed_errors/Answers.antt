use Rattle.qrcode_grid.proofs.Prelude.{◌≡◌, ℕ, ◌+◌, ◌-◌, ◌*◌, ◌/◌, ◌≤◌, Option, IfSome, sym, ap, ◌∙◌, subst, arith, BlockLayout, block_count, HasOneOrigin}
use Rattle.qrcode_grid.proofs.{Distance.one_origin, WholeSymbols.IsUsable, WholeSymbols.IsUsable-of_symbol, WholeSymbols.one_block_short}
use Rattle.qrcode_grid.proofs.ec.max_allowed_errors.Goals as goal

half_of : (n count p errors : ℕ) → count ≡ 1 → errors ≡ (n * count - p) / 2 → errors + errors ≤ n
half_of n count p errors one is = let e : errors ≡ (n * 1 - p) / 2 = is ∙ ap (λ k. (n * k - p) / 2) one in omega (arith, e)

one_origin_of : (b : BlockLayout) (p errors : ℕ) → IsUsable b → errors ≡ (b.correction * block_count b - p) / 2 → HasOneOrigin errors b
one_origin_of b p errors usable is = λ one content damaged other len len' len'' bytes bytes' sound sound' near near'.
    one_origin b.correction errors content damaged other (sym len') (len' ∙ sym len'')
    (omega (arith, len, one_block_short b usable one)) bytes bytes' sound sound' (half_of b.correction (block_count b) p errors one is) near near'

pub returns-clause-one_origin : goal.returns-clause-one_origin
returns-clause-one_origin c =
    let b = c.in-Some.layout in let p = c.protection_of-protection.result in let errors = c.saturating_sub.result / 2 in
    let is : errors ≡ (b.correction * block_count b - p) / 2 = grind arith in
    subst (λ (o : Option BlockLayout). IfSome o (HasOneOrigin errors)) c.in-Some.ensures
    (one_origin_of b p errors (IsUsable-of_symbol c.args.version c.args.ec_level b (sym c.in-Some.ensures)) is)
