-- The greatest version, or one that holds twice the bits.
use Rattle.qrcode_bits.proofs.Prelude.{◌≡◌, ℕ, ◌*◌, List, Some, true, leb, sym, subst, arith, capacity, leb-true, normal, FitsNot, Version}
use Rattle.std.proofs.lemmas.Bool.{OnTrue_from}
use Rattle.qrcode_bits.proofs.{Classes.known_limit, Classes.normal_is, Fitting.double_fits}
use Rattle.qrcode_bits.proofs.bits.fitting.holds_double.Goals as goal

pub returns-then-number-limit : goal.returns-then-number-limit
returns-then-number-limit c front message none =
    subst (λ (n : ℕ). FitsNot front message (normal n) c.args.level) (sym c.if-number-limit.true) none

pub returns : goal.returns
returns c =
    let go : leb (2 * c.in-Ok.held) c.in-Ok-data_capacity_bits.most ≡ true → (front : ℕ) → (message : List ℕ) →
    FitsNot front message (normal c.args.limit) c.args.level → FitsNot front message (normal c.args.number) c.args.level = λ twice front message none.
    (let few = normal_is c.args.number (omega (arith, c.requires.in_order, c.requires.to_forty)) in
    let many = normal_is c.args.limit c.requires.to_forty in
    let held : capacity (normal c.args.number) c.args.level ≡ Some c.in-Ok.held =
    subst (λ (v : Version). capacity v c.args.level ≡ Some c.in-Ok.held) few (known_limit _ c.in-Ok.held _ c.in-Ok.ensures.is) in
    let most : capacity (normal c.args.limit) c.args.level ≡ Some c.in-Ok-data_capacity_bits.most =
    subst (λ (v : Version). capacity v c.args.level ≡ Some c.in-Ok-data_capacity_bits.most) many
    (known_limit _ c.in-Ok-data_capacity_bits.most _ c.in-Ok-data_capacity_bits.ensures.is) in
    double_fits front c.args.number c.args.limit c.in-Ok.held c.in-Ok-data_capacity_bits.most message c.args.level c.requires.from_one
    (omega (arith, c.requires.from_one, c.requires.in_order)) held most (leb-true _ _ twice) none) in
    OnTrue_from _ _ go
