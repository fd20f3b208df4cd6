-- The part's symbol is the best one; the others fit, as was tested.
use Rattle.qrcode_core.proofs.Prelude.{◌≡◌, arith, common_steps, nat_abs, to_z-of_z, length, ◌+◌, front_of}
use Rattle.std.proofs.Common.{Some}
use Rattle.std.proofs.lemmas.Result.{IfErr-weaker}
use Rattle.qrcode_bits.specs.declared.bits.front.Content.TheVariants.{Bytes}
use Rattle.qrcode_core.specs.Sequence.{header_at}
use Rattle.qrcode_core.proofs.Sequences.{on_ok, none_of_all, refused_part}
use mir.Syntax.{w16}
use Rattle.qrcode_core.proofs.symbol.owned.Symbol.sequence_part.Goals as goal

pub returns-in_err-check_others-clause-refusal : goal.returns-in_err-check_others-clause-refusal
returns-in_err-check_others-clause-refusal c =
    let refused = rw (to_z-of_z w16 c.args.max_version c.ranges.max_version) at c.in_err-check_others.ensures.refusal in
    grind (arith, common_steps, refused)

pub returns-clause-fitting : goal.returns-clause-fitting
returns-clause-fitting c =
    let same = to_z-of_z w16 c.args.max_version c.ranges.max_version in
    let part = c.part_at-part.ensures in
    let few = c.in_ok-total.ensures.few in
    let front : c.with_header-front.result ≡ front_of (Some (header_at (c.args.index + 1) (length c.args.cuts.now + 1) c.args.bytes.now)) Bytes =
    grind (arith, few, c.requires.exists, c.with_header-front.ensures, c.new-header.ensures, c.parity_of.ensures, c.in_ok-total.ensures.total) in
    on_ok c.part_symbol.result (λ symbol best. none_of_all Bytes c.args.bytes.now c.args.cuts.now c.args.level (nat_abs c.args.max_version) c.args.index
    symbol.modules best (rw same at c.in_ok-check_others.ensures.fitting)) (rw (same, part, front) at c.part_symbol.ensures.best)

pub returns-clause-refusal : goal.returns-clause-refusal
returns-clause-refusal c =
    let same = to_z-of_z w16 c.args.max_version c.ranges.max_version in
    let part = c.part_at-part.ensures in
    let few = c.in_ok-total.ensures.few in
    let front : c.with_header-front.result ≡ front_of (Some (header_at (c.args.index + 1) (length c.args.cuts.now + 1) c.args.bytes.now)) Bytes =
    grind (arith, few, c.requires.exists, c.with_header-front.ensures, c.new-header.ensures, c.parity_of.ensures, c.in_ok-total.ensures.total) in
    let limit = rw same at c.in_ok-total.ensures.limit in
    IfErr-weaker c.part_symbol.result _ _ (λ e why. refused_part Bytes c.args.bytes.now c.args.cuts.now c.args.level c.args.max_version
    (length c.args.cuts.now + 1) c.args.index _ e limit few (omega arith) (omega (arith, c.requires.exists)) why)
    (rw (same, part, front) at c.part_symbol.ensures.refusal)
