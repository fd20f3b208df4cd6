use Rattle.std.proofs.Common.{Vec, Global}
use mir.Syntax.{w16}
use Rattle.qrcode_core.proofs.Prelude.{ℕ, nat_abs, to_z-of_z, QrError}
use Rattle.qrcode_bits.specs.declared.bits.front.Content.TheVariants.{Bytes}
use Rattle.std.proofs.lemmas.Result.{IfOk-weaker}
use Rattle.qrcode_core.proofs.BestCuts.{cuts_ordered, cuts_short, none_past}
use Rattle.qrcode_core.proofs.symbol.cuts.best_cuts.Goals as goal

pub returns-clause-ordered : goal.returns-clause-ordered
returns-clause-ordered c = IfOk-weaker {X = Vec ℕ Global} {Y = QrError} c.longest_parts.result _ _
    (λ cuts best. cuts_ordered Bytes c.args.bytes.now c.args.level (nat_abs c.args.max_version) 0 cuts.items best.fitting)
    (rw (to_z-of_z w16 c.args.max_version c.ranges.max_version) at c.longest_parts.ensures.best)

pub returns-clause-within : goal.returns-clause-within
returns-clause-within c = IfOk-weaker {X = Vec ℕ Global} {Y = QrError} c.longest_parts.result _ _
    (λ cuts best. cuts_short Bytes c.args.bytes.now c.args.level (nat_abs c.args.max_version) 0 cuts.items best.fitting)
    (rw (to_z-of_z w16 c.args.max_version c.ranges.max_version) at c.longest_parts.ensures.best)

pub returns-clause-fitting : goal.returns-clause-fitting
returns-clause-fitting c = IfOk-weaker {X = Vec ℕ Global} {Y = QrError} c.longest_parts.result _ _
    (λ cuts best. none_past Bytes c.args.bytes.now c.args.level (nat_abs c.args.max_version) cuts.items best.fitting)
    (rw (to_z-of_z w16 c.args.max_version c.ranges.max_version) at c.longest_parts.ensures.best)
