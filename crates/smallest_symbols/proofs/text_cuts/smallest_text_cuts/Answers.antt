use mir.Syntax.{w16}
use Rattle.std.proofs.Common.{Global, Vec, nat_abs, ℕ}
use Rattle.std.proofs.lemmas.Int.{to_z-of_z}
use Rattle.std.proofs.lemmas.Result.{IfOk-weaker}
use Rattle.qrcode_base.specs.declared.types.errors.QrError.{QrError}
use Rattle.smallest_symbols.proofs.FewestCuts.{cuts_ordered, cuts_short, cuts_within, none_past}
use Rattle.smallest_symbols.proofs.text_cuts.smallest_text_cuts.Goals as goal

pub returns-clause-ordered : goal.returns-clause-ordered
returns-clause-ordered c = IfOk-weaker {X = Vec ℕ Global} {Y = QrError} c.fewest_parts.result _ _
    (λ cuts best. cuts_ordered best.manner c.args.text.now c.args.level (nat_abs c.args.max_version) 0 cuts.items best.fitting)
    (rw (to_z-of_z w16 c.args.max_version c.ranges.max_version) at c.fewest_parts.ensures.best)

pub returns-clause-within : goal.returns-clause-within
returns-clause-within c = IfOk-weaker {X = Vec ℕ Global} {Y = QrError} c.fewest_parts.result _ _
    (λ cuts best. cuts_short best.manner c.args.text.now c.args.level (nat_abs c.args.max_version) 0 cuts.items best.fitting)
    (rw (to_z-of_z w16 c.args.max_version c.ranges.max_version) at c.fewest_parts.ensures.best)

pub returns-clause-places : goal.returns-clause-places
returns-clause-places c = IfOk-weaker {X = Vec ℕ Global} {Y = QrError} c.fewest_parts.result _ _
    (λ cuts best. cuts_within best.manner c.args.text.now c.args.level (nat_abs c.args.max_version) 0 cuts.items best.fitting)
    (rw (to_z-of_z w16 c.args.max_version c.ranges.max_version) at c.fewest_parts.ensures.best)

pub returns-clause-fitting : goal.returns-clause-fitting
returns-clause-fitting c = IfOk-weaker {X = Vec ℕ Global} {Y = QrError} c.fewest_parts.result _ _
    (λ cuts best. none_past best.manner c.args.text.now c.args.level (nat_abs c.args.max_version) cuts.items best.fitting)
    (rw (to_z-of_z w16 c.args.max_version c.ranges.max_version) at c.fewest_parts.ensures.best)
