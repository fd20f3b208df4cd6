-- The bytes are UTF-8, and any other error is that of the text.
use Rattle.std.proofs.Common.{inr, w32}
use Rattle.std.proofs.lemmas.{Int.to_z-of_z, Result.IfErr-weaker}
use Rattle.qrcode_c.proofs.spread.text_spread.Goals as goal

pub returns-clause-refusal : goal.returns-clause-refusal
returns-clause-refusal c =
    let text = c.in-Ok.ensures.cases in
    let same = rw (to_z-of_z w32 c.args.level c.ranges.level, to_z-of_z w32 c.args.max_version c.ranges.max_version, text.0) at c.spread_text.ensures.refusal in
    IfErr-weaker c.spread_text.result _ _ (λ refusal others. inr (λ some. text.1, others)) same
