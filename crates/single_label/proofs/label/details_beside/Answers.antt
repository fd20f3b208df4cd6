-- Why there are no details beside a label.
use Rattle.std.specs.Option.{option_copied}
use Rattle.single_label.specs.{Details.IsDetailsStop, Labels.details_label}
use Rattle.single_label.proofs.StopLemmas.{beside_stop, if_err}
use Rattle.single_label.proofs.label.details_beside.Goals as goal

pub returns-then-eq-clause-refusal : goal.returns-then-eq-clause-refusal
returns-then-eq-clause-refusal c =
    let label = c.args.label.now in
    let content = option_copied c.args.content in
    if_err (IsDetailsStop (details_label label) content) (IsDetailsStop label content) c.symbol_text.result (λ stop is. beside_stop label content stop is)
    (rw (c.details_label.ensures) at c.symbol_text.ensures.refusal)
