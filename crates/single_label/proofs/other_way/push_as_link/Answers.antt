-- The outcome, after its words.
use Rattle.std.proofs.Common.{◌++◌, ◌∙◌, ap, refl, append_assoc}
use Rattle.std.specs.Prelude.{codes}
use Rattle.std.specs.String.{string_bytes}
use Rattle.single_label.specs.Details.{outcome_text}
use Rattle.single_label.proofs.CaptionLemmas.{on_ok}
use Rattle.single_label.proofs.other_way.push_as_link.Goals as goal

pub returns : goal.returns
returns c =
    let outcome = c.in_ok-outcome.outcome in
    on_ok _ _ c.push_outcome.result (λ is. (
      codes "as a link: " ++ outcome_text outcome,
      (outcome, c.in_ok-outcome.ensures, refl),
      is ∙ ap (λ l. l ++ outcome_text outcome) c.in_ok-push_str.ensures.bytes
          ∙ append_assoc (string_bytes c.args.text.now) (codes "as a link: ") (outcome_text outcome),
    )) c.push_outcome.ensures
