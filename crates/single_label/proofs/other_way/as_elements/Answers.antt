-- The outcome of the elements of the link.
use Rattle.std.proofs.Common.{◌≡◌, ◌∙◌, ap, sym, subst, inl, inr}
use Rattle.std.specs.Prelude.{map}
use Rattle.gs1.specs.Elements.{Element, bracketed}
use Rattle.gs1_links.specs.LinkReader.{ReadsLink}
use Rattle.label_words.specs.declared.command.Content.TheVariants.{Gs1}
use Rattle.single_label.specs.OtherWays.{IsOtherOutcome, IsElementsOutcome}
use Rattle.single_label.proofs.StopLemmas.{if_ok}
use Rattle.single_label.proofs.other_way.as_elements.Goals as goal

pub returns-in_ok-text-in-Ok : goal.returns-in_ok-text-in-Ok
returns-in_ok-text-in-Ok c =
    let label = c.args.label.now in
    let text = c.deref-in-Ok.ensures.value ∙ c.in_ok-text-in-Ok.ensures in
    if_ok (IsOtherOutcome Gs1 label.symbol c.deref-in-Ok.result.now) (IsElementsOutcome label c.args.link.now) c.outcome_of.result
    (λ outcome is. inr (
      _,
      subst (λ l. ReadsLink c.args.link.now (map (λ e. record { identifier = e.identifier.now; value = e.value.items }) l)) (sym c.deref.ensures.value) c.in-Ok.ensures.read,
      subst (λ t. IsOtherOutcome Gs1 label.symbol t outcome) text is,
    )) c.outcome_of.ensures
