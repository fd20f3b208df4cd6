-- The outcome of the link of the text.
use Rattle.std.proofs.Common.{◌≡◌, ◌∙◌, sym, subst, inl, inr}
use Rattle.std.specs.Str.{IsUtf8}
use Rattle.gs1_links.specs.LinkReader.{ReadsLink}
use Rattle.gs1.specs.Elements.{written_elements}
use Rattle.gs1_links.specs.Links.{linked}
use Rattle.label_words.specs.declared.command.Content.TheVariants.{Link}
use Rattle.single_label.specs.{Contents.IsTextOfBytes, OtherWays.IsOtherOutcome, OtherWays.IsLinkOutcome}
use Rattle.single_label.proofs.StopLemmas.{if_ok}
use Rattle.single_label.proofs.other_way.as_link.Goals as goal

pub returns-in-Ok-digital_link : goal.returns-in-Ok-digital_link
returns-in-Ok-digital_link c =
    let label = c.args.label.now in
    let text = c.in-Ok.text.now in
    let link = c.deref-in-Ok-digital_link.result.now in
    let same = c.in-Ok.ensures.cases.0 in
    let items = c.deref-in-Ok-digital_link.ensures.value in
    if_ok (IsOtherOutcome Link label.symbol link) (IsLinkOutcome label c.args.bytes.now) c.outcome_of.result
    (λ outcome is. (
      text,
      subst (IsTextOfBytes c.args.bytes.now) (sym (same ∙ c.deref.ensures.value)) c.in_ok-text.ensures,
      inr (
        link,
        record {
          utf8 = subst IsUtf8 (sym same) c.in-Ok.ensures.cases.1;
          link_is = items ∙ c.in-Ok-digital_link.ensures.written;
          read = subst (λ l. ReadsLink l (linked (written_elements text))) (sym items) c.in-Ok-digital_link.ensures.read;
          faultless = c.in-Ok-digital_link.ensures.faultless;
        },
        is,
      ),
    )) c.outcome_of.ensures
