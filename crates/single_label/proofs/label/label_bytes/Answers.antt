-- There is no link of the text, or no label of the link.
use Rattle.std.proofs.Common.{◌≡◌, ◌≤◌, [], inl, inr, true, false, refl, arith, rules, length}
use Rattle.std.proofs.lemmas.Grind.{common_steps}
use Rattle.std.specs.Prelude.{IfSome}
use Rattle.label_words.specs.Choices.{is_link}
use Rattle.single_label.specs.{Contents.most_bytes, Labels.AreContentDetails, Labels.AreDetailsBeside, Labels.IsLabelData, Labels.IsLabelStop, Labels.IsContentStop, Labels.ShowsLabel}
use Rattle.single_label.proofs.BesideLemmas.{IsDetailsOfLink, if_some, label_beside, link_beside}
use Rattle.single_label.proofs.StopLemmas.{if_err, if_ok, IsLinkOrContentStop, said_stop}
use Rattle.single_label.proofs.label.label_bytes.Goals as goal

pub returns-then-eq-clause-refusal : goal.returns-then-eq-clause-refusal
returns-then-eq-clause-refusal g c =
    let label = c.args.label.now in
    let bytes = c.args.bytes.now in
    let text = c.shown_of-content.result.now in
    let some : IsLabelData label text = search rules in
    let short : length bytes ≤ most_bytes label.content = search rules in
    let is : is_link label.content ≡ true = grind (arith, c.eq.ensures, c.if-eq.true) in
    if_err (IsLinkOrContentStop label text) (IsLabelStop label bytes) c.link_label.result (λ stop h. inr (record {
      short = short;
      text = text;
      text_is = c.shown_of-content.ensures.shown;
      stopped = inr (some, said_stop label text stop is h);
    })) c.link_label.ensures.refusal

pub returns-then-not-label-clause-refusal : goal.returns-then-not-label-clause-refusal
returns-then-not-label-clause-refusal g c =
    let label = c.args.label.now in
    let text = c.shown_of-content.result.now in
    let short : length c.args.bytes.now ≤ most_bytes label.content = search rules in
    let none : text ≡ [] = grind (arith, common_steps) in
    let not_empty : label.allow_empty ≡ false = grind (arith, c.if-not-label.true) in
    inr (record {
      short = short;
      text = text;
      text_is = c.shown_of-content.ensures.shown;
      stopped = inl (refl, none, not_empty);
    })

pub returns-clause-refusal : goal.returns-clause-refusal
returns-clause-refusal g c =
    let label = c.args.label.now in
    let bytes = c.args.bytes.now in
    let text = c.shown_of-content.result.now in
    let some : IsLabelData label text = search rules in
    let short : length bytes ≤ most_bytes label.content = search rules in
    let none : is_link label.content ≡ false = grind (arith, c.eq.ensures, c.if-eq.false) in
    if_err (IsContentStop label text) (IsLabelStop label bytes) c.content_label.result (λ stop h. inr (record {
      short = short;
      text = text;
      text_is = c.shown_of-content.ensures.shown;
      stopped = inr (some, inr (text, inl (none, refl), h));
    })) c.content_label.ensures.refusal

pub returns-then-eq-clause-beside : goal.returns-then-eq-clause-beside
returns-then-eq-clause-beside g c =
    let label = c.args.label.now in
    let options = c.args.options.now in
    let bytes = c.args.bytes.now in
    let text = c.shown_of-content.result.now in
    let some : IsLabelData label text = search rules in
    let is : is_link label.content ≡ true = grind (arith, c.eq.ensures, c.if-eq.true) in
    if_ok (λ shown. IfSome (g.S.Shown.beside shown) (IsDetailsOfLink label options text))
    (λ shown. IfSome (g.S.Shown.beside shown) (AreDetailsBeside label (λ other. ShowsLabel other options) bytes)) c.link_label.result
    (λ shown h. if_some (IsDetailsOfLink label options text) (AreDetailsBeside label (λ other. ShowsLabel other options) bytes) (g.S.Shown.beside shown)
    (λ details d. link_beside label options bytes text c.shown_of-content.ensures.shown some is details d) h) c.link_label.ensures.beside

pub returns-clause-beside : goal.returns-clause-beside
returns-clause-beside g c =
    let label = c.args.label.now in
    let options = c.args.options.now in
    let bytes = c.args.bytes.now in
    let text = c.shown_of-content.result.now in
    let some : IsLabelData label text = search rules in
    let none : is_link label.content ≡ false = grind (arith, c.eq.ensures, c.if-eq.false) in
    if_ok (λ shown. IfSome (g.S.Shown.beside shown) (AreContentDetails label options text text))
    (λ shown. IfSome (g.S.Shown.beside shown) (AreDetailsBeside label (λ other. ShowsLabel other options) bytes)) c.content_label.result
    (λ shown h. if_some (AreContentDetails label options text text) (AreDetailsBeside label (λ other. ShowsLabel other options) bytes) (g.S.Shown.beside shown)
    (label_beside label options bytes text text c.shown_of-content.ensures.shown some (inl (none, refl))) h) c.content_label.ensures.beside
