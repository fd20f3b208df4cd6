-- The details beside the label of a link.
use Rattle.std.proofs.Common.{◌≢◌, []}
use Rattle.std.specs.Prelude.{IfSome}
use Rattle.single_label.specs.{Contents.IsLink, Labels.AreContentDetails}
use Rattle.single_label.proofs.{BesideLemmas.IsDetailsOfLink, BesideLemmas.if_some, StopLemmas.if_ok}
use Rattle.single_label.proofs.label.link_label.Goals as goal

pub returns-clause-beside : goal.returns-clause-beside
returns-clause-beside g c =
    let label = c.args.label.now in
    let options = c.args.options.now in
    let text = c.args.elements.now in
    let link = c.in_ok-link.link.items in
    let said : IsLink label.upper label.domain.now text link = c.in_ok-link.ensures.link in
    let some : link ≢ [] = c.in_ok-link.ensures.some in
    if_ok (λ shown. IfSome (g.S.Shown.beside shown) (AreContentDetails label options text link)) (λ shown. IfSome (g.S.Shown.beside shown) (IsDetailsOfLink label options text))
    c.content_label.result
    (λ shown is. if_some (AreContentDetails label options text link) (IsDetailsOfLink label options text) (g.S.Shown.beside shown) (λ details h. (link, said, some, h)) is)
    (rw (c.deref.ensures.value) at c.content_label.ensures.beside)
