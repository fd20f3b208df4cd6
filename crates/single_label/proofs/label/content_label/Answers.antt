-- There are no details of the content, which has a symbol, and the text below it is that
-- of elements.
use Rattle.std.proofs.Common.{sym, subst}
use Rattle.std.specs.Prelude.{Some, IfSome}
use Rattle.std.specs.Option.{option_copied}
use Rattle.single_label.specs.{Captions.IsCaption, Labels.AreBeside, Labels.AreContentDetails, Labels.IsContentStop, Labels.ShowsContent, Labels.ShowsSymbol, Details.IsDetailsStop}
use Rattle.single_label.proofs.BesideLemmas.{content_beside, if_some}
use Rattle.single_label.proofs.CaptionLemmas.{content_sound, content_stop_of}
use Rattle.single_label.proofs.StopLemmas.{if_err, if_ok, no_details}
use Rattle.single_label.proofs.label.content_label.Goals as goal

pub caption_of-requires : goal.caption_of-requires
caption_of-requires g c =
    let label = c.args.label.now in
    content_sound label.content label.symbol c.args.text.now c.args.content.now c.in-Ok.symbol.modules c.requires.said c.in-Ok.ensures.symbol

pub returns-clause-shown : goal.returns-clause-shown
returns-clause-shown g c =
    let label = c.args.label.now in
    let options = c.args.options.now in
    let content = c.args.content.now in
    let caption = option_copied c.text_in.result in
    if_ok (λ shown. ShowsSymbol label options (Some content) caption c.in-Ok.symbol (g.S.Shown.drawing label options shown))
    (λ shown. ShowsContent label options c.args.text.now content (g.S.Shown.drawing label options shown)) c.of_symbol.result
    (λ shown is. record {
      symbol = c.in-Ok.symbol;
      is_symbol = c.in-Ok.ensures.symbol;
      caption = caption;
      caption_is = subst (IsCaption label c.args.text.now) (sym c.text_in.ensures) c.in_ok-caption.ensures.caption;
      shown = is;
    }) c.of_symbol.ensures.shown

pub returns-clause-beside : goal.returns-clause-beside
returns-clause-beside g c =
    let label = c.args.label.now in
    let options = c.args.options.now in
    let text = c.args.text.now in
    let content = c.args.content.now in
    let caption : IsCaption label text (option_copied c.text_in.result) = subst (IsCaption label text) (sym c.text_in.ensures) c.in_ok-caption.ensures.caption in
    let each = content_beside label options text content c.in-Ok.symbol (option_copied c.text_in.result) c.in-Ok.ensures.symbol caption in
    if_ok (λ shown. IfSome (g.S.Shown.beside shown) (AreBeside label options (Some content) c.in-Ok.symbol))
    (λ shown. IfSome (g.S.Shown.beside shown) (AreContentDetails label options text content)) c.of_symbol.result
    (λ shown is. if_some (AreBeside label options (Some content) c.in-Ok.symbol) (AreContentDetails label options text content) (g.S.Shown.beside shown) each is)
    c.of_symbol.ensures.beside

pub returns-clause-refusal : goal.returns-clause-refusal
returns-clause-refusal g c =
    let label = c.args.label.now in
    let content = c.args.content.now in
    if_err (IsDetailsStop label (Some content)) (IsContentStop label content) c.of_symbol.result
    (λ stop is. no_details label content stop _ c.in-Ok.ensures.limit c.requires.data c.in-Ok.ensures.symbol is) c.of_symbol.ensures.refusal
