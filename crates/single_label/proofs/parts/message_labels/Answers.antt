-- The labels of one symbol, or of several, or why there are none.
use Rattle.std.proofs.Common.{◌≤◌, ◌⊎◌, inl, inr, rules, length}
use Rattle.std.specs.Prelude.{Some, map, vec_items}
use Rattle.single_label.specs.{Labels.AreBeside, Labels.AreDetailsBeside, Labels.IsLabelData, Parts.AreLabelsTogether, Parts.AreTogetherBeside, Parts.ShowsMessage, Parts.AreNotDrawn, Parts.IsPartsStop, Parts.IsMessageStop, Parts.ShowMessage, Parts.most_together}
use Rattle.single_label.specs.Details.{IsDetailsStop}
use Rattle.single_label.proofs.{BesideLemmas.one_beside, BesideLemmas.together_beside}
use Rattle.single_label.proofs.StopLemmas.{if_err, if_ok, message_no_details, too_long_is}
use Rattle.single_label.proofs.parts.message_labels.Goals as goal

pub returns-in-Ok-clause-refusal : goal.returns-in-Ok-clause-refusal
returns-in-Ok-clause-refusal c =
    let label = c.args.label.now in
    let content = c.content_of-content.result.now in
    let some : IsLabelData label content = search rules in
    let short : length c.args.bytes.now ≤ most_together label.content = search rules in
    if_err (IsDetailsStop label (Some content)) (IsMessageStop label c.args.bytes.now) c.one_label.result (λ stop is. inr (record {
      short = short;
      content = content;
      content_is = c.content_of-content.ensures.content;
      stopped = inr (some, inl (message_no_details label content stop _ c.in-Ok.ensures.limit c.in-Ok.ensures.symbol is));
    })) c.one_label.ensures.refusal

pub returns-in-Err-clause-shown : goal.returns-in-Err-clause-shown
returns-in-Err-clause-shown c =
    let label = c.args.label.now in
    let content = c.content_of-content.result.now in
    let some : IsLabelData label content = search rules in
    let long = too_long_is label.content label.symbol content c.in-Err.stop (search rules) c.in-Err.ensures.refusal in
    if_ok (λ message. AreLabelsTogether label c.args.options.now content (map vec_items message.drawings.items))
    (λ message. ShowMessage label c.args.options.now c.args.bytes.now (map vec_items message.drawings.items)) c.sequence_labels.result (λ message together. record {
      content = content;
      content_is = c.content_of-content.ensures.content;
      data_is = some;
      shown = inr (long, together);
    }) c.sequence_labels.ensures.shown

pub returns-in-Err-clause-refusal : goal.returns-in-Err-clause-refusal
returns-in-Err-clause-refusal c =
    let label = c.args.label.now in
    let content = c.content_of-content.result.now in
    let some : IsLabelData label content = search rules in
    let short : length c.args.bytes.now ≤ most_together label.content = search rules in
    let long = too_long_is label.content label.symbol content c.in-Err.stop (search rules) c.in-Err.ensures.refusal in
    if_err (λ stop. AreNotDrawn label content stop ⊎ IsPartsStop label content stop) (IsMessageStop label c.args.bytes.now) c.sequence_labels.result
    (λ stop none. inr (record {
      short = short;
      content = content;
      content_is = c.content_of-content.ensures.content;
      stopped = inr (some, inr (long, none));
    })) c.sequence_labels.ensures.refusal

pub returns-in-Ok-clause-beside : goal.returns-in-Ok-clause-beside
returns-in-Ok-clause-beside c =
    let label = c.args.label.now in
    let options = c.args.options.now in
    let bytes = c.args.bytes.now in
    let content = c.content_of-content.result.now in
    let some : IsLabelData label content = search rules in
    if_ok (λ message. AreBeside label options (Some content) c.in-Ok.symbol message.details.items)
    (λ message. AreDetailsBeside label (λ other. ShowsMessage other options) bytes message.details.items) c.one_label.result
    (λ message is. one_beside label options bytes content c.in-Ok.symbol c.content_of-content.ensures.content some c.in-Ok.ensures.symbol message.details.items is)
    c.one_label.ensures.beside

pub returns-in-Err-clause-beside : goal.returns-in-Err-clause-beside
returns-in-Err-clause-beside c =
    let label = c.args.label.now in
    let options = c.args.options.now in
    let bytes = c.args.bytes.now in
    let content = c.content_of-content.result.now in
    let some : IsLabelData label content = search rules in
    let long = too_long_is label.content label.symbol content c.in-Err.stop (search rules) c.in-Err.ensures.refusal in
    if_ok (λ message. AreTogetherBeside label options content message.details.items)
    (λ message. AreDetailsBeside label (λ other. ShowsMessage other options) bytes message.details.items) c.sequence_labels.result
    (λ message is. together_beside label options bytes content c.content_of-content.ensures.content some long message.details.items is)
    c.sequence_labels.ensures.beside
