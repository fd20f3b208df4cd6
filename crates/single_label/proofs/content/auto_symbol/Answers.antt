-- The errors are those of the text, which has at most four bytes for each character.
use Rattle.std.proofs.Common.{◌≡◌, ◌≤◌, chars, false, inr, length, rules, subst, arith}
use Rattle.qrcode_base.specs.declared.symbols.TheConstants.{LONGEST_DATA}
use Rattle.single_label.specs.declared.content.TheConstants.{LONGEST_TEXT}
use Rattle.single_label.specs.Contents.{is_all_ascii, IsAutoRefusal}
use Rattle.single_label.proofs.StopLemmas.{if_err, on_ok}
use Rattle.single_label.proofs.TextLengths.{text_length}
use Rattle.single_label.proofs.content.auto_symbol.Goals as goal
use Rattle.smallest_symbols.specs.TextHeadline.{IsTextRefused}

pub returns-in-Ok-clause-refusal : goal.returns-in-Ok-clause-refusal
returns-in-Ok-clause-refusal c =
    let options = c.args.options.now in
    let bytes = c.args.bytes.now in
    let beyond : is_all_ascii bytes ≡ false = search rules in
    if_err (IsTextRefused options (chars c.in-Ok.text.now)) (IsAutoRefusal options bytes) c.smallest_text.result
    (λ e h. inr ((beyond, c.in-Ok.ensures.utf8), subst (λ text. IsTextRefused options (chars text) e) c.in-Ok.ensures.text h)) c.smallest_text.ensures.refusal

pub returns-in-Ok-clause-limit : goal.returns-in-Ok-clause-limit
returns-in-Ok-clause-limit c =
    let bytes = c.args.bytes.now in
    let most = text_length bytes c.in-Ok.ensures.utf8 in
    on_ok (length (chars c.in-Ok.text.now) ≤ LONGEST_DATA) (length bytes ≤ LONGEST_TEXT) c.smallest_text.result
    (λ few. omega (arith, most, rw (c.in-Ok.ensures.text) at few)) c.smallest_text.ensures.limit
