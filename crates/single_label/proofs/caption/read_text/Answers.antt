-- The text of the elements of a sound string is UTF-8.
use Rattle.std.proofs.Common.{◌≡◌, ◌∙◌}
use Rattle.std.specs.String.{string_bytes}
use Rattle.gs1.specs.Elements.{Element, bracketed}
use Rattle.gs1.specs.Reader.{FindsOnly}
use Rattle.single_label.proofs.CaptionLemmas.{sound_text}
use Rattle.single_label.proofs.StopLemmas.{if_ok}
use Rattle.single_label.proofs.caption.read_text.Goals as goal

pub utf8_text-requires : goal.utf8_text-requires
utf8_text-requires c =
    rw c.deref.ensures.value (sound_text c.args.bytes.now c.in_ok-text.text.items c.requires c.in_ok-text.ensures).utf8

pub returns : goal.returns
returns c =
    let read = sound_text c.args.bytes.now c.in_ok-text.text.items c.requires c.in_ok-text.ensures in
    if_ok (λ text. string_bytes text ≡ c.deref.result.now)
    (λ text. (elements : _) × FindsOnly c.args.bytes.now elements × (string_bytes text ≡ bracketed elements)) c.utf8_text.result
    (λ text is. (read.elements, read.found, is ∙ c.deref.ensures.value ∙ read.text_is)) c.utf8_text.ensures
