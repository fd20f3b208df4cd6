-- A text in brackets that is no UTF-8 has no details, and a string has the elements that are read.
use Rattle.std.proofs.Common.{◌≡◌, ◌∙◌, sym, inl, inr}
use Rattle.single_label.proofs.CaptionLemmas.{string_sound, not_utf8}
use Rattle.single_label.proofs.caption.bracketed_text.Goals as goal

pub read_text-requires : goal.read_text-requires
read_text-requires c =
    string_sound c.args.content c.args.text.now c.requires.elements (sym c.is_written.ensures ∙ c.if-is_written.false) c.requires.sound
