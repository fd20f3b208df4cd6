-- One character more, and all of them.
use Rattle.std.proofs.Common.{◌++◌, ◌∙◌, ap, sym, append-nil}
use Rattle.std.specs.Prelude.{encode_utf8_all}
use Rattle.std.specs.String.{string_bytes}
use Rattle.std.proofs.lemmas.List.{map-id}
use Rattle.std.proofs.lemmas.Iterator.{YieldsList-from_chars}
use Rattle.std.proofs.lemmas.Iterator.Consumers.{YieldsList-end}
use Rattle.picture_settings.specs.Xml.{escape, escaped, xml_text}
use Rattle.picture_settings.proofs.Ranges.{joined}
use Rattle.picture_settings.proofs.XmlLemmas.{escaped_more}
use Rattle.picture_settings.proofs.xml.push_escaped.Goals as goal

pub loop-c-init : goal.loop-c-init
unfolding escaped
loop-c-init c = sym (append-nil (string_bytes c.args.out.now))

pub loop-c-preserved : goal.loop-c-preserved
loop-c-preserved c =
    joined (string_bytes c.args.out.now) (encode_utf8_all (escaped c.loop-c.yielded)) _ (encode_utf8_all (escape c.in-Some.c)) _ _
    (escaped_more c.loop-c.yielded c.in-Some.c) c.loop-c.invariant c.in_ok-push_character.ensures

pub returns : goal.returns
unfolding xml_text
returns c =
    let t = YieldsList-end (YieldsList-from_chars c.args.text.now c.utf8.text cc)
    c.loop-c.yielded _ c.loop-c.yielded_by _ _ c.in-None.is c.next.ensures.steps in
    c.loop-c.invariant
    ∙ ap (λ cs. string_bytes c.args.out.now ++ encode_utf8_all (escaped cs)) (sym (map-id c.loop-c.yielded) ∙ t.0)
