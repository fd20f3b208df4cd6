-- One character more, and all of them.
use Rattle.std.proofs.Common.{◌++◌, ◌∙◌, ap, sym, flat_map}
use Rattle.std.proofs.lemmas.List.{map-id}
use Rattle.std.proofs.lemmas.Iterator.{YieldsList-from_chars}
use Rattle.std.proofs.lemmas.Iterator.Consumers.{YieldsList-end}
use Rattle.qrcode_render.specs.Captions.{character_bytes, one_line}
use Rattle.qrcode_render.proofs.LineLemmas.{characters_more}
use Rattle.qrcode_render.proofs.lines.one_line.Goals as goal

pub loop-c-preserved : goal.loop-c-preserved
loop-c-preserved c =
    c.in_ok-push_character.ensures ∙ ap (λ l. l ++ character_bytes c.in-Some.c) c.loop-c.invariant ∙ sym (characters_more c.loop-c.yielded c.in-Some.c)

pub returns : goal.returns
unfolding one_line
returns c =
    let t = YieldsList-end (YieldsList-from_chars c.args.text.now c.utf8.text cc)
    c.loop-c.yielded _ c.loop-c.yielded_by _ _ c.in-None.is c.next.ensures.steps in
    c.loop-c.invariant ∙ ap (flat_map character_bytes) (sym (map-id c.loop-c.yielded) ∙ t.0)
