-- One character more, and all of them.
use Rattle.std.proofs.Common.{◌≡◌, ◌∙◌, ap, sym, subst, map}
use Rattle.std.specs.String.{string_bytes}
use Rattle.std.specs.Prelude.{fold, chars, IfOk}
use Rattle.std.proofs.lemmas.List.{map-id}
use Rattle.std.proofs.lemmas.Iterator.{YieldsList-from_chars}
use Rattle.std.proofs.lemmas.Iterator.Consumers.{YieldsList-end}
use Rattle.qrcode_render.specs.Captions.{Breaks, all_lines, broken_lines, next_character, no_lines}
use Rattle.qrcode_render.proofs.LineLemmas.{breaks_more}
use Rattle.qrcode_render.proofs.lines.broken_lines.Goals as goal

pub loop-c-preserved : goal.loop-c-preserved
loop-c-preserved c =
    c.in_ok-push_next.ensures ∙ ap (λ (b : Breaks). next_character c.args.most b c.in-Some.c) c.loop-c.invariant
    ∙ sym (breaks_more c.args.most no_lines c.loop-c.yielded c.in-Some.c)

pub returns : goal.returns
unfolding broken_lines
returns c =
    let t = YieldsList-end (YieldsList-from_chars c.args.text.now c.utf8.text cc)
    c.loop-c.yielded _ c.loop-c.yielded_by _ _ c.in-None.is c.next.ensures.steps in
    let all : fold (next_character c.args.most) no_lines c.loop-c.yielded ≡ fold (next_character c.args.most) no_lines (chars c.args.text.now) =
    ap (fold (next_character c.args.most) no_lines) (sym (map-id c.loop-c.yielded) ∙ t.0) in
    subst (λ (b : Breaks). IfOk c.all_lines.result (λ lines. map string_bytes lines.items ≡ all_lines b)) (c.loop-c.invariant ∙ all) c.all_lines.ensures
