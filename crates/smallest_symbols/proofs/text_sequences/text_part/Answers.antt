-- A part runs from the start or the cut before it to its own cut or the end.
use Rattle.std.proofs.Common.{ℕ, ◌<◌, [], ◌∷◌, length, arith, subst, sym}
use Rattle.std.proofs.lemmas.Grind.{get_or_tail}
use Rattle.std.proofs.lemmas.List.{get_or_append_left, get_or_push}
use Rattle.std.specs.Str.{IsCharBoundary}
use Rattle.std.proofs.lemmas.Str.{IsCharBoundary-end}
use Rattle.qrcode_core.proofs.Sequences.{part_at}
use Rattle.smallest_symbols.proofs.TextCuts.{boundary}
use Rattle.smallest_symbols.proofs.text_sequences.text_part.Goals.{then-index-cuts, else-index-cuts}
use Rattle.smallest_symbols.proofs.text_sequences.text_part.Goals as goal

pub range-requires-clause-end_boundary : goal.range-requires-clause-end_boundary
range-requires-clause-end_boundary c =
    let message = c.args.text.now in
    elim c.if-index-cuts.branch [
      | then-index-cuts w ↦ subst (λ (n : ℕ). IsCharBoundary message n) (sym w.end-is) (IsCharBoundary-end message)
      | else-index-cuts w ↦
          (let inside : c.args.index < length c.args.cuts.now = omega (arith, c.requires.exists, w.if-index-cuts) in
          subst (λ (n : ℕ). IsCharBoundary message n) (sym w.end-is)
          (boundary message _ c.utf8.text (c.requires.whole c.args.index 0 inside)))
    ]

pub returns : goal.returns
returns c =
    let message = c.args.text.now in
    let cuts = c.args.cuts.now in
    let i = c.args.index in
    let end = get_or_append_left cuts (length message ∷ []) 0 i in
    grind (arith, part_at 0 cuts message i, get_or_push cuts (length message) 0 i, end, get_or_tail 0 cuts i 0)
