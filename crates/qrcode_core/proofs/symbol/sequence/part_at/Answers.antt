-- A part runs from the start or the cut before it to its own cut or the end.
use Rattle.qrcode_core.proofs.Prelude.{get_or_tail, [], ◌∷◌, length, arith, get_or_append_left, get_or_push}
use Rattle.qrcode_core.proofs.Sequences.{part_at}
use Rattle.qrcode_core.proofs.symbol.sequence.part_at.Goals as goal

pub returns : goal.returns
returns c =
    let message = c.args.bytes.now in
    let cuts = c.args.cuts.now in
    let i = c.args.index in
    let end = get_or_append_left cuts (length message ∷ []) 0 i in
    grind (arith, part_at 0 cuts message i, get_or_push cuts (length message) 0 i, end, get_or_tail 0 cuts i 0)
