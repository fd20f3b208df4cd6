-- One piece more, or a beginning of it.
use Rattle.std.proofs.Common.{rules, ◌≡◌, true}
use Rattle.programs.proofs.DeviceLemmas.{pieces_stopped, pieces_written}
use Rattle.programs.proofs.reports.push_pieces.Goals as goal

pub returns-in_err-push_all-clause-writes : goal.returns-in_err-push_all-clause-writes
returns-in_err-push_all-clause-writes g c =
    let state = g.E.Sink.state in
    let failed : (state c.push_all.new.writer).failed ≡ true = search rules in
    pieces_stopped (state c.args.errors.now) (state c.loop-piece.errors) (state c.push_all.new.writer) c.args.pieces.now c.loop-piece.piece-index _
    (search rules) failed c.loop-piece.invariant.sent (rw c.as_bytes.ensures.value at c.push_all.ensures.writes)

pub returns-clause-writes : goal.returns-clause-writes
returns-clause-writes g c =
    pieces_written (g.E.Sink.state c.args.errors.now) (g.E.Sink.state c.loop-piece.errors) c.args.pieces.now c.loop-piece.piece-index (search rules)
    c.loop-piece.invariant.sent
