-- The parts of the line, one after the other. Where writing stops, those so far are a beginning.
use Rattle.std.proofs.Common.{rules, ◌≡◌, [], ◌∷◌, true, false}
use Rattle.std.specs.Prelude.{flat_map}
use Rattle.programs.specs.Quotes.{shown_word}
use Rattle.programs.proofs.DeviceLemmas.{Writes-stopped, Writes-next}
use Rattle.programs.proofs.quotes.write_word_line.Goals as goal

pub returns-in_err-push_all : goal.returns-in_err-push_all
returns-in_err-push_all g c =
    let failed : (g.E.Sink.state c.push_all.new.writer).failed ≡ true = search rules in
    Writes-stopped _ c.args.program.now _ failed (rw c.as_bytes.ensures.value at c.push_all.ensures.writes)

pub returns-in_err-push_all-2 : goal.returns-in_err-push_all-2
returns-in_err-push_all-2 g c =
    let state = g.E.Sink.state in
    let sound : (state c.push_all.new.writer).failed ≡ false = search rules in
    let failed : (state c.push_all-2.new.writer).failed ≡ true = search rules in
    Writes-next (state c.args.errors.now) (state c.push_all.new.writer) _ c.args.program.now _ sound (rw c.as_bytes.ensures.value at c.push_all.ensures.writes)
    (Writes-stopped _ (58 ∷ 32 ∷ []) _ failed c.push_all-2.ensures.writes)

pub returns-in_err-push_pieces : goal.returns-in_err-push_pieces
returns-in_err-push_pieces g c =
    let state = g.E.Sink.state in
    let sound : (state c.push_all.new.writer).failed ≡ false = search rules in
    let sound_too : (state c.push_all-2.new.writer).failed ≡ false = search rules in
    let failed : (state c.push_pieces.new.errors).failed ≡ true = search rules in
    Writes-next (state c.args.errors.now) (state c.push_all.new.writer) _ c.args.program.now _ sound (rw c.as_bytes.ensures.value at c.push_all.ensures.writes)
    (Writes-next (state c.push_all.new.writer) (state c.push_all-2.new.writer) _ (58 ∷ 32 ∷ []) _ sound_too c.push_all-2.ensures.writes
    (Writes-stopped _ (flat_map (λ piece. piece.now) c.args.before.now) _ failed c.push_pieces.ensures.writes))

pub returns-in_err-push_word : goal.returns-in_err-push_word
returns-in_err-push_word g c =
    let state = g.E.Sink.state in
    let sound : (state c.push_all.new.writer).failed ≡ false = search rules in
    let sound_too : (state c.push_all-2.new.writer).failed ≡ false = search rules in
    let sound_still : (state c.push_pieces.new.errors).failed ≡ false = search rules in
    let failed : (state c.push_word.new.errors).failed ≡ true = search rules in
    Writes-next (state c.args.errors.now) (state c.push_all.new.writer) _ c.args.program.now _ sound (rw c.as_bytes.ensures.value at c.push_all.ensures.writes)
    (Writes-next (state c.push_all.new.writer) (state c.push_all-2.new.writer) _ (58 ∷ 32 ∷ []) _ sound_too c.push_all-2.ensures.writes
    (Writes-next (state c.push_all-2.new.writer) (state c.push_pieces.new.errors) _ (flat_map (λ piece. piece.now) c.args.before.now) _ sound_still
    c.push_pieces.ensures.writes
    (Writes-stopped _ (shown_word c.args.word.in_quotes c.args.word.text.now) _ failed c.push_word.ensures.writes)))

pub returns-in_err-push_pieces-2 : goal.returns-in_err-push_pieces-2
returns-in_err-push_pieces-2 g c =
    let state = g.E.Sink.state in
    let sound : (state c.push_all.new.writer).failed ≡ false = search rules in
    let sound_too : (state c.push_all-2.new.writer).failed ≡ false = search rules in
    let sound_still : (state c.push_pieces.new.errors).failed ≡ false = search rules in
    let sound_word : (state c.push_word.new.errors).failed ≡ false = search rules in
    let failed : (state c.push_pieces-2.new.errors).failed ≡ true = search rules in
    Writes-next (state c.args.errors.now) (state c.push_all.new.writer) _ c.args.program.now _ sound (rw c.as_bytes.ensures.value at c.push_all.ensures.writes)
    (Writes-next (state c.push_all.new.writer) (state c.push_all-2.new.writer) _ (58 ∷ 32 ∷ []) _ sound_too c.push_all-2.ensures.writes
    (Writes-next (state c.push_all-2.new.writer) (state c.push_pieces.new.errors) _ (flat_map (λ piece. piece.now) c.args.before.now) _ sound_still
    c.push_pieces.ensures.writes
    (Writes-next (state c.push_pieces.new.errors) (state c.push_word.new.errors) _ (shown_word c.args.word.in_quotes c.args.word.text.now) _ sound_word
    c.push_word.ensures.writes
    (Writes-stopped _ (flat_map (λ piece. piece.now) c.args.after.now) _ failed c.push_pieces-2.ensures.writes))))

pub returns : goal.returns
returns g c =
    let state = g.E.Sink.state in
    let sound : (state c.push_all.new.writer).failed ≡ false = search rules in
    let sound_too : (state c.push_all-2.new.writer).failed ≡ false = search rules in
    let sound_still : (state c.push_pieces.new.errors).failed ≡ false = search rules in
    let sound_word : (state c.push_word.new.errors).failed ≡ false = search rules in
    let sound_after : (state c.push_pieces-2.new.errors).failed ≡ false = search rules in
    Writes-next (state c.args.errors.now) (state c.push_all.new.writer) _ c.args.program.now _ sound (rw c.as_bytes.ensures.value at c.push_all.ensures.writes)
    (Writes-next (state c.push_all.new.writer) (state c.push_all-2.new.writer) _ (58 ∷ 32 ∷ []) _ sound_too c.push_all-2.ensures.writes
    (Writes-next (state c.push_all-2.new.writer) (state c.push_pieces.new.errors) _ (flat_map (λ piece. piece.now) c.args.before.now) _ sound_still
    c.push_pieces.ensures.writes
    (Writes-next (state c.push_pieces.new.errors) (state c.push_word.new.errors) _ (shown_word c.args.word.in_quotes c.args.word.text.now) _ sound_word
    c.push_word.ensures.writes
    (Writes-next (state c.push_word.new.errors) (state c.push_pieces-2.new.errors) _ (flat_map (λ piece. piece.now) c.args.after.now) _ sound_after
    c.push_pieces-2.ensures.writes
    c.write_all.ensures.writes))))
