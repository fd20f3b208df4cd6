-- One byte more, or a beginning of it.
use Rattle.std.proofs.Common.{rules, refl, [], ◌∷◌, ◌++◌}
use Rattle.std.specs.Prelude.{slice_index}
use Rattle.programs.specs.Quotes.{quoted_byte, quoted_word}
use Rattle.programs.specs.Devices.{output}
use Rattle.programs.proofs.DeviceLemmas.{Appends-none, Appends-append, Writes-next, Writes-stopped}
use Rattle.programs.proofs.QuoteLemmas.{byte_stopped, quote_last, quoted_more}
use Rattle.programs.proofs.quotes.push_quoted.Goals as goal

pub returns-in_err-push_all-clause-writes : goal.returns-in_err-push_all-clause-writes
unfolding quoted_word
returns-in_err-push_all-clause-writes g c =
    Writes-stopped (output (g.E.Sink.state c.args.errors.now) (g.E.Sink.state c.push_all.new.writer)) (39 ∷ []) _ (search rules) c.push_all.ensures.writes

pub loop-byte-init : goal.loop-byte-init
loop-byte-init g c = record {
  text = [];
  sent = Appends-none (g.E.Sink.state c.push_all.new.writer).written;
  whole = refl;
  sound = search rules;
}

pub returns-in_err-push_byte-clause-writes : goal.returns-in_err-push_byte-clause-writes
unfolding quoted_word
returns-in_err-push_byte-clause-writes g c =
    let state = g.E.Sink.state in
    Writes-next (state c.args.errors.now) (state c.push_all.new.writer) (state c.push_byte.new.errors) (39 ∷ []) _ (search rules) c.push_all.ensures.writes
    (byte_stopped (state c.push_all.new.writer) (state c.loop-byte.errors) (state c.push_byte.new.errors) c.loop-byte.escaped c.args.word.now
    c.loop-byte.invariant.text c.loop-byte.byte-index (search rules) c.loop-byte.invariant.whole (search rules) c.loop-byte.invariant.sent
    (rw c.as_bytes-byte-items.ensures.value at c.push_byte.ensures.writes))

pub loop-byte-preserved : goal.loop-byte-preserved
loop-byte-preserved g c =
    let state = g.E.Sink.state in
    let byte = slice_index c.args.word.now c.loop-byte.byte-index in
    let inside = c.loop-byte.invariant in
    record {
      text = inside.text ++ quoted_byte c.loop-byte.escaped byte;
      sent = Appends-append (state c.push_all.new.writer).written (state c.loop-byte.errors).written (state c.push_byte.new.errors).written
          inside.text (quoted_byte c.loop-byte.escaped byte) inside.sent ((rw c.as_bytes-byte-items.ensures.value at c.push_byte.ensures.writes).whole (search rules));
      whole = rw (c.is_shown-escaped.ensures, c.as_bytes-byte-items.ensures.value) (quoted_more c.loop-byte.escaped c.args.word.now inside.text _ c.loop-byte.byte-index (search rules) inside.whole);
      sound = search rules;
    }

pub returns-clause-writes : goal.returns-clause-writes
unfolding quoted_word
returns-clause-writes g c =
    let state = g.E.Sink.state in
    Writes-next (state c.args.errors.now) (state c.push_all.new.writer) (state c.push_all-2.new.writer) (39 ∷ []) _ (search rules) c.push_all.ensures.writes
    (quote_last (state c.push_all.new.writer) (state c.loop-byte.errors) (state c.push_all-2.new.writer) c.loop-byte.escaped c.args.word.now
    c.loop-byte.invariant.text c.loop-byte.byte-index (search rules) c.loop-byte.invariant.whole c.loop-byte.invariant.sent c.push_all-2.ensures.writes)
