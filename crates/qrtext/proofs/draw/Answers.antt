-- There is no symbol of what was read.
use Rattle.std.proofs.Common.{arith, rules}
use Rattle.std.proofs.lemmas.Result.{err_from_is_err_and}
use Rattle.qrtext.specs.Drawing.{ShowsText}
use Rattle.qrtext.specs.Words.{text_request, RefusesText}
use Rattle.qrtext.proofs.OutcomeLemmas.{refused}
use Rattle.qrtext.proofs.draw.Goals as goal

pub returns-in_err-text-clause-outcome : goal.returns-in_err-text-clause-outcome
returns-in_err-text-clause-outcome g c =
    let asked = text_request c.args.micro c.args.level in
    let p = err_from_is_err_and c.from_residual-in_err-text.result c.from_residual-in_err-text.ensures.1 in
    rw (p.1, p.2) (refused (ShowsText asked) (RefusesText asked) (g.R.Source.state c.args.reader.now) (g.R.Source.state c.read_all.new.reader)
    (g.W.Sink.state c.args.writer.now) c.in_ok-bytes.bytes.items _ c.in_ok-bytes.ensures.read
    (rw (c.deref.ensures.value) at c.in_err-text.ensures.refusal) (grind (arith, c.in_ok-bytes.ensures.failure)) (search rules))
