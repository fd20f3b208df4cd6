-- The file that could not be written is named.
use Rattle.std.proofs.Common.{◌∙◌, refl, subst}
use Rattle.programs.specs.Devices.{output, Writes}
use Rattle.std.specs.String.{string_bytes}
use Rattle.label_words.specs.Names.{numbered}
use Rattle.label_words.specs.Numberings.{numbering_of}
use Rattle.labels.specs.Runs.{last_number}
use Rattle.labels.proofs.LabelLemmas.{lines_said, lines_status-same}
use Rattle.labels.proofs.runs.serve_files.Goals as goal

pub returns : goal.returns
returns g c =
    let e = g.E.Sink.state in
    let outcome = c.draw_files-outcome.result in
    let source = c.args.label.now.source.now in
    let name = numbered (numbering_of c.args.name.now) in
    let read = (g.R.Source.state c.draw_files-outcome.new.reader).reason in
    let written = (g.F.Files.state c.draw_files-outcome.new.files).reason in
    record {
      outcome = outcome;
      said = output (e c.args.errors.now) (e c.draw_files-outcome.new.errors);
      begins = refl;
      sound = c.lines_status.ensures.failed;
      is_outcome = c.draw_files-outcome.ensures.outcome;
      status_is = (rw (c.reason.ensures, c.reason-2.ensures) at c.lines_status.ensures.status)
          ∙ lines_status-same source c.as_str.result.now (name (last_number outcome)) read written outcome;
      reports = subst (λ line. Writes (output (e c.draw_files-outcome.new.errors) (e c.lines_status.new.errors)) line)
          (lines_said source (string_bytes c.draw_files-outcome.new.path) name read written outcome c.draw_files-outcome.ensures.numbered)
          (rw (c.reason.ensures, c.reason-2.ensures, c.as_str.ensures.value) at c.lines_status.ensures.reported);
    }
