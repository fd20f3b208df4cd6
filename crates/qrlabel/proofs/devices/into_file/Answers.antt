-- The labels were made, and the file was finished or discarded.
use Rattle.std.proofs.Common.{inl, Some, false}
use Rattle.label_words.specs.Values.{said}
use Rattle.qrlabel.proofs.ExitLemmas.{delivers, file_ends}
use Rattle.qrlabel.proofs.devices.into_file.Goals as goal

pub returns : goal.returns
returns g c =
    let e = g.E.Sink.state in
    let label = c.args.label.now in
    let path = c.args.path.now in
    let a = e c.args.errors.now in
    let b = e c.from_input-status.new.errors in
    let mid = e c.paged-status.new.errors in
    let ran = c.from_input-status.result in
    inl (delivers (said c.args.values.now) label (Some path) false _ a b (e c.close.new.errors) ran c.close.result c.from_input-status.ensures
    (file_ends label path b mid (e c.close.new.errors) ran c.paged-status.result c.close.result
    c.paged-status.ensures.ends c.close.ensures.discarded c.close.ensures.finished))
