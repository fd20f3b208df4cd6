-- The line is left out, and its rest was read, or reading failed there.
use Rattle.std.proofs.Common.{◌≡◌, inl, refl, subst, arith, rules}
use Rattle.programs.specs.Lines.{ReadsLine}
use Rattle.labels.specs.Lines.{IsLineLeftOut}
use Rattle.programs.specs.declared.Fault.TheVariants.{Read}
use Rattle.single_label.specs.Contents.{most_bytes}
use Rattle.single_label.specs.Labels.{IsLabelStop}
use Rattle.single_label.specs.declared.stop.Stop.TheVariants.{Fault as FaultStop}
use Rattle.single_label.proofs.StopLemmas.{no_device}
use Rattle.labels.proofs.LabelLemmas.{left_out_short, left_out_long, stops_long, stops_at}
use Rattle.labels.proofs.lines.next_made.Goals.{then-len-most+in_ok-skip_line-in-Err, else-len-most}
use Rattle.labels.proofs.lines.next_made.Goals as goal

pub returns-after-len-most-clause-made : goal.returns-after-len-most-clause-made
returns-after-len-most-clause-made g c =
    let a = (g.R.Source.state c.args.reader.now).left in
    let b = (g.R.Source.state c.read_line.new.reader).left in
    let line = c.read_line.new.line.items in
    let read : ReadsLine (most_bytes c.args.label.now.content) a b line = search rules in
    let out : IsLineLeftOut c.args.label.now line c.in-Err.stop = record {
      asked = search rules;
      stopped = rw (c.deref.ensures.value) at c.in-Err.ensures.refusal;
      of_line = search rules;
    } in
    elim c.if-len-most.branch [
      | then-len-most+in_ok-skip_line-in-Err w ↦ rw (w.reader-is) (left_out_long _ _ a b _ line c.in-Err.stop read (search rules) (search rules) out)
      | else-len-most w ↦ rw (w.reader-is) (left_out_short _ _ a b line c.in-Err.stop read (search rules) out)
    ]

pub returns-in_err-skip_line-in-Err-clause-refusal : goal.returns-in_err-skip_line-in-Err-clause-refusal
returns-in_err-skip_line-in-Err-clause-refusal g c =
    let a = (g.R.Source.state c.args.reader.now).left in
    let b = (g.R.Source.state c.read_line.new.reader).left in
    let line = c.read_line.new.line.items in
    let read : ReadsLine (most_bytes c.args.label.now.content) a b line = search rules in
    grind (arith, stops_long c.args.label.now a b (g.R.Source.state c.skip_line.new.reader).left line c.in_err-skip_line-in-Err.field-0.0 read)

pub returns-in-Err-2-clause-refusal : goal.returns-in-Err-2-clause-refusal
returns-in-Err-2-clause-refusal g c =
    let a = (g.R.Source.state c.args.reader.now).left in
    let b = (g.R.Source.state c.read_line.new.reader).left in
    let line = c.read_line.new.line.items in
    let read : ReadsLine (most_bytes c.args.label.now.content) a b line = search rules in
    stops_at c.args.label.now a b line c.in-Err.stop read (rw (c.deref.ensures.value) at c.in-Err.ensures.refusal) (search rules)

pub returns-in-Err-2-clause-failure : goal.returns-in-Err-2-clause-failure
returns-in-Err-2-clause-failure g c =
    let label = c.args.label.now in
    let line = c.read_line.new.line.items in
    let stopped : IsLabelStop label line c.in-Err.stop = rw (c.deref.ensures.value) at c.in-Err.ensures.refusal in (
      (λ is. let same : c.in-Err.stop ≡ FaultStop Read = grind (arith, is) in
          absurd (no_device label line Read (inl refl) (subst (λ stop. IsLabelStop label line stop) same stopped))),
      (λ failed. absurd (grind (arith, failed, c.in_ok-read_line.ensures.failure))),
    )
