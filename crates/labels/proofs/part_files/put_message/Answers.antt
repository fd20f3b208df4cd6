-- There are no labels of what was read, or some of them were written.
use Rattle.std.proofs.Common.{arith, rules}
use Rattle.std.specs.Prelude.{map, vec_items}
use Rattle.std.specs.String.{string_bytes}
use Rattle.programs.specs.Devices.{input}
use Rattle.programs.proofs.DeviceLemmas.{ReadsAll-short}
use Rattle.single_label.specs.Parts.{most_together}
use Rattle.label_words.specs.Numberings.{numbering_of}
use Rattle.labels.specs.Runs.{AreDrawings}
use Rattle.labels.proofs.PartFileLemmas.{puts_none, puts_first}
use Rattle.labels.proofs.part_files.put_message.Goals as goal

pub returns-in-Err-clause-outcome : goal.returns-in-Err-clause-outcome
returns-in-Err-clause-outcome g c =
    puts_none c.args.label.now c.args.options.now (g.R.Source.state c.args.reader.now) (g.R.Source.state c.read_up_to.new.reader)
    (g.F.Files.state c.args.files.now) (numbering_of c.args.name.now) (string_bytes c.args.path.now) c.in_ok-bytes.bytes.items c.in-Err.stop
    (rw (c.most_together.ensures.is) at c.in_ok-bytes.ensures.read) (rw (c.deref.ensures.value) at c.in-Err.ensures.refusal) (grind (arith, c.in_ok-bytes.ensures.failure)) (search rules)

pub returns-clause-outcome : goal.returns-clause-outcome
returns-clause-outcome g c =
    let r = g.R.Source.state c.args.reader.now in
    let s = g.R.Source.state c.read_up_to.new.reader in
    let bytes = c.in_ok-bytes.bytes.items in
    let drawings = map vec_items c.in-Ok.message.drawings.items in
    let are : AreDrawings c.args.label.now c.args.options.now (input r s) drawings c.in-Ok.message.details.items = record {
      bytes = bytes;
      read = ReadsAll-short (most_together c.args.label.now.content) (input r s) bytes (rw (c.most_together.ensures.is) at c.in_ok-bytes.ensures.read) (rw (c.deref.ensures.value) at c.in-Ok.ensures.limit);
      shown = rw (c.deref.ensures.value) at c.in-Ok.ensures.shown;
      are_details = rw (c.deref.ensures.value) at c.in-Ok.ensures.beside;
    } in
    puts_first c.args.label.now c.args.options.now r s (g.F.Files.state c.args.files.now) (g.F.Files.state c.put_parts.new.files) (numbering_of c.args.name.now)
    (string_bytes c.put_parts.new.path) drawings c.in-Ok.message.details.items c.in-Err-put_parts.stop are
    (rw (c.deref-2.ensures.value) at c.in-Err-put_parts.ensures.begun) (grind (arith, c.in_ok-bytes.ensures.failure))
