-- One file more, or none.
use Rattle.std.proofs.Common.{◌≡◌, ◌<◌, [], arith, rules, length, get_or}
use Rattle.std.proofs.lemmas.Grind.{common_steps}
use Rattle.std.specs.Prelude.{map, vec_items}
use Rattle.label_words.specs.Numberings.{numbering_of}
use Rattle.labels.proofs.PartFileLemmas.{parts_more, parts_stopped, item_at}
use Rattle.labels.proofs.part_files.put_parts.Goals as goal

pub parts-preserved : goal.parts-preserved
parts-preserved g c =
    let vs = c.args.drawings.now in
    let i = c.parts.index in
    let within : i < length (map vec_items vs) = grind (arith, common_steps) in
    let same : c.deref.result.now ≡ get_or (map vec_items vs) i [] = grind (arith, common_steps, item_at vs i c.index-drawings-index.result) in
    record {
      added = parts_more (numbering_of c.args.name.now) _ _ _ (map vec_items vs) i within c.parts.invariant.added (rw (← same) (search rules));
      sound = search rules;
    }

pub returns-in-Err-clause-begun : goal.returns-in-Err-clause-begun
returns-in-Err-clause-begun g c =
    let vs = c.args.drawings.now in
    let within : c.parts.index < length (map vec_items vs) = grind (arith, common_steps) in
    parts_stopped (numbering_of c.args.name.now) (g.F.Files.state c.args.files.now) (g.F.Files.state c.parts.files) (g.F.Files.state c.put_part.new.files)
    (map vec_items vs) c.parts.index c.in-Err.stop _ within c.parts.invariant.added c.in-Err.ensures.nothing c.in-Err.ensures.why
