-- More of the line was read, or its end.
use Rattle.std.proofs.Common.{arith, rules, take, ◌≡◌, [], ◌∷◌, ◌++◌}
use Rattle.std.proofs.lemmas.Grind.{common_steps}
use Rattle.programs.proofs.LineLemmas.{skipped_newline, skipped_last, part_more}
use Rattle.programs.proofs.lines.skip_line.Goals as goal

pub returns-in-Some-eq0-clause-rest : goal.returns-in-Some-eq0-clause-rest
returns-in-Some-eq0-clause-rest g c =
    skipped_last _ _ _ c.skipping.invariant.begun.part c.skipping.invariant.begun.begins
    (grind (arith, common_steps)) (grind (arith, common_steps))

pub returns-then-byte-eq10-clause-rest : goal.returns-then-byte-eq10-clause-rest
returns-then-byte-eq10-clause-rest g c =
    let newline : take c.in-Some.field-0 c.pull.new.buf ≡ 10 ∷ [] = grind (arith, common_steps) in
    skipped_newline _ _ _ c.skipping.invariant.begun.part c.skipping.invariant.begun.begins (rw newline at c.in-Some.ensures.bytes)

pub skipping-preserved : goal.skipping-preserved
skipping-preserved g c = record {
  begun = record {
    part = c.skipping.invariant.begun.part ++ take c.in-Some.field-0 c.pull.new.buf;
    begins = part_more _ _ _ c.skipping.invariant.begun.part _ c.skipping.invariant.begun.begins c.in-Some.ensures.bytes (grind (arith, common_steps));
  };
  sound = search rules;
}
