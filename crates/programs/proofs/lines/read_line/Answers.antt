-- A line ends with its newline or with the input, or too much of it is read.
use Rattle.std.proofs.Common.{inl, arith, take, ◌≡◌, [], ◌∷◌, ◌++◌}
use Rattle.std.proofs.lemmas.Grind.{common_steps}
use Rattle.programs.proofs.LineLemmas.{line_read, last_read, part_more, on_err, strip_shorter}
use Rattle.programs.proofs.lines.read_line.Goals as goal

pub returns-in-Some-eq0-clause-line : goal.returns-in-Some-eq0-clause-line
returns-in-Some-eq0-clause-line g c some =
    inl (record {
      read = last_read _ _ _ c.reading.line.items c.reading.invariant.part
          (grind (arith, common_steps)) (grind (arith, common_steps)) (grind (arith, common_steps));
      short = grind arith;
    })

pub returns-then-byte-eq10-clause-line : goal.returns-then-byte-eq10-clause-line
returns-then-byte-eq10-clause-line g c done =
    let newline : take c.in-Some.field-0 c.pull.new.buf ≡ 10 ∷ [] = grind (arith, common_steps) in
    inl (rw c.strip_return.ensures (record {
      read = line_read _ _ _ c.reading.line.items c.reading.invariant.part (rw newline at c.in-Some.ensures.bytes);
      short = grind (arith, common_steps, strip_shorter 13 c.reading.line.items);
    }))

pub returns-in_err-map_err-clause-beginning : goal.returns-in_err-map_err-clause-beginning
returns-in_err-map_err-clause-beginning g c = on_err c.from_residual.result (record {
  part = c.reading.line.items ++ take c.in-Some.field-0 c.pull.new.buf;
  begins = part_more _ _ _ c.reading.line.items _ c.reading.invariant.part c.in-Some.ensures.bytes (grind (arith, common_steps));
})
