use Rattle.std.proofs.Common.{◌++◌, take, arith}
use Rattle.std.proofs.lemmas.Grind.{common_steps}
use Rattle.programs.proofs.DeviceLemmas.{Consumes-append}
use Rattle.programs.proofs.read_up_to.Goals as goal

pub returns-in_err-extend_from_slice-clause-within : goal.returns-in_err-extend_from_slice-clause-within
returns-in_err-extend_from_slice-clause-within g c = record {
  bytes = c.reading.bytes.items ++ take c.in-Some.n c.pull.new.buf;
  read = Consumes-append _ _ _ c.reading.bytes.items (take c.in-Some.n c.pull.new.buf) c.reading.invariant.read c.in-Some.ensures.bytes;
  within = grind (arith, common_steps);
  fewer = λ failed. grind (arith, common_steps);
}
