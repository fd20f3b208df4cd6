-- The first byte that is not UTF-8 is reported.
use Rattle.std.proofs.{Common.arith, lemmas.Option.slice_get-get_or}
use Rattle.single_label.proofs.content.utf8_of.Goals as goal

pub returns-in-Err-clause-refusal : goal.returns-in-Err-clause-refusal
returns-in-Err-clause-refusal c =
    let valid = c.in-Err.ensures.cases.1 in (
      c.in-Err.ensures.cases.0,
      record {
        valid = rw c.valid_up_to-position.ensures valid;
        found = slice_get-get_or c.args.bytes.now c.valid_up_to-position.result 0 (omega (arith, c.valid_up_to-position.ensures, valid.short));
      },
    )
