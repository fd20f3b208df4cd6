-- The segments lie in the bytes.
use Rattle.std.proofs.Common.{rules, length}
use Rattle.std.proofs.lemmas.Iterator.{YieldsList-from_slice}
use Rattle.std.proofs.lemmas.Iterator.Consumers.{YieldsList-from_copied}
use Rattle.qrcode_bits.specs.Spelling.{LiesIn}
use Rattle.qrcode_bits.proofs.Listed.{given_all}
use Rattle.qrcode_tests.proofs.refused_growth.pushes.push_three.Goals as goal

pub push_segments-requires-clause-within : goal.push_segments-requires-clause-within
push_segments-requires-clause-within c = λ xs came.
    given_all c.copied.result c.iter.result.rest.now (YieldsList-from_copied (YieldsList-from_slice c.iter.result.rest.now (search rules)))
    (LiesIn (length c.forty_of_each.result)) ⊥ xs (search rules) came
