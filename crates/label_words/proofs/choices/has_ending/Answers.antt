-- The end of a name is the ending, but for capital letters.
use Rattle.std.proofs.Common.{rules}
use Rattle.label_words.proofs.WordLemmas.{ends}
use Rattle.label_words.proofs.choices.has_ending.Goals as goal

pub returns : goal.returns
returns c =
    rw (c.as_bytes-name.ensures.value, c.as_bytes-ending.ensures.value) at
    (ends c.eq_ignore_ascii_case.result c.as_bytes-name.result.now c.as_bytes-ending.result.now c.saturating_sub.result (search rules)
    c.eq_ignore_ascii_case.ensures.test)
