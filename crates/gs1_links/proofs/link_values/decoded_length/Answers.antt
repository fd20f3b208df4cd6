use Rattle.std.proofs.Common.{sym, ◌∙◌}
use Rattle.gs1_links.proofs.LinkLoops.{count_more, length_some, length_none}
use Rattle.gs1_links.proofs.LinkValues.{shorter}
use Rattle.gs1_links.proofs.link_values.decoded_length.Goals as goal

pub loop-rest-smaller : goal.loop-rest-smaller
loop-rest-smaller c = rw c.after_byte-rest.ensures (shorter _ (sym c.begins_with_byte.ensures ∙ c.loop-rest-test.true))

pub loop-rest-preserved : goal.loop-rest-preserved
loop-rest-preserved c =
    count_more _ _ _ _ c.after_byte-rest.ensures (sym c.begins_with_byte.ensures ∙ c.loop-rest-test.true) c.loop-rest.invariant

pub returns-then-not-is_empty : goal.returns-then-not-is_empty
returns-then-not-is_empty c =
    length_none _ _ _ (sym c.begins_with_byte.ensures ∙ c.loop-rest-test.false) (sym c.is_empty.ensures ∙ c.if-not-is_empty.true) c.loop-rest.invariant

pub returns : goal.returns
returns c =
    length_some _ _ _ (sym c.begins_with_byte.ensures ∙ c.loop-rest-test.false) (sym c.is_empty.ensures ∙ c.if-not-is_empty.false) c.loop-rest.invariant
