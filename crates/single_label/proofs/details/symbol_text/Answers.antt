-- The text is head, segments, size and the other way.
use Rattle.std.proofs.Common.{arith, append_assoc}
use Rattle.std.proofs.lemmas.Grind.{common_steps}
use Rattle.single_label.proofs.details.symbol_text.Goals as goal

pub returns-clause-details : goal.returns-clause-details
returns-clause-details c =
    let segments = c.in_ok-push_known_segments.ensures.details in
    let other = c.in_ok-push_other_way.ensures in
    record {
      segments = segments.0;
      are_segments = segments.1;
      other = other.0;
      other_is = other.1;
      text_is = grind (arith, common_steps, append_assoc, segments.2, other.2);
    }
