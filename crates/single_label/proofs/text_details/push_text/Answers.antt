-- There is no plan of fewer than 32768 bits.
use Rattle.std.proofs.Common.{[], append-nil, inr, refl, sym}
use Rattle.std.specs.String.{string_bytes}
use Rattle.single_label.proofs.text_details.push_text.Goals as goal

pub returns-in-None : goal.returns-in-None
returns-in-None c =
    ([], inr (rw (c.in-None.is) at c.in_ok-plan.ensures.none, refl), sym (append-nil (string_bytes c.args.text.now)))
