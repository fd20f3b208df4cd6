-- The law of the best symbol.
use Rattle.qrcode_core.proofs.NoneBetter.{none_better_with_header, none_too_long, none_too_long_for_micro}
use Rattle.qrcode_core.proofs.laws.none_is_better.Goals as goal

pub returns-clause-better : goal.returns-clause-better
returns-clause-better c = λ kind front bytes level grid best. best.none_better

pub returns-clause-better_with_header : goal.returns-clause-better_with_header
returns-clause-better_with_header c = λ kind content bytes level grid best.
    none_better_with_header kind content bytes level best.number best.payload best.smallest best.fewest

pub returns-clause-too_long : goal.returns-clause-too_long
returns-clause-too_long c = none_too_long

pub returns-clause-too_long_for_micro : goal.returns-clause-too_long_for_micro
returns-clause-too_long_for_micro c = none_too_long_for_micro
