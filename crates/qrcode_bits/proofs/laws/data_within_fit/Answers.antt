use Rattle.qrcode_bits.proofs.Cutting.{within_content, start_place, end_place, empty_fits}
use Rattle.qrcode_bits.proofs.laws.data_within_fit.Goals as goal

pub returns-clause-within : goal.returns-clause-within
returns-clause-within c = λ content bytes front limit level p q r s h k i a b d e none.
    within_content content front limit level bytes p q r s h k i a b d e none

pub returns-clause-start : goal.returns-clause-start
returns-clause-start c = start_place

pub returns-clause-end : goal.returns-clause-end
returns-clause-end c = end_place

pub returns-clause-empty : goal.returns-clause-empty
returns-clause-empty c = empty_fits
