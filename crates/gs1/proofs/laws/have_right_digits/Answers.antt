use Rattle.gs1.proofs.Digits.{right_digits}
use Rattle.gs1.proofs.laws.have_right_digits.Goals as goal

pub returns : goal.returns
returns c = right_digits
