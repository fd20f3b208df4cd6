use Rattle.qrcode_bits.proofs.FramePlans.{frame-plan, frame-smallest, frame-shortest}
use Rattle.qrcode_bits.proofs.laws.frames_have_plans.Goals as goal

pub returns-clause-whole_units : goal.returns-clause-whole_units
returns-clause-whole_units c = frame-plan

pub returns-clause-smallest : goal.returns-clause-smallest
returns-clause-smallest c = λ kind level front bytes limit number smaller payload plan bits apart choice frame.
    frame-smallest kind level front bytes limit number plan apart choice smaller payload bits frame

pub returns-clause-shortest : goal.returns-clause-shortest
returns-clause-shortest c = λ kind level front bytes limit number payload plan bits apart choice frame.
    frame-shortest kind level front bytes limit number plan apart choice payload bits frame
