use Rattle.qrcode_bits.proofs.PlanFrames.{plan_frame}
use Rattle.qrcode_bits.proofs.laws.plans_are_frames.Goals as goal

pub returns : goal.returns
returns c = plan_frame
