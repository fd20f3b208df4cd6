use Rattle.std.proofs.Common.{sym}
use Rattle.text_plans.proofs.Sizes.{no_sign}
use Rattle.text_plans.proofs.facts.is_sign.Goals as goal

pub returns-else-c-lt128 : goal.returns-else-c-lt128
returns-else-c-lt128 c = sym (no_sign c.args.c c.if-c-lt128.false)
