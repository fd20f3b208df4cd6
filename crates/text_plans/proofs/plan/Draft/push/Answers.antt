-- What is complete stays as it is.
use Rattle.std.proofs.Common.{◌++◌, ◌∙◌, ap}
use Rattle.text_plans.specs.Plan.{Written}
use Rattle.text_plans.proofs.Drafts.{pushed}
use Rattle.text_plans.proofs.plan.Draft.push.Goals as goal

pub returns : goal.returns
returns c =
    pushed c.self.inside.bytes.items c.extend_from_slice.new.self.items c.args.bytes.now c.self.inside.begin c.self.inside.parts.items
    c.self.inside.mode c.in_ok-extend_from_slice.ensures.items c.self.invariant.0 c.self.invariant.1
    ∙ ap (λ (w : Written). record w { bytes = w.bytes ++ c.args.bytes.now }) c.self.view_is
