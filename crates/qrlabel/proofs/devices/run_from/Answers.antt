-- `run` does what the words ask for.
use Rattle.std.proofs.Common.{ap}
use Rattle.qrlabel.proofs.ExitLemmas.{runs_on}
use Rattle.qrlabel.proofs.devices.run_from.Goals as goal

pub returns : goal.returns
returns g c =
    runs_on _ _ _ _ _ _ _ _
    (λ kept. (ap (λ x. (g.R.Source.state x).left) kept.0, ap (λ x. (g.W.Sink.state x).written) kept.1)) c.run.ensures
