use Rattle.scales.proofs.Checking.{one_outcome}
use Rattle.scales.proofs.checks.one_outcome.Goals as goal

pub returns : goal.returns
returns g c s = one_outcome (g.C.Checks.checks s)
