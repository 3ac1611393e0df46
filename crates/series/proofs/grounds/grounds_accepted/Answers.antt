use Rattle.blocks.specs.Problems.{posed}
use Rattle.blocks.proofs.Properness.{problem_proper}
use Rattle.series.proofs.Accepting.{grounds_accepted}
use Rattle.series.proofs.grounds.grounds_accepted.Goals as goal

pub returns : goal.returns
returns c = grounds_accepted (posed c.args.problem.now) (problem_proper c.args.problem.now) c.args.slots
