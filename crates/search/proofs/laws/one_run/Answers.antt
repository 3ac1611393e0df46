use Rattle.blocks.specs.Problems.{posed}
use Rattle.blocks.proofs.Properness.{problem_proper}
use Rattle.search.proofs.Lawful.{one_run}
use Rattle.search.proofs.laws.one_run.Goals as goal

pub returns : goal.returns
returns c = one_run (posed c.args.problem.now) (problem_proper c.args.problem.now) c.args.slots
