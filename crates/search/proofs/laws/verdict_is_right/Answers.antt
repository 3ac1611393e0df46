use Rattle.blocks.specs.Problems.{posed}
use Rattle.blocks.proofs.Properness.{problem_proper}
use Rattle.search.proofs.Lawful.{verdict_is_right}
use Rattle.search.proofs.laws.verdict_is_right.Goals as goal

pub returns : goal.returns
returns c = verdict_is_right (posed c.args.problem.now) (problem_proper c.args.problem.now) c.args.slots
