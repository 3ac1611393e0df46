use Rattle.blocks.specs.Problems.{posed}
use Rattle.blocks.proofs.Properness.{problem_proper}
use Rattle.search.proofs.Lawful.{found_ends}
use Rattle.search.proofs.laws.found_ends.Goals as goal

pub returns : goal.returns
returns c = found_ends (posed c.args.problem.now) (problem_proper c.args.problem.now) c.args.slots
