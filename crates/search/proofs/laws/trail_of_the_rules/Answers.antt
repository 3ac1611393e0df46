use Rattle.blocks.specs.Problems.{posed}
use Rattle.blocks.proofs.Properness.{problem_proper}
use Rattle.search.proofs.Lawful.{trail_of_the_rules}
use Rattle.search.proofs.laws.trail_of_the_rules.Goals as goal

pub returns : goal.returns
returns c = trail_of_the_rules (posed c.args.problem.now) (problem_proper c.args.problem.now) c.args.slots
