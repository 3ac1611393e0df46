use Rattle.blocks.specs.Problems.{posed}
use Rattle.blocks.proofs.Properness.{problem_proper}
use Rattle.search.proofs.Lawful.{always_a_slot}
use Rattle.search.proofs.laws.always_a_slot.Goals as goal

pub returns : goal.returns
returns c = always_a_slot (posed c.args.problem.now) (problem_proper c.args.problem.now) c.args.slots
