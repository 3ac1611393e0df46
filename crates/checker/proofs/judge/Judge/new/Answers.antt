use Rattle.std.proofs.Common.{List, length, Option, ap, ◌∙◌}
use Rattle.blocks.specs.Problems.{posed}
use Rattle.blocks.specs.Ranges.{Ranges}
use Rattle.blocks.specs.Slots.{holdings}
use Rattle.checker.specs.Courts.{idle}
use Rattle.blocks.proofs.Properness.{problem_proper}
use Rattle.checker.proofs.Soundness.{judges_rightly}
use Rattle.checker.proofs.Values.{empty_holds_nothing}
use Rattle.checker.proofs.judge.Judge.new.Goals as goal

pub returns-clause-opened : goal.returns-clause-opened
returns-clause-opened c =
    ap (λ (ss : List (Option Ranges)). record { sheet = posed c.args.problem; phase = idle; slots = ss; line = 1 }) (ap holdings c.clear.ensures ∙ empty_holds_nothing (length c.args.area.now))

pub returns-clause-proper : goal.returns-clause-proper
returns-clause-proper c = problem_proper c.args.problem

pub returns-clause-rightly : goal.returns-clause-rightly
returns-clause-rightly c = judges_rightly (posed c.args.problem) (problem_proper c.args.problem) (length c.args.area.now)
