use Rattle.std.proofs.Common.{[]}
use Rattle.blocks.specs.Problems.{sheet_of}
use Rattle.blocks.specs.RuleSets.{sheet_in}
use Rattle.checker.specs.Openings.{by_bounds}
use Rattle.checker.proofs.Gathering.{GoingOn}
use Rattle.checker.proofs.open.gathered.Given as goal

abbrev pub invariant-loop-rule : goal.invariant-loop-rule
invariant-loop-rule l = GoingOn (sheet_of l.lasts []) (by_bounds l.rules) l.rule-index (sheet_in l.set)
