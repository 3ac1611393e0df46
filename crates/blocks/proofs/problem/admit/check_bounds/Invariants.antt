use Rattle.std.proofs.Common.{[]}
use Rattle.blocks.specs.Problems.{sheet_of}
use Rattle.blocks.proofs.Admitting.{GoingOn}
use Rattle.blocks.proofs.problem.admit.check_bounds.Given as goal

abbrev pub invariant-loop-i : goal.invariant-loop-i
invariant-loop-i l = GoingOn (sheet_of l.lasts []) l.bounds l.i
