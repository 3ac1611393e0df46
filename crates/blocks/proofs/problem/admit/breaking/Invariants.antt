use Rattle.blocks.specs.Views.{ranges, last_at}
use Rattle.blocks.proofs.Admitting.{BreakingFirst}
use Rattle.blocks.proofs.problem.admit.breaking.Given as goal

abbrev pub invariant-loop-bound : goal.invariant-loop-bound
invariant-loop-bound l = BreakingFirst (last_at l.lasts) l.bounds l.bound-index (ranges l.region)
