use Rattle.blocks.specs.Problems.{posed}
use Rattle.blocks.proofs.Properness.{problem_proper}
use Rattle.search.specs.Courses.{state_of}
use Rattle.search.specs.Moves.{feed_in, SameWithin}
use Rattle.search.specs.Tallies.{feed, untold}
use Rattle.search.proofs.Ends.{left}
use Rattle.search.proofs.Running.{UnderWay}
use Rattle.search.proofs.solve.run.Given as goal

abbrev pub invariant-loop-ended : goal.invariant-loop-ended
invariant-loop-ended g l =
    let s = l.initial.search in
    UnderWay g.K.Sink.step (posed s.problem) (problem_proper s.problem) s.area.now (feed untold (g.K.Sink.model s.sink.now))
    l.search.course l.search.area.now (feed_in g.K.Sink.model l.search)
    × SameWithin g.K.Sink.lent s l.search

-- what is left to do: it falls with every step
abbrev pub decreases-loop-ended : goal.decreases-loop-ended
decreases-loop-ended g l = left 192 (state_of l.search.course l.search.area.now)
