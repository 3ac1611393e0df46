use Rattle.std.proofs.Common.{length, take}
use Rattle.rows.specs.Items.{items}
use Rattle.blocks.specs.Problems.{posed}
use Rattle.blocks.specs.Slots.{slot_at}
use Rattle.blocks.specs.Views.{ranges}
use Rattle.blocks.proofs.Properness.{problem_proper}
use Rattle.search.specs.Moves.{feed_in, OnlyUndone}
use Rattle.search.proofs.Analysing.{Midway}
use Rattle.search.proofs.moves.Search.analyse.Given as goal

abbrev pub invariant-loop-entry : goal.invariant-loop-entry
invariant-loop-entry g l =
    let s = l.initial.self in
    Midway g.K.Sink.step (posed s.problem) (problem_proper s.problem) (slot_at (take s.course.filled s.area.now)) s.course.trail (ranges l.initial.work) (feed_in g.K.Sink.model s)
    (length (items l.self.course.trail.entries)) (ranges l.self.course.region) (ranges l.work) (feed_in g.K.Sink.model l.self)
    × OnlyUndone g.K.Sink.lent s l.self

abbrev pub decreases-loop-entry : goal.decreases-loop-entry
decreases-loop-entry g l = length (items l.self.course.trail.entries)
