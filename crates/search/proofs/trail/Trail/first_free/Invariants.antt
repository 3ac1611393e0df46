use Rattle.std.proofs.Common.{ℕ, ◌+◌, ◌<◌, ◌≤◌}
use Rattle.search.specs.Search.{IsReason}
use Rattle.search.specs.Trails.{trail_of}
use Rattle.search.proofs.trail.Trail.first_free.Given as goal

abbrev pub invariant-loop-slot : goal.invariant-loop-slot
invariant-loop-slot l = (j : ℕ) → l.from ≤ j → j < l.slot → IsReason (trail_of l.self) (100 + j)
