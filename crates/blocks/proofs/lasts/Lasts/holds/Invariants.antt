use Rattle.std.proofs.Common.{◌≡◌, ℕ, ◌*◌, ◌<◌, ◌≤◌, length}
use Rattle.blocks.specs.Counts.{bounds_below}
use Rattle.blocks.specs.Views.{ranges, last_at}
use Rattle.blocks.proofs.lasts.Lasts.holds.Given as goal

abbrev pub invariant-loop-interval : goal.invariant-loop-interval
invariant-loop-interval l = record {
  few : l.count ≤ 2 * length l.yielded;
  counted : l.count ≡ length (bounds_below (last_at l.self) (ranges l.block) (length l.yielded));
  within : (k : ℕ) → k < length l.yielded → (ranges l.block).high k ≤ last_at l.self k;
}
