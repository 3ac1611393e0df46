use Rattle.std.proofs.Common.{◌≡◌, ℕ, ◌<◌, length, get_or, Some}
use Rattle.blocks.specs.Views.{nought, ranges}
use Rattle.blocks.proofs.Resolving.{Made}
use Rattle.blocks.proofs.block.Block.resolve.Given as goal

abbrev pub invariant-loop-i : goal.invariant-loop-i
invariant-loop-i l = record { twelve : length l.intervals ≡ 12; made : (k : ℕ) → k < l.i → Made l.setting (ranges l.self) (ranges l.other) k (Some (get_or l.intervals k nought)) }
