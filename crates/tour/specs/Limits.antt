-- What it means to keep to a limit, in values, and to stand in a block on one setting.
use Rattle.std.specs.Prelude.{ℕ, ◌≤◌}
use Rattle.scales.specs.declared.side.Side.{Side}
use Rattle.scales.specs.declared.side.Side.TheVariants.{AtMost, AtLeast}
use Rattle.scales.specs.Models.{ScaleModel}
use Rattle.scales.specs.Windows.{NotAfter}
use Rattle.blocks.specs.Ranges.{Ranges}

-- the value is the limit's own, or an earlier one for "at most", a later one for "at least"
abbrev pub KeepsTo : (m : ScaleModel) → Side → m.Value → m.Value → Type 0
KeepsTo m AtMost limit v = NotAfter m v limit
KeepsTo m AtLeast limit v = NotAfter m limit v

-- the position is between the low and the high one of the setting
abbrev pub Between : Ranges → ℕ → ℕ → Type 0
Between b s p = (b.low s ≤ p) × (p ≤ b.high s)
