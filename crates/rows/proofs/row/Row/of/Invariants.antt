use Rattle.std.proofs.Common.{◌≡◌, take}
use Rattle.rows.specs.Items.{items}
use Rattle.rows.proofs.row.Row.of.Given as goal

abbrev pub invariant-loop-item : goal.invariant-loop-item
invariant-loop-item g l = items l.row ≡ take l.item-index l.slice
