-- The blocks of a search by their numbers.
use Rattle.std.specs.Prelude.{ℕ, ◌+◌, List, Some, None, Option}
use Rattle.blocks.specs.declared.standing.Standing.{Standing}
use Rattle.blocks.specs.Ranges.{Ranges}
use Rattle.blocks.specs.Sheets.{block_at}
use Rattle.blocks.specs.Slots.{Slot, slot_at}
use Rattle.blocks.specs.Views.{blocks}

abbrev pub numbered : List Standing → List Slot → ℕ → Option Ranges
numbered rules filled = block_at (blocks rules) (slot_at filled)

-- a slot's place as the number of its block
abbrev pub slot_numbers : Option ℕ → Option ℕ
slot_numbers None = None
slot_numbers (Some j) = Some (100 + j)
