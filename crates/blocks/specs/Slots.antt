-- A work area: what its slots hold.
use Rattle.std.specs.Prelude.{ℕ, List, map, Some, None, Option}
use Rattle.std.specs.List.{slice_get}
use Rattle.std.specs.Option.{option_map}
use Rattle.blocks.specs.declared.block.Block.{Block}
use Rattle.blocks.specs.Ranges.{Ranges}
use Rattle.blocks.specs.Views.{ranges}

-- a place in a work area for one block: empty, or filled with it
abbrev pub Slot : Type 0
Slot = Option Block

abbrev pub slot_holds : Slot → Option Ranges
slot_holds s = option_map ranges s

-- what an area holds, slot by slot
abbrev pub holdings : List Slot → List (Option Ranges)
holdings ss = map slot_holds ss

-- what slot j holds; nothing behind the area
abbrev pub joined : Option (Option Ranges) → Option Ranges
joined None = None
joined (Some o) = o

abbrev pub slot_at : List Slot → ℕ → Option Ranges
slot_at ss j = joined (slice_get (holdings ss) j)
