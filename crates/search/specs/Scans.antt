-- A scan over places in order: the first block that is broken or forcing in a region, or else the first that is not dead.
use Rattle.std.specs.Prelude.{◌≡◌, ℕ, ◌<◌, ◌⊎◌, List, map, Some, None, Option}
use Rattle.std.specs.List.{slice_get}
use Rattle.blocks.specs.declared.status.Status.TheVariants.{Dead as dead, Broken as broken, Forcing as forcing, Open as undecided}
use Rattle.blocks.specs.Ranges.{Ranges}
use Rattle.blocks.specs.Slots.{joined}
use Rattle.blocks.specs.Status.{Tells}
use Rattle.search.specs.declared.scan.Scan.{Scan}
use Rattle.search.specs.declared.scan.Scan.TheVariants.{Broken, Forcing, Quiet}

abbrev pub holds_of : {P : Type 0} → (P → Option Ranges) → List P → List (Option Ranges)
holds_of holds ps = map holds ps

-- what place k holds
abbrev pub holding : {P : Type 0} → (P → Option Ranges) → List P → ℕ → Option Ranges
holding holds ps k = joined (slice_get (holds_of holds ps) k)

-- Over blocks by their numbers.
module _ (g : Ranges) (blocks : ℕ → Option Ranges) where
  -- block k, if there is one, is neither broken nor forcing
  abbrev pub Calm : ℕ → Type 0
  Calm k = (b : Ranges) → blocks k ≡ Some b → Tells g b dead ⊎ Tells g b undecided

  abbrev pub Buried : ℕ → Type 0
  Buried k = (b : Ranges) → blocks k ≡ Some b → Tells g b dead

  -- the first below n that is not dead, if any
  abbrev pub FirstAlive : Option ℕ → ℕ → Type 0
  FirstAlive None n = (k : ℕ) → k < n → Buried k
  FirstAlive (Some i) n = (i < n) × ((b : Ranges) × (blocks i ≡ Some b) × Tells g b undecided) × ((k : ℕ) → k < i → Buried k)

  -- up to number n, behind which there is no block
  abbrev pub Scanned : ℕ → Scan → Type 0
  Scanned n (Broken i) = (i < n) × ((b : Ranges) × (blocks i ≡ Some b) × Tells g b broken) × ((k : ℕ) → k < i → Calm k)
  Scanned n (Forcing i t) = (i < n) × ((b : Ranges) × (blocks i ≡ Some b) × Tells g b (forcing t)) × ((k : ℕ) → k < i → Calm k)
  Scanned n (Quiet a) = ((k : ℕ) → k < n → Calm k) × FirstAlive a n
