-- What the values of the program mean.
use Rattle.std.specs.Prelude.{◌≡◌, ℕ, ◌+◌, ◌<◌, ◌≤◌, ◌⊎◌, ◌↔◌, List, [], ◌∷◌, map, length, Some, None, Ok, Err, Option, Result, slice_index, slice_index_or, slice_set}
use Rattle.std.proofs.Math.Nat.{le_refl}
use Rattle.scales.specs.declared.refusal.Refusal.{Refusal}
use Rattle.scales.specs.declared.refusal.Stop.TheVariants.{SettingsFull, NotResolvable}
use Rattle.scales.specs.Stops.{no_place}
use Rattle.scales.specs.Checks.{Check, check, Outcome}
use Rattle.blocks.specs.declared.block.Block.{Block}
use Rattle.blocks.specs.declared.block.interval.Interval.{Interval}
use Rattle.blocks.specs.declared.lasts.Lasts.{Lasts}
use Rattle.blocks.specs.declared.standing.Standing.{Standing}
use Rattle.blocks.specs.declared.bound.Bound.{Bound}
use Rattle.blocks.specs.Bounds.{Profile, Meets}
use Rattle.blocks.specs.Ranges.{Ranges, In, narrow, resolve, Resolvable}
use Rattle.blocks.specs.Counts.{bounds_below}

-- past the twelfth setting there is only position 0
abbrev pub nought : Interval
nought = record { low = 0; high = 0; ordered = le_refl 0 }

abbrev pub interval_at : Block → ℕ → Interval
interval_at b i = slice_index_or b.intervals i nought

abbrev pub ranges : Block → Ranges
ranges b = record { low = λ i. (interval_at b i).low; high = λ i. (interval_at b i).high }

abbrev pub last_at : Lasts → ℕ → ℕ
last_at l i = slice_index l.last i

-- the blocks that stand, in order
abbrev pub block_of : Standing → Ranges
block_of s = ranges s.block

abbrev pub blocks : List Standing → List Ranges
blocks ss = map block_of ss

-- read where no block stands
abbrev pub nowhere : Ranges
nowhere = record { low = λ _. 0; high = λ _. 0 }

-- how many bounds the block has
abbrev pub sides : Lasts → Ranges → ℕ
sides l b = length (bounds_below (last_at l) b 12)

-- one setting more, with this last position, behind the others
abbrev pub Declared : ℕ → Lasts → Lasts → Result ℕ Refusal → Type 0
Declared top before after (Ok n) = (before.count < 12) × (n ≡ before.count) × (after.count ≡ before.count + 1) × (after.last ≡ slice_set before.last n top)
Declared top before after (Err e) = (12 ≤ before.count) × (e ≡ no_place SettingsFull) × (after ≡ before)

-- ranges that some block has: ordered, and with nothing past twelve settings
pub record Real (g : Ranges) : Type 0 where
  pub ordered : (i : ℕ) → g.low i ≤ g.high i
  pub twelve : (i : ℕ) → 12 ≤ i → g.high i ≡ 0

-- the block of these ranges, or nothing where no block has them
abbrev pub BlockOf : Ranges → Option Block → Type 0
BlockOf g (Some b) = ranges b ≡ g
BlockOf g None = Real g → ⊥

-- just the profiles of the region g that meet the bound, or nothing where there are none
abbrev pub Narrowed : Bound → Ranges → Option Block → Type 0
Narrowed β g (Some b) = (ranges b ≡ narrow β g) × ((x : Profile) → In (ranges b) x ↔ (In g x × Meets x β))
Narrowed β g None = (x : Profile) → In g x → Meets x β → ⊥

-- resolved where that is allowed, and then each profile of the resolved block is in one of the two
abbrev pub resolve_checks : ℕ → Ranges → Ranges → List Check
resolve_checks s a b = check NotResolvable (Resolvable s a b) ∷ []

abbrev pub Resolves : ℕ → Ranges → Ranges → Result Block Refusal → Type 0
Resolves s a b r = Outcome (resolve_checks s a b) (λ c. (ranges c ≡ resolve s a b) × ((x : Profile) → In (ranges c) x → In a x ⊎ In b x)) r

-- a block that may stand: over the settings, with at most four bounds
pub record FitToStand (l : Lasts) (b : Ranges) : Type 0 where
  pub within : (i : ℕ) → b.high i ≤ last_at l i
  pub four : sides l b ≤ 4

-- what may stand together: at most 48, and each fit to stand
pub record FitToPose (l : Lasts) (ss : List Standing) : Type 0 where
  pub few : length ss ≤ 48
  pub each : (i : ℕ) → i < length ss → FitToStand l (slice_index_or (blocks ss) i nowhere)
