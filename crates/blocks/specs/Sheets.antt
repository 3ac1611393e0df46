-- A sheet, as search and judge see it: settings by their last positions, and blocks by their numbers.
use Rattle.std.specs.Prelude.{◌≡◌, ℕ, ◌-◌, ◌≤◌, cond, List, length, Some, Option, nat_lt}
use Rattle.std.specs.List.{slice_get}
use Rattle.blocks.specs.Bounds.{Profile}
use Rattle.blocks.specs.Ranges.{Ranges, Stands, In}
use Rattle.blocks.specs.Counts.{bounds_below}

-- how many settings there are, their last positions (0 beyond them), and the blocks of the rules
pub record Sheet : Type 0 where
  pub count : ℕ
  pub last : ℕ → ℕ
  pub rules : List Ranges

-- at most 48 rules, each a block over the settings with at most four bounds
pub record Proper (S : Sheet) : Type 0 where
  pub twelve : S.count ≤ 12
  pub beyond : (i : ℕ) → S.count ≤ i → S.last i ≡ 0
  pub few : length S.rules ≤ 48
  pub stand : (i : ℕ) (b : Ranges) → slice_get S.rules i ≡ Some b → Stands S.last b
  pub four : (i : ℕ) (b : Ranges) → slice_get S.rules i ≡ Some b → length (bounds_below S.last b 12) ≤ 4

-- rule i is block i, slot j is block 100 + j
abbrev pub block_at : List Ranges → (ℕ → Option Ranges) → ℕ → Option Ranges
block_at rules slots k = cond (nat_lt k 100) (slice_get rules k) (slots (k - 100))

-- a profile breaks a rule: it is in the rule's block
abbrev pub Breaks : Sheet → Profile → Type 0
Breaks S x = (i : ℕ) × (b : Ranges) × (slice_get S.rules i ≡ Some b) × In b x
