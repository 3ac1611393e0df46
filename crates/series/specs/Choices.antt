-- Choices of one value for each setting: which of them meet a bound, a rule, and every one of some rules.
use Rattle.std.specs.Prelude.{◌≡◌, ℕ, zero, suc, ◌⊎◌, List, [], ◌∷◌, slice_index}
use Rattle.std.specs.List.{AllByRecursion as Each}
use Rattle.scales.specs.declared.side.Side.TheVariants.{AtMost as most, AtLeast as least}
use Rattle.scales.specs.Models.{ScaleModel}
use Rattle.scales.specs.Choices.{Choice, OnScales, profile, ChoiceMeets}
use Rattle.blocks.specs.declared.bound.Bound.{Bound}
use Rattle.blocks.specs.declared.bound.Bound.TheVariants.{AtMost, AtLeast}
use Rattle.blocks.specs.Bounds.{Profile, setting, position}
use Rattle.blocks.specs.Ranges.{Ranges, In}
use Rattle.series.specs.Calls.{Rule}

abbrev pub MeetsBound : (ms : List ScaleModel) → Choice ms → Bound → Type 0
MeetsBound ms c (AtMost i p) = ChoiceMeets ms c i most p
MeetsBound ms c (AtLeast i p) = ChoiceMeets ms c i least p

-- a rule is met when one of its bounds is
abbrev pub ChoiceMeetsRule : (ms : List ScaleModel) → Choice ms → Rule → Type 0
ChoiceMeetsRule ms c [] = ⊥
ChoiceMeetsRule ms c (β ∷ r) = MeetsBound ms c β ⊎ ChoiceMeetsRule ms c r

abbrev pub MeetsEvery : (ms : List ScaleModel) → Choice ms → List Rule → Type 0
MeetsEvery ms c rs = Each (ChoiceMeetsRule ms c) rs

-- no choice of one value per setting meets every rule
abbrev pub NoChoice : List ScaleModel → List Rule → Type 0
NoChoice ms rs = (c : Choice ms) → OnScales ms c → ¬ MeetsEvery ms c rs

-- a choice is in a block when its positions are
abbrev pub positions : (ms : List ScaleModel) → Choice ms → Profile
positions ms c i = slice_index (profile ms c) i

-- every choice in the block meets every rule, and there is one
pub record AllMeet (ms : List ScaleModel) (rs : List Rule) (b : Ranges) : Type 0 where
  pub each : (c : Choice ms) → OnScales ms c → In b (positions ms c) → MeetsEvery ms c rs
  pub one : (c : Choice ms) × OnScales ms c × In b (positions ms c)

-- some value on setting i's scale has the position p, and is the one that stands there
abbrev pub MadeAt : List ScaleModel → ℕ → ℕ → Type 0
MadeAt [] i p = ⊥
MadeAt (m ∷ ms) zero p = (v : m.Value) × m.On v × (m.position v ≡ p) × (m.standing p ≡ v)
MadeAt (m ∷ ms) (suc i) p = MadeAt ms i p

-- the bound was made on its setting's scale: its position is the place of a value there
abbrev pub MadeOn : List ScaleModel → Bound → Type 0
MadeOn ms β = MadeAt ms (setting β) (position β)

-- every bound of every rule was
abbrev pub AllMade : List ScaleModel → List Rule → Type 0
AllMade ms rs = Each (Each (MadeOn ms)) rs
