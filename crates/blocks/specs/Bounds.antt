-- Bounds, and the profiles that meet them.
use Rattle.std.specs.Prelude.{◌≡◌, ℕ, zero, suc, ◌+◌, ◌*◌, ◌<◌, ◌≤◌, ◌↔◌, Some, None, Option}
use Rattle.scales.specs.declared.side.Side.{Side}
use Rattle.scales.specs.declared.side.Side.TheVariants.{AtMost as most, AtLeast as least}
use Rattle.blocks.specs.declared.bound.Bound.{Bound}
use Rattle.blocks.specs.declared.bound.Bound.TheVariants.{AtMost, AtLeast}

-- a profile: one position for each setting
abbrev pub Profile : Type 0
Profile = ℕ → ℕ

abbrev pub bound_at : Side → ℕ → ℕ → Bound
bound_at most s p = AtMost s p
bound_at least s p = AtLeast s p

abbrev pub setting : Bound → ℕ
setting (AtMost s p) = s
setting (AtLeast s p) = s

abbrev pub position : Bound → ℕ
position (AtMost s p) = p
position (AtLeast s p) = p

abbrev pub Meets : Profile → Bound → Type 0
Meets x (AtMost s p) = x s ≤ p
Meets x (AtLeast s p) = p ≤ x s

-- a bound as three numbers: the setting, the side (0 for at most, 1 for at least), the position
abbrev pub side : Bound → ℕ
side (AtMost s p) = 0
side (AtLeast s p) = 1

abbrev pub told : Bound → ℕ × ℕ × ℕ
told β = (setting β, side β, position β)

-- the bound that three numbers tell; every side but 0 is taken for 1
abbrev pub bound_told : ℕ × ℕ × ℕ → Bound
bound_told (s, zero, p) = AtMost s p
bound_told (s, suc n, p) = AtLeast s p

-- that bound, which is the one that the numbers were told of
pub record TellsBack (t : ℕ × ℕ × ℕ) (γ : Bound) : Type 0 where
  pub is : γ ≡ bound_told t
  pub back : (β : Bound) → t ≡ told β → γ ≡ β

-- the order of bounds: the lowest setting first, at most before at least
abbrev pub rank : Bound → ℕ
rank (AtMost s p) = 2 * s
rank (AtLeast s p) = 2 * s + 1

-- just the profiles that break the bound meet the opposite one; where there is none, all profiles of 32-bit positions meet the bound
abbrev pub Opposite : Bound → Option Bound → Type 0
Opposite β (Some γ) = (x : Profile) → Meets x γ ↔ (¬ Meets x β)
Opposite β None = (x : Profile) → ((i : ℕ) → x i < 4294967296) → Meets x β
