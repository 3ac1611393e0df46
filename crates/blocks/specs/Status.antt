-- What a block is in a region.
use Rattle.std.specs.Prelude.{◌≡◌, ℕ, suc, ◌+◌, ◌-◌, ◌<◌, ◌≤◌, cond, ◌||◌, ◌≢◌, ◌⊎◌, List, [], ◌∷◌, Some, None, Option, nat_lt}
use Rattle.blocks.specs.declared.bound.Bound.{Bound}
use Rattle.blocks.specs.declared.bound.Bound.TheVariants.{AtMost, AtLeast}
use Rattle.blocks.specs.declared.status.Status.{Status}
use Rattle.blocks.specs.declared.status.Status.TheVariants.{Dead as dead, Broken as broken, Forcing as forcing, Open as undecided}
use Rattle.blocks.specs.Bounds.{Profile, Meets, rank, told}
use Rattle.blocks.specs.Ranges.{Ranges, Stands, In}

-- the bounds of a block: "at most low - 1" where low > 0, "at least high + 1" where high < last
abbrev pub BoundOf : (ℕ → ℕ) → Ranges → Bound → Type 0
BoundOf last b (AtMost s p) = b.low s ≡ suc p
BoundOf last b (AtLeast s p) = (p ≡ suc (b.high s)) × (b.high s < last s)

-- in a region a bound is true if the whole region meets it, false if nothing there does, else open
abbrev pub True : Ranges → Bound → Type 0
True g β = (x : Profile) → In g x → Meets x β

abbrev pub False : Ranges → Bound → Type 0
False g β = (x : Profile) → In g x → ¬ Meets x β

abbrev pub Open : Ranges → Bound → Type 0
Open g β = (¬ True g β) × (¬ False g β)

-- a block is dead if a bound is true
abbrev pub Dead : (ℕ → ℕ) → Ranges → Ranges → Type 0
Dead last g b = (β : Bound) × BoundOf last b β × True g β

-- broken if all are false
abbrev pub Broken : (ℕ → ℕ) → Ranges → Ranges → Type 0
Broken last g b = (β : Bound) → BoundOf last b β → False g β

-- forcing if one is open and the others false
pub record Forces (last : ℕ → ℕ) (g b : Ranges) (β : Bound) : Type 0 where
  pub bound : BoundOf last b β
  pub open' : Open g β
  pub others : (γ : Bound) → BoundOf last b γ → γ ≢ β → False g γ

abbrev pub Forcing : (ℕ → ℕ) → Ranges → Ranges → Type 0
Forcing last g b = (β : Bound) × Forces last g b β

-- the status that is told; a forced bound is told by its numbers
abbrev pub StatusIs : (ℕ → ℕ) → Ranges → Ranges → Status → Type 0
StatusIs last g b dead = Dead last g b
StatusIs last g b broken = Broken last g b
StatusIs last g b (forcing t) = (β : Bound) × (t ≡ told β) × Forces last g b β
StatusIs last g b undecided = (¬ Dead last g b) × (¬ Broken last g b) × (¬ Forcing last g b)

-- a status by its numbers: which of the four it is, and the numbers of the bound that is forced
abbrev pub status_numbers : Status → ℕ × List ℕ
status_numbers dead = (0, [])
status_numbers broken = (1, [])
status_numbers (forcing (s, side, p)) = (2, s ∷ side ∷ p ∷ [])
status_numbers undecided = (3, [])

-- whatever the settings' last positions are, if only the two blocks exist over them
abbrev pub Tells : Ranges → Ranges → Status → Type 0
Tells g b s = (last : ℕ → ℕ) → Stands last g → Stands last b → StatusIs last g b s

-- the first open bound: lowest setting, at most before at least
pub record FirstOpen (last : ℕ → ℕ) (g b : Ranges) (β : Bound) : Type 0 where
  pub bound : BoundOf last b β
  pub open' : Open g β
  pub before : (γ : Bound) → BoundOf last b γ → Open g γ → rank β ≤ rank γ

abbrev pub FirstIs : (ℕ → ℕ) → Ranges → Ranges → Option (ℕ × ℕ × ℕ) → Type 0
FirstIs last g b None = (β : Bound) → BoundOf last b β → ¬ Open g β
FirstIs last g b (Some t) = (β : Bound) × (t ≡ told β) × FirstOpen last g b β

abbrev pub TellsFirst : Ranges → Ranges → Option (ℕ × ℕ × ℕ) → Type 0
TellsFirst g b r = (last : ℕ → ℕ) → Stands last g → Stands last b → FirstIs last g b r

-- The same, setting by setting: one open bound more,
abbrev pub more : Status → ℕ × ℕ × ℕ → Status
more dead t = dead
more broken t = forcing t
more (forcing u) t = undecided
more undecided t = undecided

-- the low side of setting i, then the high side,
abbrev pub see_low : Ranges → Ranges → ℕ → Status → Status
see_low g b i seen = cond (nat_lt (g.low i) (b.low i)) (more seen (i, 0, b.low i - 1)) seen

abbrev pub see_high : Ranges → Ranges → ℕ → Status → Status
see_high g b i seen = cond (nat_lt (b.high i) (g.high i)) (more seen (i, 1, b.high i + 1)) seen

-- where the block and the region do not lie apart
abbrev pub see : Ranges → Ranges → ℕ → Status → Status
see g b i seen = cond (nat_lt (g.high i) (b.low i) || nat_lt (b.high i) (g.low i)) dead (see_high g b i (see_low g b i seen))

-- the open bounds at setting i, by the ends
abbrev pub LowOpen : Ranges → Ranges → ℕ → Type 0
LowOpen g b i = (g.low i < b.low i) × (b.low i ≤ g.high i)

abbrev pub HighOpen : Ranges → Ranges → ℕ → Type 0
HighOpen g b i = (g.low i ≤ b.high i) × (b.high i < g.high i)

abbrev pub TellsOpenAt : Ranges → Ranges → ℕ → Option (ℕ × ℕ × ℕ) → Type 0
TellsOpenAt g b i None = (¬ LowOpen g b i) × (¬ HighOpen g b i)
TellsOpenAt g b i (Some t) = (LowOpen g b i × (t ≡ (i, 0, b.low i - 1))) ⊎ ((¬ LowOpen g b i) × HighOpen g b i × (t ≡ (i, 1, b.high i + 1)))
