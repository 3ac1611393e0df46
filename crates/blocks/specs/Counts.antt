-- The bounds of a block in a list, so that they can be counted.
use Rattle.std.specs.Prelude.{ℕ, zero, suc, ◌+◌, ◌-◌, cond, List, [], ◌∷◌, ◌++◌, nat_lt}
use Rattle.blocks.specs.declared.bound.Bound.{Bound}
use Rattle.blocks.specs.declared.bound.Bound.TheVariants.{AtMost, AtLeast}
use Rattle.blocks.specs.Ranges.{Ranges}

-- the bounds at one setting
abbrev pub bounds_at : (ℕ → ℕ) → Ranges → ℕ → List Bound
bounds_at last b i =
    cond (nat_lt 0 (b.low i)) (AtMost i (b.low i - 1) ∷ []) [] ++ cond (nat_lt (b.high i) (last i)) (AtLeast i (b.high i + 1) ∷ []) []

-- those of the first n settings, in order
abbrev pub bounds_below : (ℕ → ℕ) → Ranges → ℕ → List Bound
bounds_below last b zero = []
bounds_below last b (suc n) = bounds_below last b n ++ bounds_at last b n
