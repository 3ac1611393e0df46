-- Ranges: a low and a high position for each setting, which is what a block means.
use Rattle.std.specs.Prelude.{◌≡◌, ℕ, suc, ◌≤◌, min, max, cond, ◌≢◌, ◌==◌}
use Rattle.blocks.specs.declared.bound.Bound.{Bound}
use Rattle.blocks.specs.declared.bound.Bound.TheVariants.{AtMost, AtLeast}
use Rattle.blocks.specs.Bounds.{Profile}

pub record Ranges : Type 0 where
  pub low : ℕ → ℕ
  pub high : ℕ → ℕ

-- a block that exists over the settings' last positions; a setting that is not declared has last 0
abbrev pub Stands : (ℕ → ℕ) → Ranges → Type 0
Stands last b = (i : ℕ) → (b.low i ≤ b.high i) × (b.high i ≤ last i)

abbrev pub everything : (ℕ → ℕ) → Ranges
everything last = record { low = λ _. 0; high = last }

-- the profile x is in the block b
abbrev pub In : Ranges → Profile → Type 0
In b x = (i : ℕ) → (b.low i ≤ x i) × (x i ≤ b.high i)

-- the block a lies inside the block b
abbrev pub Inside : Ranges → Ranges → Type 0
Inside a b = (i : ℕ) → (b.low i ≤ a.low i) × (a.high i ≤ b.high i)

-- every profile of a is in b
abbrev pub AllIn : Ranges → Ranges → Type 0
AllIn a b = (x : Profile) → In a x → In b x

-- another low or high position for one setting
abbrev pub with_low : ℕ → ℕ → Ranges → Ranges
with_low s p g = record { low = λ i. cond (i == s) p (g.low i); high = g.high }

abbrev pub with_high : ℕ → ℕ → Ranges → Ranges
with_high s p g = record { low = g.low; high = λ i. cond (i == s) p (g.high i) }

-- the end that a bound narrows, and the region with that end at p
abbrev pub end : Bound → Ranges → ℕ
end (AtMost s p) g = g.high s
end (AtLeast s p) g = g.low s

abbrev pub with_end : Bound → ℕ → Ranges → Ranges
with_end (AtMost s p) q g = with_high s q g
with_end (AtLeast s p) q g = with_low s q g

-- the region, narrowed by a bound
abbrev pub narrow : Bound → Ranges → Ranges
narrow (AtMost s p) g = with_high s (min (g.high s) p) g
narrow (AtLeast s p) g = with_low s (max (g.low s) p) g

-- a region that came from g by narrowing becomes g again with g's end put back
abbrev pub Back : Bound → ℕ → Ranges → Type 0
Back β p h = (g : Ranges) → h ≡ narrow β g → p ≡ end β g → with_end β p h ≡ g

-- resolving two blocks on a setting: the lesser low and the greater high there, the overlap in every other
abbrev pub resolve : ℕ → Ranges → Ranges → Ranges
resolve s a b = record {
  low = λ i. cond (i == s) (min (a.low i) (b.low i)) (max (a.low i) (b.low i));
  high = λ i. cond (i == s) (max (a.high i) (b.high i)) (min (a.high i) (b.high i));
}

abbrev pub Overlap : Ranges → Ranges → ℕ → Type 0
Overlap a b i = (a.low i ≤ b.high i) × (b.low i ≤ a.high i)

-- resolving is allowed: the two overlap or adjoin on the setting, and overlap in all others
pub record Resolvable (s : ℕ) (a b : Ranges) : Type 0 where
  pub joins : (a.low s ≤ suc (b.high s)) × (b.low s ≤ suc (a.high s))
  pub others : (i : ℕ) → i ≢ s → Overlap a b i
