-- The two sides of a bound, on positions.
use Rattle.std.specs.Prelude.{ℕ, ◌≤◌, List, codes}
use Rattle.scales.specs.declared.side.Side.{Side}
use Rattle.scales.specs.declared.side.Side.TheVariants.{AtMost, AtLeast}

-- the position x meets a bound at p
abbrev pub Meets : Side → ℕ → ℕ → Type 0
Meets AtMost x p = x ≤ p
Meets AtLeast x p = p ≤ x

-- a side in words
abbrev pub side_words : Side → List ℕ
side_words AtMost = codes "at most"
side_words AtLeast = codes "at least"
