-- What every scale keeps: a finite set of at least one value, in a total order, counted from 0.
use Rattle.std.specs.Prelude.{◌≡◌, ℕ, ◌<◌, ◌≤◌, ◌⊎◌}

-- A scale says of itself which values are on it, which of two is the earlier, the position of a
-- value, the value standing at a position, and the top position, the count of values less one.
pub record ScaleLaws {V : Type 0} (on : V → Type 0) (earlier : V → V → Type 0) (position : V → ℕ) (standing : ℕ → V) (top : ℕ) : Type 0 where
  -- the count of values fits 32 bits
  pub small : top ≤ 4294967294
  -- positions run from 0 to the top, and a value stands at each
  pub place_within : (v : V) → on v → position v ≤ top
  pub value_on : (p : ℕ) → p ≤ top → on (standing p)
  -- place and value undo each other
  pub place_value : (p : ℕ) → p ≤ top → position (standing p) ≡ p
  pub value_place : (v : V) → on v → standing (position v) ≡ v
  -- the earlier value has the smaller position
  pub earlier_smaller : (v w : V) → on v → on w → earlier v w → position v < position w
  -- two values are equal or one is earlier
  pub total : (v w : V) → on v → on w → (v ≡ w) ⊎ (earlier v w ⊎ earlier w v)
  -- earlier-than carries along a chain
  pub chain : (u v w : V) → on u → on v → on w → earlier u v → earlier v w → earlier u w
