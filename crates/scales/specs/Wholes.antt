-- The whole numbers from -1,000,000,000 to 1,000,000,000, in their order.
use Rattle.std.specs.Prelude.{ℕ, ℤ, pos, negsuc, ◌+ℤ◌, ◌-ℤ◌, ◌≤ℤ◌, ◌<ℤ◌, unsigned_abs}

abbrev pub OnWhole : ℤ → Type 0
OnWhole v = (negsuc 999999999 ≤ℤ v) × (v ≤ℤ pos 1000000000)

abbrev pub EarlierWhole : ℤ → ℤ → Type 0
EarlierWhole v w = v <ℤ w

-- v stands at position v + 1,000,000,000
abbrev pub place_whole : ℤ → ℕ
place_whole v = unsigned_abs (v +ℤ pos 1000000000)

abbrev pub value_whole : ℕ → ℤ
value_whole p = pos p -ℤ pos 1000000000
