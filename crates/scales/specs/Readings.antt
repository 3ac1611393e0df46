-- The 32-bit floats that are numbers, infinities included, in the order of IEEE 754 with -0 directly before +0.
use Rattle.std.specs.Prelude.{◌≡◌, ℕ, ◌+◌, ◌-◌, true, false, cond, not, T, ◌⊎◌, pos, from_bits, is_nan, nat_lt, to_bits, Float}
use Rattle.std.specs.Float.{fin, binary32}
use Rattle.std.specs.Float.Ieee.{fits, lt}

-- a value of the format, and not a NaN
abbrev pub OnReading : Float → Type 0
OnReading x = T (fits binary32 x) × T (not (is_nan x))

-- smaller by IEEE's comparison, or -0 and +0, which that comparison does not tell apart
abbrev pub EarlierReading : Float → Float → Type 0
EarlierReading x y = T (lt x y) ⊎ ((x ≡ fin true 0 (pos 0)) × (y ≡ fin false 0 (pos 0)))

-- with m the low 31 bits: sign clear gives 2,139,095,041 + m, sign set 2,139,095,040 - m
abbrev pub place_bits : ℕ → ℕ
place_bits b = cond (nat_lt b 2147483648) (2139095041 + b) (2139095040 - (b - 2147483648))

-- the bits of the reading at a position
abbrev pub bits_at : ℕ → ℕ
bits_at p = cond (nat_lt p 2139095041) (2147483648 + (2139095040 - p)) (p - 2139095041)

abbrev pub place_reading : Float → ℕ
place_reading x = place_bits (to_bits binary32 x)

abbrev pub value_reading : ℕ → Float
value_reading p = from_bits binary32 (bits_at p)
