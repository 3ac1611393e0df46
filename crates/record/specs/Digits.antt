-- One byte of a column, written and read.
use Rattle.std.specs.Prelude.{ℕ, ◌+◌, ◌-◌, ◌%◌, Bool, false, cond, ◌==◌, nat_le}

-- the last digit of a number
abbrev pub last_digit : ℕ → ℕ
last_digit n = 48 + n % 10

-- the same of what is left of a number before its last columns; a blank where nothing is left
abbrev pub front_byte : ℕ → ℕ
front_byte left = cond (left == 0) 32 (last_digit left)

abbrev pub is_digit : ℕ → Bool
is_digit b = cond (nat_le 48 b) (nat_le b 57) false

-- what a byte is worth as a digit; a blank, as any other byte, is worth nothing
abbrev pub worth : ℕ → ℕ
worth b = cond (is_digit b) (b - 48) 0
