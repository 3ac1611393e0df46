-- Numbers in columns.
use Rattle.std.specs.Prelude.{ℕ, ◌-◌, List, ◌++◌, length, replicate, decimal}

-- a number in so many columns: its decimal digits at the right, without zeros or a minus before them, and only blanks before these
abbrev pub column : ℕ → ℕ → List ℕ
column width n = replicate (width - length (decimal n)) 32 ++ decimal n
