-- The lines of the grounds: their letters, and the numbers in their columns.
use Rattle.std.specs.Prelude.{ℕ, min}
use Rattle.std.proofs.Math.Nat.{min-le_right}
use Rattle.blocks.specs.declared.line.Line.{Line}
use Rattle.blocks.specs.declared.line.Line.TheVariants.{Take, Resolve, Keep, End}
use Rattle.blocks.specs.declared.line.numbers.Number.{Number}

-- the bytes t, r, k and e
abbrev pub letter : Line → ℕ
letter (Take b) = 116
letter (Resolve b s) = 114
letter (Keep b) = 107
letter End = 101

abbrev pub block_column : Line → ℕ
block_column (Take b) = b.number
block_column (Resolve b s) = b.number
block_column (Keep b) = b.number
block_column End = 0

abbrev pub setting_column : Line → ℕ
setting_column (Take b) = 0
setting_column (Resolve b s) = s.number
setting_column (Keep b) = 0
setting_column End = 0

abbrev pub BlockNumber : Type 0
BlockNumber = Number 99999

abbrev pub SettingNumber : Type 0
SettingNumber = Number 999

-- a number that stops at a limit: a block's at 99,999, and a setting's at 999
abbrev pub stopping_at : (max : ℕ) → ℕ → Number max
stopping_at max n = record { number = min n max; small = min-le_right n max }

abbrev pub block_number : ℕ → BlockNumber
block_number n = stopping_at 99999 n

abbrev pub setting_number : ℕ → SettingNumber
setting_number n = stopping_at 999 n

-- the four lines, by the numbers that they name
abbrev pub t_line : ℕ → Line
t_line k = Take (block_number k)

abbrev pub r_line : ℕ → ℕ → Line
r_line k s = Resolve (block_number k) (setting_number s)

abbrev pub k_line : ℕ → Line
k_line k = Keep (block_number k)

abbrev pub e_line : Line
e_line = End
