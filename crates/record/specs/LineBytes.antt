-- The ten bytes of a line.
use Rattle.std.specs.Prelude.{◌≡◌, ℕ, min, List, [], ◌∷◌, ◌++◌, Some, None, Option, ◌≢◌}
use Rattle.scales.specs.declared.refusal.Stop.TheVariants.{BadShape}
use Rattle.scales.specs.Checks.{Check, check_at}
use Rattle.blocks.specs.declared.line.Line.{Line}
use Rattle.blocks.specs.Lines.{letter, block_column, setting_column}
use Rattle.record.specs.Columns.{column}

-- its letter, its block in five columns, its setting in three, and byte 10; columns that the line does not use hold 0
abbrev pub line_bytes : Line → List ℕ
line_bytes l = letter l ∷ (column 5 (block_column l) ++ (column 3 (setting_column l) ++ 10 ∷ []))

-- what some bytes say: the line whose ten bytes they are; nothing where they are no line's
abbrev pub Says : List ℕ → Option Line → Type 0
Says bs (Some l) = bs ≡ line_bytes l
Says bs None = (l : Line) → bs ≢ line_bytes l

-- the n-th line of a record has the bytes of some line
abbrev pub shape_checks : ℕ → List ℕ → List Check
shape_checks n bs = check_at BadShape (min n 99999) ((l : Line) × (bs ≡ line_bytes l)) ∷ []
