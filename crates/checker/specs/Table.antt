-- Three stages by four letters: which lines are allowed when.
use Rattle.std.specs.Prelude.{Bool, true, false}
use Rattle.blocks.specs.declared.line.Line.{Line}
use Rattle.blocks.specs.declared.line.Line.TheVariants.{Take, Resolve, Keep, End}
use Rattle.checker.specs.declared.table.Stage.{Stage}
use Rattle.checker.specs.declared.table.Stage.TheVariants.{Idle, Working, Ended}
use Rattle.checker.specs.declared.table.Letter.{Letter}
use Rattle.checker.specs.declared.table.Letter.TheVariants.{T, R, K, E}

-- idle takes t; working takes r, k and e; ended takes none
abbrev pub allows : Stage → Letter → Bool
allows Idle T = true
allows Idle R = false
allows Idle K = false
allows Idle E = false
allows Working T = false
allows Working R = true
allows Working K = true
allows Working E = true
allows Ended T = false
allows Ended R = false
allows Ended K = false
allows Ended E = false

abbrev pub letter_of : Line → Letter
letter_of (Take k) = T
letter_of (Resolve k s) = R
letter_of (Keep k) = K
letter_of End = E
