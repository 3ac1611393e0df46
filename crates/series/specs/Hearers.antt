-- A sink by what it answers, whatever its states are.
use Rattle.std.specs.Prelude.{ℕ, List, [], ◌∷◌, ◌++◌, Some, None, Option}
use Rattle.blocks.specs.declared.line.Line.{Line}
use Rattle.blocks.specs.Sinks.{Step, taken, refused, state_after}

-- what it answers to a line after the lines that it has taken: nothing where it takes the line, else the number by which it
-- refuses it
abbrev pub Hearer : Type 0
Hearer = List Line → Line → Option ℕ

abbrev pub number_of : {M : Type 0} → Step M → Option ℕ
number_of (taken s) = None
number_of (refused n) = Some n

-- a sink of these states, from the state s on
abbrev pub hearer : {M : Type 0} → (M → Line → Step M) → M → Hearer
hearer step s ts l = number_of (step (state_after step s ts) l)

-- and back: a sink whose states are the lines that it has taken
abbrev pub hears_as : List Line → Line → Option ℕ → Step (List Line)
hears_as ts l None = taken (ts ++ l ∷ [])
hears_as ts l (Some n) = refused n

abbrev pub hears : Hearer → List Line → Line → Step (List Line)
hears k ts l = hears_as ts l (k ts l)
