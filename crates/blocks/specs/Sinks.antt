-- Sinks: what comes of a line that a sink is sent.
use Rattle.std.specs.Prelude.{ℕ, List, [], ◌∷◌, Ok, Err, Result}
use Rattle.blocks.specs.declared.line.Line.{Line}

-- a line is taken, with the next state, or refused by a number
pub data Step (M : Type 0) : Type 0 where
  taken : M → Step M
  refused : ℕ → Step M

abbrev pub result_of : {M : Type 0} → Step M → Result (Unit {0}) ℕ
result_of (taken s) = Ok tt
result_of (refused n) = Err n

-- a sink that refuses a line keeps its state
abbrev pub next_of : {M : Type 0} → M → Step M → M
next_of s (taken t) = t
next_of s (refused n) = s

-- the state after lines that are sent in order, refused ones among them
abbrev pub state_after : {M : Type 0} → (M → Line → Step M) → M → List Line → M
state_after step s [] = s
state_after step s (l ∷ ls) = state_after step (next_of s (step s l)) ls
