-- What a judge has seen and found, over all lines that it was sent.
use Rattle.std.specs.Prelude.{◌≡◌, ℕ, suc, ◌+◌, min, true, List, [], ◌∷◌, is_ok, Result}
use Rattle.scales.specs.declared.refusal.Refusal.{Refusal}
use Rattle.blocks.specs.declared.line.Line.{Line}
pub use Rattle.blocks.specs.Meeting.{Impossible}
use Rattle.blocks.specs.Sheets.{Sheet, Proper}
use Rattle.blocks.specs.Sinks.{Step, taken, refused, result_of, next_of, state_after}
use Rattle.checker.specs.Courts.{Court, ended, opened}
use Rattle.checker.specs.Hearing.{JustTakes}
use Rattle.checker.specs.Steps.{step}

-- the state of a judge that was opened on S with m slots and then sent these lines, refused ones among them
abbrev pub after : Sheet → ℕ → List Line → Court
after S m ls = state_after step (opened S m) ls

-- how many of the lines it took
abbrev pub one_if_taken : Step Court → ℕ
one_if_taken (taken d) = 1
one_if_taken (refused n) = 0

abbrev pub lines_taken : Court → List Line → ℕ
lines_taken c [] = 0
lines_taken c (l ∷ ls) = one_if_taken (step c l) + lines_taken (next_of c (step c l)) ls

pub record JudgesRightly (S : Sheet) (m : ℕ) (ls : List Line) : Type 0 where
  -- the next line's number is the lines taken and one, stopping at 99,999
  pub numbered : (after S m ls).line ≡ min (suc (lines_taken (opened S m) ls)) 99999
  -- what comes of the next line is what its checks say and what it does, and nothing else
  pub lawful : (l : Line) → JustTakes (after S m ls) l (result_of (step (after S m ls) l)) (next_of (after S m ls) (step (after S m ls) l))
  -- grounds are accepted only where every profile breaks a rule
  pub never_wrong : (after S m ls).phase ≡ ended → Impossible S

-- a finding that accepts, after any lines since an opening on S, means that every profile breaks a rule of S
abbrev pub FoundRightly : Court → Result (Unit {0}) Refusal → Type 0
FoundRightly c r = (S : Sheet) (m : ℕ) (ls : List Line) → Proper S → c ≡ after S m ls → is_ok r ≡ true → Impossible S
