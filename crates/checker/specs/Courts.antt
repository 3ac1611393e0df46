-- What a judge's values mean: its state.
use Rattle.std.specs.Prelude.{◌≡◌, ℕ, List, [], ◌∷◌, replicate, None, Option}
use Rattle.std.specs.List.{slice_get}
use Rattle.scales.specs.declared.refusal.Stop.{Stop}
use Rattle.scales.specs.declared.refusal.Stop.TheVariants.{EndMissing}
use Rattle.scales.specs.Stops.{line_place}
use Rattle.scales.specs.Checks.{Check}
use Rattle.blocks.specs.Ranges.{Ranges}
use Rattle.blocks.specs.Sheets.{Sheet, block_at}
use Rattle.blocks.specs.Views.{ranges}
use Rattle.blocks.specs.Problems.{posed}
use Rattle.blocks.specs.Slots.{holdings, joined}
use Rattle.checker.specs.declared.table.Stage.{Stage}
use Rattle.checker.specs.declared.table.Stage.TheVariants as stages
use Rattle.checker.specs.declared.state.State.{State}
use Rattle.checker.specs.declared.state.State.TheVariants.{Idle, Working, Ended}
use Rattle.checker.specs.declared.judge.Judge.{Judge}

-- idle, working on a block, or ended
pub data Phase : Type 0 where
  idle : Phase
  working : Ranges → Phase
  ended : Phase

-- the sheet that is judged over, what the judge is about, what its slots hold, and the number of its next line, from 1
pub record Court : Type 0 where
  pub sheet : Sheet
  pub phase : Phase
  pub slots : List (Option Ranges)
  pub line : ℕ

-- the state that opening makes, over m slots
abbrev pub opened : Sheet → ℕ → Court
opened S m = record { sheet = S; phase = idle; slots = replicate m None; line = 1 }

-- the block of a number: rule i is block i, slot j is block 100 + j
abbrev pub block_in : Court → ℕ → Option Ranges
block_in c k = block_at c.sheet.rules (λ j. joined (slice_get c.slots j)) k

abbrev pub phase_of : State → Phase
phase_of Idle = idle
phase_of (Working b) = working (ranges b)
phase_of Ended = ended

abbrev pub stage : Phase → Stage
stage idle = stages.Idle
stage (working w) = stages.Working
stage ended = stages.Ended

-- the state of a judge
abbrev pub court_of : Judge → Court
court_of j = record { sheet = posed j.problem; phase = phase_of j.state; slots = holdings j.area.now; line = j.line }

-- a check whose refusal is at the next line
abbrev pub asks : Court → Stop → Type 0 → Check
asks c s P = record { holds = P; refusal = line_place s c.line }

-- the finding of a judge in this phase whose next line would have this number: accepted if ended
abbrev pub finding_checks : Phase → ℕ → List Check
finding_checks p n = record { holds = p ≡ ended; refusal = line_place EndMissing n } ∷ []
