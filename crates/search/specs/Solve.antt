-- A solve: its refusals, its verdict, and what it leaves in the work area and in the sink.
use Rattle.std.specs.Prelude.{◌≡◌, ℕ, ◌<◌, ◌≤◌, min, ◌⊎◌, List, length, Some, None, Ok, Err, Option, Result, MatchOption}
use Rattle.std.specs.List.{slice_get}
use Rattle.scales.specs.declared.refusal.Refusal.{Refusal}
use Rattle.scales.specs.declared.refusal.Stop.TheVariants.{AreaTooSmall, NoSlotFree}
use Rattle.scales.specs.Stops.{no_place}
use Rattle.blocks.specs.declared.block.Block.{Block}
use Rattle.blocks.specs.declared.line.Line.{Line}
use Rattle.blocks.specs.Ranges.{Ranges}
use Rattle.blocks.specs.Sheets.{Sheet}
use Rattle.blocks.specs.Sinks.{Step}
use Rattle.blocks.specs.Slots.{Slot, slot_at}
use Rattle.blocks.specs.Views.{ranges}
use Rattle.search.specs.declared.verdict.FirstRefusal.{FirstRefusal}
use Rattle.search.specs.declared.verdict.Verdict.{Verdict as Answered}
use Rattle.search.specs.Search.{State, cold, Verdict, found, none, no_slot, Run}
use Rattle.search.specs.Sends.{counted, Sends}
use Rattle.search.specs.Tallies.{Feed, fed_all}

-- a search uses at most the first 4,096 slots of its area
abbrev pub used : ℕ → ℕ
used n = min n 4096

-- "found" with its region, or "none"
abbrev pub verdict_of : Option Block → Verdict
verdict_of (Some b) = found (ranges b)
verdict_of None = none

-- the area holds what the search has put into its slots, and is untouched elsewhere
abbrev pub LeftIn : List Slot → List Slot → (ℕ → Option Ranges) → Type 0
LeftIn before after slots = (j : ℕ) → MatchOption (slots j) (slice_get after j ≡ slice_get before j) (λ b. slot_at after j ≡ Some b)

-- the filled slots are the first ones
abbrev pub FilledFirst : (ℕ → Option Ranges) → Type 0
FilledFirst slots = (f : ℕ) × ((j : ℕ) → MatchOption (slots j) (f ≤ j) (λ b. j < f))

-- A run of the search from a cold start, with what came of it: the lines made, the end, what the area holds, and what the
-- sink was sent and answered.
pub record Searched {M : Type 0} (step : M → Line → Step M) (S : Sheet) (before after : List Slot) (from to : M) (v : Verdict) (count : ℕ) (stop : Option FirstRefusal) : Type 0 where
  pub lines : List Line
  pub end : State
  pub run : Run S (used (length before)) cold lines v end
  pub made : count ≡ counted (length lines)
  pub sent : List Line
  pub sends : Sends step from lines sent stop to
  pub first : FilledFirst end.slots
  pub left : LeftIn before after end.slots
  pub whole : length after ≡ length before

-- the same over the slots that are used, line by line, before it is told as a verdict
pub record Ran {M : Type 0} (step : M → Line → Step M) (S : Sheet) (before after : List Slot) (f f' : Feed M) (v : Verdict) : Type 0 where
  pub lines : List Line
  pub end : State
  pub run : Run S (length before) cold lines v end
  pub told : f' ≡ fed_all step f lines
  pub first : FilledFirst end.slots
  pub left : LeftIn before after end.slots
  pub whole : length after ≡ length before

-- Under 193 slots a solve is refused before anything else.
pub record TooSmall {M : Type 0} (before after : List Slot) (from to : M) (e : Refusal) : Type 0 where
  pub few : length before < 193
  pub is : e ≡ no_place AreaTooSmall
  pub area : after ≡ before
  pub sink : to ≡ from

-- Where no slot is free, what was sent and kept up to then stays.
pub record OutOfSlots {M : Type 0} (step : M → Line → Step M) (S : Sheet) (before after : List Slot) (from to : M) (e : Refusal) : Type 0 where
  pub room : 193 ≤ length before
  pub is : e ≡ no_place NoSlotFree
  pub count : ℕ
  pub stop : Option FirstRefusal
  pub searched : Searched step S before after from to no_slot count stop

abbrev pub Solved : {M : Type 0} → (M → Line → Step M) → Sheet → List Slot → List Slot → M → M → Result Answered Refusal → Type 0
Solved step S before after from to (Ok v) = (193 ≤ length before) × Searched step S before after from to (verdict_of v.found) v.lines v.refused
Solved step S before after from to (Err e) = TooSmall before after from to e ⊎ OutOfSlots step S before after from to e
