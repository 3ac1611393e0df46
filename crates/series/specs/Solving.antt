-- A solve over a sheet: what it tells, what its sink was sent, and what its work area holds then.
use Rattle.std.specs.Prelude.{◌≡◌, ℕ, suc, ◌<◌, ◌≤◌, List, [], ◌∷◌, length, Some, None, Ok, Err, Option, Result}
use Rattle.scales.specs.declared.refusal.Refusal.{Refusal}
use Rattle.scales.specs.declared.refusal.Stop.TheVariants.{AreaTooSmall, NoSlotFree}
use Rattle.scales.specs.Stops.{no_place}
use Rattle.blocks.specs.declared.line.Line.{Line}
use Rattle.blocks.specs.Ranges.{Ranges}
use Rattle.blocks.specs.Sheets.{Sheet}
use Rattle.search.specs.declared.verdict.FirstRefusal.{FirstRefusal}
use Rattle.search.specs.declared.verdict.Verdict.{Verdict as Answered}
use Rattle.search.specs.Search.{State, cold, Verdict, no_slot, Run}
use Rattle.search.specs.Sends.{counted, Sends}
use Rattle.search.specs.Solve.{used, verdict_of}
use Rattle.series.specs.Hearers.{Hearer, hears}

-- a work area: what each slot holds
abbrev pub Area : Type 0
Area = List (Option Ranges)

-- what a search has put into a slot, or else what was in it
abbrev pub put_or : Option Ranges → Option Ranges → Option Ranges
put_or None o = o
put_or (Some b) o = Some b

-- the area with what a search has put into its slots
abbrev pub filled : (ℕ → Option Ranges) → Area → Area
filled slots [] = []
filled slots (o ∷ os) = put_or (slots 0) o ∷ filled (λ j. slots (suc j)) os

-- what a solve tells: the search's verdict, the count of lines made, and the sink's first refusal with the count there
pub record Told : Type 0 where
  pub says : Verdict
  pub made : ℕ
  pub stop : Option FirstRefusal

-- The one run of the search from a cold start, with its complete lines; those that the sink was sent; and what is left in
-- the area.
pub record Searches (S : Sheet) (area : Area) (k : Hearer) (t : Told) (sent : List Line) (left : Area) : Type 0 where
  pub room : 193 ≤ length area
  pub lines : List Line
  pub end : State
  pub run : Run S (used (length area)) cold lines t.says end
  pub made : t.made ≡ counted (length lines)
  pub heard : List Line
  pub sends : Sends (hears k) [] lines sent t.stop heard
  pub left_in : left ≡ filled end.slots area

-- A solve is refused before anything else where its area is too small; it is carried out, with "found" or "none"; or the
-- search ends for want of a slot.
pub data Solves (S : Sheet) (area : Area) (k : Hearer) : Result Told Refusal → List Line → Area → Type 0 where
  too_small : length area < 193 → Solves S area k (Err (no_place AreaTooSmall)) [] area
  carried_out : {t : Told} {sent : List Line} {left : Area} → ¬ (t.says ≡ no_slot) → Searches S area k t sent left → Solves S area k (Ok t) sent left
  no_slot_free : {t : Told} {sent : List Line} {left : Area} → t.says ≡ no_slot → Searches S area k t sent left → Solves S area k (Err (no_place NoSlotFree)) sent left

-- what the code's answer tells
abbrev pub told_by : Answered → Told
told_by v = record { says = verdict_of v.found; made = v.lines; stop = v.refused }

abbrev pub told : Result Answered Refusal → Result Told Refusal
told (Ok v) = Ok (told_by v)
told (Err e) = Err e
