-- A record of bytes, judged as a whole: opening, line by line up to the first refused, finding.
use Rattle.std.specs.Prelude.{◌≡◌, ℕ, ◌<◌, List, [], ◌++◌, length, Ok, Err, Option, Result, ◌≢◌}
use Rattle.std.specs.List.{flat_map}
use Rattle.scales.specs.declared.refusal.Refusal.{Refusal}
use Rattle.scales.specs.declared.refusal.Stop.TheVariants.{BadShape, EndMissing}
use Rattle.scales.specs.Stops.{line_place}
use Rattle.scales.specs.Checks.{Refuses}
use Rattle.blocks.specs.declared.line.Line.{Line}
use Rattle.blocks.specs.Ranges.{Ranges}
use Rattle.blocks.specs.Sheets.{Sheet}
use Rattle.record.specs.LineBytes.{line_bytes}
use Rattle.record.specs.Readings.{TakesAll}
use Rattle.checker.specs.Courts.{Court, ended, opened}
use Rattle.checker.specs.Hearing.{line_checks}
use Rattle.checker.specs.Steps.{step}
use Rattle.checker.specs.Findings.{after}

-- What is found behind the lines that were taken, where these bytes of the record are left.
pub data Judgement (c : Court) (rest : List ℕ) : Result (Unit {0}) Refusal → Type 0 where
  -- the record is over, and its last line was e
  accepted : rest ≡ [] → c.phase ≡ ended → Judgement c rest (Ok tt)
  -- it is over without e
  over : rest ≡ [] → ¬ (c.phase ≡ ended) → Judgement c rest (Err (line_place EndMissing c.line))
  -- what follows is no line
  no_line : 0 < length rest → ((l : Line) (behind : List ℕ) → rest ≢ line_bytes l ++ behind) → Judgement c rest (Err (line_place BadShape c.line))
  -- the line that follows is refused
  line_refused : (l : Line) (behind : List ℕ) {e : Refusal} → rest ≡ line_bytes l ++ behind → Refuses (line_checks c l) e → Judgement c rest (Err e)

-- The record begins with lines that the judge takes, over m slots that were all marked empty; what is found behind them,
-- and what its slots hold then.
pub record Judged (S : Sheet) (m : ℕ) (bytes : List ℕ) (r : Result (Unit {0}) Refusal) (left : List (Option Ranges)) : Type 0 where
  pub lines : List Line
  pub rest : List ℕ
  pub begins : bytes ≡ flat_map line_bytes lines ++ rest
  pub takes : TakesAll step (opened S m) lines
  pub finds : Judgement (after S m lines) rest r
  pub left_in : left ≡ (after S m lines).slots
