-- Grounds that a judge accepts, as lines and as bytes.
use Rattle.std.specs.Prelude.{◌≡◌, ℕ, ◌*◌, List, length, take, None, Ok, Option}
use Rattle.std.specs.List.{flat_map}
use Rattle.blocks.specs.declared.line.Line.{Line}
use Rattle.blocks.specs.Ranges.{Ranges}
use Rattle.blocks.specs.Sheets.{Sheet}
use Rattle.record.specs.LineBytes.{line_bytes}
use Rattle.record.specs.Pages.{Page, page, writes}
use Rattle.record.specs.Readings.{TakesAll}
use Rattle.checker.specs.Courts.{ended, opened}
use Rattle.checker.specs.Steps.{step}
use Rattle.checker.specs.Findings.{after}
use Rattle.search.specs.Search.{State, cold, none, Run}
use Rattle.search.specs.Sends.{Sends}
use Rattle.search.specs.Solve.{used}
use Rattle.series.specs.Judging.{Judged}

-- a judge opened on S with m slots takes each of these lines, in order, and has ended then
pub record Accepts (S : Sheet) (m : ℕ) (ls : List Line) : Type 0 where
  pub takes : TakesAll step (opened S m) ls
  pub ends : (after S m ls).phase ≡ ended

-- these bytes, and no others behind them, are a record that the judge accepts
abbrev pub AcceptsBytes : Sheet → ℕ → List ℕ → Type 0
AcceptsBytes S m bytes = (left : List (Option Ranges)) × Judged S m bytes (Ok tt) left

-- Over m slots: the grounds of each "none" are accepted by a judge with as many slots.
pub record GroundsAccepted (S : Sheet) (m : ℕ) : Type 0 where
  -- the complete lines of the search
  pub lines : (ls : List Line) (end : State) → Run S (used m) cold ls none end → Accepts S m ls
  -- their bytes
  pub bytes : (ls : List Line) (end : State) → Run S (used m) cold ls none end → AcceptsBytes S m (flat_map line_bytes ls)
  -- a record that refused none of them has just these bytes written, from the front of its buffer
  pub written : (ls sent : List Line) (buffer : List ℕ) (p : Page) → Sends writes (page buffer 0) ls sent None p
      → (p.written ≡ 10 * length ls) × (take p.written p.bytes ≡ flat_map line_bytes ls)
