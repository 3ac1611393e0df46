-- What stands on a sheet after a series of calls.
use Rattle.std.specs.Prelude.{◌≡◌, ℕ, ◌≤◌, List, length}
use Rattle.blocks.specs.Rules.{with_rules}
use Rattle.blocks.specs.Sheets.{Sheet}
use Rattle.series.specs.Calls.{Rule}
use Rattle.series.specs.Series.{History, newly_closed, Series, standing}

-- the sheet of these settings on which these rules stand, in order
abbrev pub sheet_with : List ℕ → List Rule → Sheet
sheet_with lasts rs = with_rules (newly_closed lasts) rs

-- The sheet S holds exactly the rules that stand by the calls h and their replies, in call order, and never over 48.
pub record Exact (lasts : List ℕ) (h : History) (S : Sheet) : Type 0 where
  pub exactly : S ≡ sheet_with lasts (standing h)
  pub few : length (standing h) ≤ 48

-- So it is after every series of calls, of every length and order, refusals among them.
abbrev pub SheetExact : Type 0
SheetExact = (lasts : List ℕ) (h : History) (S : Sheet) → Series lasts h S → Exact lasts h S
