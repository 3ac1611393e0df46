-- An analysis of the program: what it starts from, and what it comes to.
use Rattle.std.specs.Prelude.{◌≡◌, ℕ, ◌<◌, List, length, Bool, true, false, Some, None, Option}
use Rattle.rows.specs.Items.{items}
use Rattle.blocks.specs.declared.line.Line.{Line}
use Rattle.blocks.specs.Ranges.{Ranges}
use Rattle.blocks.specs.Sheets.{Sheet, block_at}
use Rattle.blocks.specs.Sinks.{Step}
use Rattle.blocks.specs.Status.{Broken}
use Rattle.search.specs.declared.trail.Trail.{Trail}
use Rattle.search.specs.Search.{cold, Outcome, learnt, over, region, Analysis, Steps}
use Rattle.search.specs.Tallies.{Feed, fed_all}
use Rattle.search.specs.Trails.{trail_below, trail_of, KeepsEnds}

-- the search has come to this trail and these slots; the region is what the trail leaves, each entry keeps its end, and
-- the work block is a block that is broken there
pub record Ready (S : Sheet) (slots : ℕ → Option Ranges) (t : Trail) (g w : Ranges) : Type 0 where
  pub room : ℕ
  pub next : ℕ
  pub lines : List Line
  pub steps : Steps S room cold lines (record { trail = trail_of t; slots = slots; next = next })
  pub ends : KeepsEnds S.last (items t.entries)
  pub left : g ≡ region S.last (trail_of t)
  pub number : ℕ
  pub there : block_at S.rules slots number ≡ Some w
  pub broken : Broken S.last g w

-- it stopped at the decided entry right behind the trail that it left, or the entries ran out
abbrev pub stopped_at : Bool → Trail → Option ℕ
stopped_at true t = Some (length (items t.entries))
stopped_at false t = None

-- it stopped at the decided entry n, or the entries ran out
abbrev pub outcome_of : Trail → Ranges → Option ℕ → Outcome
outcome_of t w None = over
outcome_of t w (Some n) = learnt w (trail_below (items t.entries) n)

-- where it stopped, the region is the one before that entry
abbrev pub RegionLeft : (ℕ → ℕ) → Trail → Ranges → Option ℕ → Type 0
RegionLeft last t g None = Unit {0}
RegionLeft last t g (Some n) = (n < length (items t.entries)) × (g ≡ region last (trail_below (items t.entries) n))

pub record Analysed {M : Type 0} (step : M → Line → Step M) (S : Sheet) (slots : ℕ → Option Ranges) (t : Trail) (w : Ranges) (f : Feed M)
    (r : Option ℕ) (g' w' : Ranges) (f' : Feed M) : Type 0 where
  pub lines : List Line
  pub analysis : Analysis S.last (block_at S.rules slots) (trail_of t) w lines (outcome_of t w' r)
  pub told : f' ≡ fed_all step f lines
  pub left : RegionLeft S.last t g' r
