-- One step of the program, and its end.
use Rattle.std.specs.Prelude.{◌≡◌, ℕ, suc, ◌+◌, ◌<◌, ◌≤◌, List, ◌∷◌, length, take, Bool, Some, None, Option, nat_eq}
use Rattle.std.specs.List.{slice_get}
use Rattle.std.specs.Map.{update}
use Rattle.rows.specs.Items.{items}
use Rattle.blocks.specs.declared.line.Line.{Line}
use Rattle.blocks.specs.declared.bound.Bound.{Bound}
use Rattle.blocks.specs.Lines.{k_line}
use Rattle.blocks.specs.Ranges.{Ranges, Stands}
use Rattle.blocks.specs.Status.{Broken, Forces}
use Rattle.blocks.specs.Problems.{posed}
use Rattle.blocks.specs.Sheets.{Sheet}
use Rattle.blocks.specs.Sinks.{Step as SinkStep}
use Rattle.blocks.specs.Slots.{Slot, slot_at}
use Rattle.blocks.specs.Views.{ranges}
use Rattle.search.specs.declared.course.Course.{Course}
use Rattle.search.specs.declared.moves.Ended.{Ended}
use Rattle.search.specs.declared.moves.Search.{Search}
use Rattle.search.specs.declared.moves.Ended.TheVariants.{Found, Nothing, Full}
use Rattle.search.specs.Search.{First, cold, forced, Verdict, found, none, no_slot, region, IsReason, FreeSlot, blocks_of, Hit, Step, Steps, Ends}
use Rattle.search.specs.Tallies.{Feed, feed, fed, fed_all}
use Rattle.search.specs.Trails.{trail_of, KeepsEnds}
use Rattle.search.specs.Courses.{state_of}
use Rattle.search.specs.Analyses.{Ready, Analysed, stopped_at}

-- how a course stands to its area: the region is what the trail leaves, each entry keeps its end, the filled slots are the
-- first ones, and the round goes on among them or right behind
pub record Kept (last : ℕ → ℕ) (c : Course) (area : List Slot) : Type 0 where
  pub ends : KeepsEnds last (items c.trail.entries)
  pub left : ranges c.region ≡ region last (trail_of c.trail)
  pub room : length area ≤ 4096
  pub filled : c.filled ≤ length area
  pub next : c.next ≤ c.filled
  pub full : (j : ℕ) → j < c.filled → (b : Ranges) × (slot_at area j ≡ Some b)

-- the search has come here
pub record Going (S : Sheet) (c : Course) (area : List Slot) : Type 0 where
  pub kept : Kept S.last c area
  pub lines : List Line
  pub steps : Steps S (length area) cold lines (state_of c area)

-- it goes on by one step, whose lines are counted and sent; slots that are not filled are untouched
pub record Goes {M : Type 0} (step : M → Line → SinkStep M) (S : Sheet) (c : Course) (area : List Slot) (f : Feed M) (c' : Course) (area' : List Slot) (f' : Feed M) : Type 0 where
  pub kept : Kept S.last c' area'
  pub lines : List Line
  pub moves : Step S (length area) (state_of c area) lines (state_of c' area')
  pub told : f' ≡ fed_all step f lines
  pub whole : length area' ≡ length area
  pub more : c.filled ≤ c'.filled
  pub untouched : (j : ℕ) → c'.filled ≤ j → slice_get area' j ≡ slice_get area j

-- the verdict of an end
abbrev pub verdict_at : Ended → Verdict
verdict_at (Found b) = found (ranges b)
verdict_at Nothing = none
verdict_at Full = no_slot

-- or it ends, and leaves the area as it is
pub record Stops {M : Type 0} (step : M → Line → SinkStep M) (S : Sheet) (c : Course) (area : List Slot) (f : Feed M) (e : Ended) (c' : Course) (area' : List Slot) (f' : Feed M) : Type 0 where
  pub lines : List Line
  pub ends : Ends S (length area) (state_of c area) lines (verdict_at e)
  pub told : f' ≡ fed_all step f lines
  pub same : area' ≡ area

abbrev pub Moved : {M : Type 0} → (M → Line → SinkStep M) → Sheet → Course → List Slot → Feed M → Option Ended → Course → List Slot → Feed M → Type 0
Moved step S c area f None c' area' f' = Goes step S c area f c' area' f'
Moved step S c area f (Some e) c' area' f' = Stops step S c area f e c' area' f'

-- block k is the first that is broken or forcing, and broken
abbrev pub BreaksFirst : Sheet → Course → List Slot → ℕ → Type 0
BreaksFirst S c area k =
    First (Hit S (length area) (state_of c area)) k
    × ((b : Ranges) × (blocks_of S (length area) (state_of c area) k ≡ Some b) × Broken S.last (ranges c.region) b)

-- an analysis has come to this work block: the trail is cut, the region is what it leaves, and the block forces there
pub record Learnt (S : Sheet) (w : Ranges) (c : Course) (area : List Slot) : Type 0 where
  pub kept : Kept S.last c area
  pub forces : (β : Bound) × Forces S.last (ranges c.region) w β
  pub stands : Stands S.last w × Stands S.last (ranges c.region)
  pub short : length (items c.trail.entries) < 192
  -- a reason is a rule or a filled slot
  pub reasons : (j : ℕ) → IsReason (trail_of c.trail) (100 + j) → j < c.filled

-- the work block is kept in the first free slot, by line k, and its bound joins the trail
pub record KeepsIn {M : Type 0} (step : M → Line → SinkStep M) (S : Sheet) (w : Ranges) (c : Course) (area : List Slot) (f : Feed M) (c' : Course) (area' : List Slot) (f' : Feed M) : Type 0 where
  pub slot : ℕ
  pub free : FreeSlot (length area) c.next (trail_of c.trail) slot
  pub bound : Bound
  pub forces : Forces S.last (ranges c.region) w bound
  pub kept : Kept S.last c' area'
  pub trail : trail_of c'.trail ≡ forced bound (100 + slot) ∷ trail_of c.trail
  pub slots : slot_at (take c'.filled area') ≡ update nat_eq (slot_at (take c.filled area)) slot (Some w)
  pub next : c'.next ≡ suc slot
  pub told : f' ≡ fed step f (k_line (100 + slot))
  pub whole : length area' ≡ length area
  pub more : c.filled ≤ c'.filled
  pub untouched : (j : ℕ) → c'.filled ≤ j → slice_get area' j ≡ slice_get area j

-- or every slot is a reason, and nothing is done
pub record KeepsNone {M : Type 0} (c : Course) (area : List Slot) (f : Feed M) (e : Ended) (area' : List Slot) (f' : Feed M) : Type 0 where
  pub is : e ≡ Full
  pub reasons : (j : ℕ) → j < length area → IsReason (trail_of c.trail) (100 + j)
  pub told : f' ≡ f
  pub same : area' ≡ area

abbrev pub Keeps : {M : Type 0} → (M → Line → SinkStep M) → Sheet → Ranges → Course → List Slot → Feed M → Option Ended → Course → List Slot → Feed M → Type 0
Keeps step S w c area f None c' area' f' = KeepsIn step S w c area f c' area' f'
Keeps step S w c area f (Some e) c' area' f' = KeepsNone c area f e area' f'

-- The same of the program's search, which holds all of these.
module _ {K : Type 0} where
  -- the tally, with the sink's state
  abbrev pub feed_in : {M : Type 0} → (K → M) → Search K → Feed M
  feed_in model s = feed s.tally (model s.sink.now)

  -- it keeps its problem, its area and its sink, and what the sink's user lent to it
  pub record SameWithin {L : Type 0} (lent : K → L) (old new : Search K) : Type 0 where
    pub problem : new.problem ≡ old.problem
    pub area : new.area.ghost_name ≡ old.area.ghost_name
    pub sink : new.sink.ghost_name ≡ old.sink.ghost_name
    pub lent_too : lent new.sink.now ≡ lent old.sink.now

  -- its last entries are taken, and the region goes back with them; besides, its sink alone has changed, and the tally with it
  pub record OnlyUndone {L : Type 0} (lent : K → L) (old new : Search K) : Type 0 where
    pub within : SameWithin lent old new
    pub entries : items new.course.trail.entries ≡ take (length (items new.course.trail.entries)) (items old.course.trail.entries)
    pub filled : new.course.filled ≡ old.course.filled
    pub next : new.course.next ≡ old.course.next
    pub slots : new.area.now ≡ old.area.now

  abbrev pub GoingIn : Search K → Type 0
  GoingIn s = Going (posed s.problem) s.course s.area.now

  abbrev pub ReadyIn : Search K → Ranges → Type 0
  ReadyIn s w = (s.course.filled ≤ length s.area.now) × Ready (posed s.problem) (slot_at (take s.course.filled s.area.now)) s.course.trail (ranges s.course.region) w

  module _ {M : Type 0} (step : M → Line → SinkStep M) (model : K → M) where
    abbrev pub AnalysedIn : Search K → Ranges → Bool → Ranges → Search K → Type 0
    AnalysedIn s w r w' s' =
        Analysed step (posed s.problem) (slot_at (take s.course.filled s.area.now)) s.course.trail w (feed_in model s)
        (stopped_at r s'.course.trail) (ranges s'.course.region) w' (feed_in model s')

    abbrev pub MovedOn : Search K → Option Ended → Search K → Type 0
    MovedOn s r s' = Moved step (posed s.problem) s.course s.area.now (feed_in model s) r s'.course s'.area.now (feed_in model s')

    abbrev pub KeepsOn : Ranges → Search K → Option Ended → Search K → Type 0
    KeepsOn w s r s' = Keeps step (posed s.problem) w s.course s.area.now (feed_in model s) r s'.course s'.area.now (feed_in model s')
