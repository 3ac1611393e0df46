-- The trail of the program, as the relation has it.
use Rattle.std.specs.Prelude.{◌≡◌, ℕ, zero, suc, ◌+◌, ◌<◌, ◌≤◌, List, [], ◌∷◌, length, Some, None, Option, slice_index_or}
use Rattle.rows.specs.Items.{items}
use Rattle.blocks.specs.declared.bound.Bound.{Bound}
use Rattle.blocks.specs.declared.bound.Bound.TheVariants.{AtMost}
use Rattle.blocks.specs.Ranges.{end}
use Rattle.search.specs.declared.trail.TrailEntry.{TrailEntry}
use Rattle.search.specs.declared.trail.Trail.{Trail}
use Rattle.search.specs.Search.{Entry, decided, forced, region, IsReason}

-- why a bound is on the trail: the number of the block that forced it, or none where it was decided
abbrev pub Reason : Type 0
Reason = Option ℕ

abbrev pub reasoned : Bound → Reason → Entry
reasoned β None = decided β
reasoned β (Some k) = forced β k

abbrev pub entry_of : TrailEntry → Entry
entry_of e = reasoned e.bound e.reason

-- what stands where there is no entry
abbrev pub no_entry : TrailEntry
no_entry = record { bound = AtMost 0 0; end = 0; reason = None }

-- the first n entries, the last of them first
abbrev pub trail_below : List TrailEntry → ℕ → List Entry
trail_below xs zero = []
trail_below xs (suc n) = entry_of (slice_index_or xs n no_entry) ∷ trail_below xs n

abbrev pub trail_of : Trail → List Entry
trail_of t = trail_below (items t.entries) (length (items t.entries))

-- slot j is the first from one on, and below another, that is no entry's reason
pub record FirstFree (t : List Entry) (from to j : ℕ) : Type 0 where
  pub from_on : from ≤ j
  pub below : j < to
  pub free : ¬ IsReason t (100 + j)
  pub before : (i : ℕ) → from ≤ i → i < j → IsReason t (100 + i)

-- each entry keeps the end that it narrowed
abbrev pub KeepsEnds : (ℕ → ℕ) → List TrailEntry → Type 0
KeepsEnds last xs = (k : ℕ) → k < length xs → (slice_index_or xs k no_entry).end ≡ end (slice_index_or xs k no_entry).bound (region last (trail_below xs k))
