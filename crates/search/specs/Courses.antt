-- Where a search of the program stands, as the relation has it.
use Rattle.std.specs.Prelude.{◌≡◌, ℕ, List, [], ◌∷◌, ◌++◌, take, None}
use Rattle.rows.specs.Items.{items}
use Rattle.blocks.specs.declared.bound.Bound.{Bound}
use Rattle.blocks.specs.declared.status.Status.TheVariants.{Open as undecided}
use Rattle.blocks.specs.Ranges.{Ranges, Stands, end, narrow}
use Rattle.blocks.specs.Status.{Tells, FirstOpen}
use Rattle.blocks.specs.Slots.{Slot, slot_at}
use Rattle.blocks.specs.Views.{ranges}
use Rattle.search.specs.declared.course.Course.{Course}
use Rattle.search.specs.Search.{State}
use Rattle.search.specs.Trails.{Reason, trail_of}

-- the state: the trail, the slots that are filled, and where the round goes on
abbrev pub state_of : Course → List Slot → State
state_of c area = record { trail = trail_of c.trail; slots = slot_at (take c.filled area); next = c.next }

-- a bound joins the trail with its reason, and the region is narrowed
pub record Joined (before : Course) (β : Bound) (r : Reason) (after : Course) : Type 0 where
  pub entries : items after.trail.entries ≡ items before.trail.entries ++ (record { bound = β; end = end β (ranges before.region); reason = r }) ∷ []
  pub region : ranges after.region ≡ narrow β (ranges before.region)
  pub filled : after.filled ≡ before.filled
  pub next : after.next ≡ before.next

-- a block is neither dead nor broken nor forcing
abbrev pub Undecided : Ranges → Ranges → Type 0
Undecided b g = Tells g b undecided × ((last : ℕ → ℕ) × Stands last g × Stands last b)

-- its first open bound joins the trail as decided
abbrev pub DecidedOn : Ranges → Course → Course → Type 0
DecidedOn b before after = (last : ℕ → ℕ) → Stands last (ranges before.region) → Stands last b
    → (β : Bound) × FirstOpen last (ranges before.region) b β × Joined before β None after
