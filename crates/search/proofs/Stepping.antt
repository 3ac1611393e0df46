-- From a scan to the step, or to the end, that it calls for.
use Rattle.std.proofs.Common.{◌≡◌, ℕ, ◌+◌, ◌-◌, ◌<◌, ◌≤◌, List, [], ◌∷◌, length, take, Some, None, Option, sym, refl, ◌∙◌, subst, inl, inr, arith}
use Rattle.std.proofs.lemmas.Bool.{cases_lt, le-ltb}
use Rattle.std.proofs.lemmas.Option.{none-some}
use Rattle.rows.specs.Items.{items}
use Rattle.blocks.specs.declared.bound.Bound.{Bound}
use Rattle.blocks.specs.declared.line.Line.{Line}
use Rattle.blocks.specs.Ranges.{Ranges, Stands}
use Rattle.blocks.proofs.Numbers.{some_same}
use Rattle.blocks.specs.Sheets.{Sheet, Proper}
use Rattle.blocks.specs.Sinks.{Step as SinkStep}
use Rattle.blocks.specs.Slots.{Slot, slot_at}
use Rattle.blocks.specs.Bounds.{told}
use Rattle.blocks.specs.declared.status.Status.TheVariants.{Open as unsettled}
use Rattle.blocks.specs.Status.{Dead, Forces, FirstOpen, Tells}
use Rattle.blocks.specs.Views.{ranges}
use Rattle.search.specs.declared.course.Course.{Course}
use Rattle.search.specs.declared.scan.Scan.TheVariants.{Broken as at_broken, Forcing as at_forcing, Quiet as quiet}
use Rattle.search.specs.declared.moves.Ended.TheVariants.{Found}
use Rattle.search.specs.Search.{First, Entry, found, State, blocks_of, region_of, Hit, NotDead, Step, on, Ends, all_dead}
use Rattle.search.specs.Tallies.{Feed}
use Rattle.search.specs.Trails.{Reason, reasoned, trail_of}
use Rattle.search.specs.Courses.{state_of, Joined}
use Rattle.search.specs.Moves.{Going, Goes, Stops, BreaksFirst}
use Rattle.search.specs.Scans.{Calm, Scanned}
use Rattle.search.proofs.Sound.{Good, stands, steps_good, good_start}
use Rattle.search.proofs.Total.{Status, dead, broken, forcing, opens, status, dead_not_broken, dead_not_forcing}
use Rattle.search.proofs.Joining.{joined_trail, joined_left, joined_ends}
use Rattle.search.proofs.Trailing.{length_below}
use Rattle.search.proofs.Slots.{slot_take_past}
use Rattle.search.proofs.Listing.{trail_192}

module _ (S : Sheet) (pr : Proper S) (c : Course) (area : List Slot) (going : Going S c area) where
  abbrev m : ℕ
  m = length area

  abbrev st : State
  st = state_of c area

  good : Good S (state_of c area)
  good = steps_good S (length area) going.steps (good_start S pr)

  -- the region and every block stand
  pub region_here : Stands S.last (ranges c.region)
  region_here = subst (Stands S.last) (sym going.kept.left) (stands S (length area) (state_of c area) good)

  pub block_here : (k : ℕ) (b : Ranges) → blocks_of S (length area) (state_of c area) k ≡ Some b → Stands S.last b
  block_here k b e = (good.blocks k b e).0

  past : (k : ℕ) → 100 + c.filled ≤ k → (b : Ranges) → blocks_of S (length area) (state_of c area) k ≡ Some b → ⊥
  past k l b e = none-some _ (sym (slot_take_past area c.filled (k - 100) (omega arith)) ∙ rw (le-ltb k 100 (omega arith)) at e)

  -- a step that lets an entry join leaves it room
  pub room_for : (e : Entry) (ls : List Line) (slots : ℕ → Option Ranges) (next : ℕ) → Step S (length area) (state_of c area) ls (record { trail = e ∷ trail_of c.trail; slots = slots; next = next }) → length (items c.trail.entries) < 192
  room_for e ls slots next p = omega (arith, trail_192 S pr (length area) (on going.steps p), length_below (items c.trail.entries) (length (items c.trail.entries)))

  -- the blocks of the state, and the region that the trail leaves
  abbrev at : ℕ → Option Ranges
  at = blocks_of S (length area) (state_of c area)

  abbrev here : Ranges
  here = region_of S (length area) (state_of c area)

  left_here : Stands S.last (region_of S (length area) (state_of c area))
  left_here = stands S (length area) (state_of c area) good

  calm_not_hit : (k : ℕ) → Calm here at k → ¬ Hit S (length area) (state_of c area) k
  calm_not_hit k calm (b, e, h) = elim (calm b e) [
    | inl d ↦ let x = d S.last left_here (block_here k b e) in elim h [ inl y ↦ dead_not_broken S pr here left_here b x y | inr y ↦ dead_not_forcing S pr here left_here b x y ]
    | inr u ↦ let x = u S.last left_here (block_here k b e) in elim h [ inl y ↦ x.1 y | inr y ↦ x.2 y ]
  ]

  pub breaks_first : (k : ℕ) → Scanned (ranges c.region) at (100 + c.filled) (at_broken k) → BreaksFirst S c area k
  breaks_first k s₀ =
      let s = subst (λ (g : Ranges). Scanned g at (100 + c.filled) (at_broken k)) going.kept.left s₀ in
      let b = s.1 in (
        record { is = (b.0, b.1, inl (b.2 S.last left_here (block_here k b.0 b.1))); before = λ j l. calm_not_hit j (s.2 j l) },
        (b.0, b.1, s₀.1.2 S.last region_here (block_here k s₀.1.0 s₀.1.1)),
      )

  -- block k is the first that is broken or forcing, and forces this bound
  pub record ForcesFirst (k : ℕ) (t : ℕ × ℕ × ℕ) : Type 0 where
    pub first : First (Hit S (length area) (state_of c area)) k
    pub block : Ranges
    pub there : at k ≡ Some block
    pub bound : Bound
    pub is : t ≡ told bound
    pub forces : Forces S.last here block bound

  pub forces_first : (k : ℕ) (t : ℕ × ℕ × ℕ) → Scanned (ranges c.region) at (100 + c.filled) (at_forcing k t) → ForcesFirst k t
  forces_first k t s₀ =
      let s = subst (λ (g : Ranges). Scanned g at (100 + c.filled) (at_forcing k t)) going.kept.left s₀ in
      let b = s.1 in
      let h = b.2 S.last left_here (block_here k b.0 b.1) in
      record { first = record { is = (b.0, b.1, inr (h.0, h.2)); before = λ j l. calm_not_hit j (s.2 j l) }; block = b.0; there = b.1; bound = h.0; is = h.1; forces = h.2 }

  module _ (a : Option ℕ) (s₀ : Scanned (ranges c.region) at (100 + c.filled) (quiet a)) where
    quiet_here : Scanned here at (100 + c.filled) (quiet a)
    quiet_here = subst (λ (g : Ranges). Scanned g at (100 + c.filled) (quiet a)) going.kept.left s₀

    pub no_hit : (j : ℕ) → ¬ Hit S (length area) (state_of c area) j
    no_hit j h = elim (cases_lt j (100 + c.filled)) [ inl l ↦ calm_not_hit j (quiet_here.0 j l) h | inr l ↦ past j l h.0 h.1 ]

  pub stops_found : {M : Type 0} (step : M → Line → SinkStep M) (f : Feed M) → Scanned (ranges c.region) at (100 + c.filled) (quiet None) → Stops step S c area f (Found c.region) c area f
  stops_found step f s₀ = record {
    lines = [];
    ends = subst (λ (g : Ranges). Ends S (length area) (state_of c area) [] (found g)) (sym going.kept.left) (all_dead (no_hit None s₀) dead_all);
    told = refl;
    same = refl;
  }
    where
      dead_all : (j : ℕ) (b : Ranges) → at j ≡ Some b → Dead S.last here b
      dead_all j b e = elim (cases_lt j (100 + c.filled)) [ inl l ↦ (quiet_here None s₀).1 j l b e S.last left_here (block_here j b e) | inr l ↦ absurd (past j l b e) ]

  -- block k is the first that is not dead, and no block is broken or forcing
  pub record OpensFirst (k : ℕ) : Type 0 where
    pub calm : (j : ℕ) → ¬ Hit S (length area) (state_of c area) j
    pub first : First (NotDead S (length area) (state_of c area)) k
    pub block : Ranges
    pub there : at k ≡ Some block
    pub undecided : Tells (ranges c.region) block unsettled

  pub opens_first : (k : ℕ) → Scanned (ranges c.region) at (100 + c.filled) (quiet (Some k)) → OpensFirst k
  opens_first k s₀ =
      let s = (quiet_here (Some k) s₀).1 in
      let b = s.1 in
      let h = b.2 S.last left_here (block_here k b.0 b.1) in
      record {
        calm = no_hit (Some k) s₀;
        first = record { is = (b.0, b.1, h.0); before = λ j l n. n.2 (s.2 j l n.0 n.1 S.last left_here (block_here j n.0 n.1)) };
        block = s₀.1.1.0;
        there = s₀.1.1.1;
        undecided = s₀.1.1.2;
      }

  -- such a block has a first open bound
  pub first_open_here : (k : ℕ) → (o : OpensFirst k) → (β : Bound) × FirstOpen S.last here o.block β
  first_open_here k o = opened (status S pr here left_here o.block (block_here k o.block o.there))
    where
      opened : Status S.last here o.block → (β : Bound) × FirstOpen S.last here o.block β
      opened (dead d) = absurd (o.first.is.2 (subst (Dead S.last here) (some_same o.there o.first.is.1) d))
      opened (broken b) = absurd (o.calm k (o.block, o.there, inl b))
      opened (forcing f) = absurd (o.calm k (o.block, o.there, inr f))
      opened (opens β f nd nf) = (β, f)

  -- a bound that a step lets join
  module _ {M : Type 0} (step : M → Line → SinkStep M) (f : Feed M) (c' : Course) (β : Bound) (r : Reason) (j : Joined c β r c')
      (p : Step S (length area) (state_of c area) [] (record { trail = reasoned β r ∷ trail_of c.trail; slots = slot_at (take c.filled area); next = c.next })) where
    moved : ◌≡◌ {A = State} (record { trail = reasoned β r ∷ trail_of c.trail; slots = slot_at (take c.filled area); next = c.next }) (state_of c' area)
    moved =
        let t = joined_trail S.last c c' β r j going.kept.left in
        sym (λ i. record { trail = t i; slots = slot_at (take (j.filled i) area); next = j.next i })

    pub goes_on : Goes step S c area f c' area f
    goes_on =
        let k = going.kept in
        let fi = j.filled in
        let ne = j.next in
        record {
          kept = record {
            ends = joined_ends S.last c c' β r j k.left k.ends;
            left = joined_left S.last c c' β r j k.left;
            room = k.room;
            filled = let q = k.filled in omega arith;
            next = let q = k.next in omega arith;
            full = λ i l. k.full i (omega arith);
          };
          lines = [];
          moves = subst (Step S (length area) (state_of c area) []) moved p;
          told = refl;
          whole = refl;
          more = omega arith;
          untouched = λ i l. refl;
        }
