-- What holds of every search of a proper sheet.
use Rattle.std.specs.Prelude.{◌≡◌, ℕ, ◌≤◌, ◌⊎◌, ◌↔◌, List, [], ◌∷◌, map, Some}
use Rattle.std.specs.List.{slice_get}
use Rattle.blocks.specs.declared.bound.Bound.{Bound}
use Rattle.blocks.specs.declared.bound.Bound.TheVariants.{AtMost, AtLeast}
use Rattle.blocks.specs.declared.line.Line.{Line}
use Rattle.blocks.specs.Bounds.{Profile}
use Rattle.blocks.specs.Meeting.{Impossible}
use Rattle.blocks.specs.Ranges.{Ranges, Stands, In}
use Rattle.blocks.specs.Sheets.{Sheet, Breaks}
use Rattle.blocks.specs.Status.{BoundOf}
use Rattle.search.specs.Search.{State, cold, bound_of, Verdict, found, none, no_slot, Steps, Run}

-- a member of a list, and lists whose members differ
abbrev pub Mem : {A : Type 0} → A → List A → Type 0
Mem x [] = ⊥
Mem x (y ∷ ys) = (x ≡ y) ⊎ Mem x ys

abbrev pub Distinct : {A : Type 0} → List A → Type 0
Distinct [] = Unit {0}
Distinct (x ∷ xs) = (¬ Mem x xs) × Distinct xs

-- some rule's block has this bound
abbrev pub OfARule : Sheet → Bound → Type 0
OfARule S β = (i : ℕ) × (b : Ranges) × (slice_get S.rules i ≡ Some b) × BoundOf S.last b β

-- Over m slots.
module _ (S : Sheet) (m : ℕ) where
  -- there is a run, and only one: the same lines, the same verdict with its region, the same end with its slots
  pub record OneRun : Type 0 where
    pub exists : (ls : List Line) × (v : Verdict) × (end : State) × Run S m cold ls v end
    pub only : (ls ks : List Line) (v u : Verdict) (a b : State) → Run S m cold ls v a → Run S m cold ks u b → (ls ≡ ks) × (v ≡ u) × (a ≡ b)

  -- with 193 slots or more it never ends for want of one
  abbrev pub AlwaysASlot : Type 0
  AlwaysASlot = 193 ≤ m → (ls : List Line) (end : State) → Run S m cold ls no_slot end → ⊥

  -- "none" is said exactly where every profile breaks some rule, and no profile of a region found breaks one
  pub record VerdictIsRight : Type 0 where
    pub none_rightly : (ls : List Line) (end : State) → Run S m cold ls none end → Impossible S
    pub found_rightly : (ls : List Line) (b : Ranges) (end : State) → Run S m cold ls (found b) end → Stands S.last b × ((x : Profile) → In b x → ¬ Breaks S x)
    pub none_exactly : 193 ≤ m → (ls : List Line) (v : Verdict) (end : State) → Run S m cold ls v end → (v ≡ none) ↔ Impossible S

  -- the bounds on the trail are different bounds of the rules
  abbrev pub TrailOfTheRules : Type 0
  TrailOfTheRules = (ls : List Line) (st : State) → Steps S m cold ls st → Distinct (map bound_of st.trail) × ((β : Bound) → Mem β (map bound_of st.trail) → OfARule S β)

  -- each low end of a region found is 0 or the position of an "at least" bound of a rule on that setting, each high end the
  -- last or that of an "at most" bound
  abbrev pub FoundEnds : Type 0
  FoundEnds = (ls : List Line) (b : Ranges) (end : State) → Run S m cold ls (found b) end → (i : ℕ)
      → ((b.low i ≡ 0) ⊎ OfARule S (AtLeast i (b.low i))) × ((b.high i ≡ S.last i) ⊎ OfARule S (AtMost i (b.high i)))
