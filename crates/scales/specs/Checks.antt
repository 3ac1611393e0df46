-- Refusals in order: a call has a list of checks, and the first that fails refuses it.
use Rattle.std.specs.Prelude.{◌≡◌, ℕ, ◌⊎◌, List, [], ◌∷◌, Ok, Err, Result}
use Rattle.scales.specs.declared.refusal.Stop.{Stop}
use Rattle.scales.specs.declared.refusal.Refusal.{Refusal}
use Rattle.scales.specs.Stops.{at_place, no_place}

-- what has to hold, and the refusal where it does not
pub record Check : Type 1 where
  pub holds : Type 0
  pub refusal : Refusal

-- a check whose refusal has nothing to count
abbrev pub check : Stop → Type 0 → Check
check s P = record { holds = P; refusal = no_place s }

-- a check whose refusal is at the n-th bound or line
abbrev pub check_at : Stop → ℕ → Type 0 → Check
check_at s n P = record { holds = P; refusal = at_place s n }

-- every check holds
abbrev pub Passes : List Check → Type 0
Passes [] = Unit {0}
Passes (c ∷ cs) = c.holds × Passes cs

-- the first check that fails has the refusal e
abbrev pub Refuses : List Check → Refusal → Type 0
Refuses [] e = ⊥
Refuses (c ∷ cs) e = ((c.holds → ⊥) × (e ≡ c.refusal)) ⊎ (c.holds × Refuses cs e)

-- a call with these checks answers so: refused by the first that fails, and else as described
abbrev pub Outcome : {R : Type 0} → List Check → (R → Type 0) → Result R Refusal → Type 0
Outcome cs Answer (Ok r) = Passes cs × Answer r
Outcome cs Answer (Err e) = Refuses cs e

-- each check holds or fails
abbrev pub Decided : List Check → Type 0
Decided [] = Unit {0}
Decided (c ∷ cs) = (c.holds ⊎ (c.holds → ⊥)) × Decided cs

-- a list of checks has exactly one outcome
pub record OneOutcome (cs : List Check) : Type 0 where
  pub some_outcome : Decided cs → Passes cs ⊎ ((e : Refusal) × Refuses cs e)
  pub not_both : (e : Refusal) → Passes cs → Refuses cs e → ⊥
  pub one_refusal : (e f : Refusal) → Refuses cs e → Refuses cs f → e ≡ f
