-- What the calls of a scale answer.
use Rattle.std.specs.Prelude.{◌≡◌, ℕ, ◌≤◌, List, [], ◌∷◌, Result}
use Rattle.scales.specs.declared.refusal.Refusal.{Refusal}
use Rattle.scales.specs.declared.refusal.Stop.TheVariants.{OffScale}
use Rattle.scales.specs.Checks.{Check, check, Outcome}

-- the one thing that a scale asks of a value or of a position: that it is on the scale
abbrev pub on_scale : Type 0 → List Check
on_scale on = check OffScale on ∷ []

-- the position of a value that is on the scale
abbrev pub Placed : Type 0 → ℕ → Result ℕ Refusal → Type 0
Placed on position r = Outcome (on_scale on) (λ p. p ≡ position) r

-- the value standing at a position that is at most the top
abbrev pub Valued : {V : Type 0} → ℕ → ℕ → V → Result V Refusal → Type 0
Valued top p standing r = Outcome (on_scale (p ≤ top)) (λ v. v ≡ standing) r
