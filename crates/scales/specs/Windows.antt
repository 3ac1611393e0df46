-- A window: a scale cut to the values from one end to another, ends included, counted from the first.
use Rattle.std.specs.Prelude.{◌≡◌, ℕ, ◌+◌, ◌-◌, ◌≤◌, min, ◌⊎◌, ◌↔◌, List, [], ◌∷◌}
use Rattle.scales.specs.declared.refusal.Stop.TheVariants.{BadScale}
use Rattle.scales.specs.Checks.{Check, check}
use Rattle.scales.specs.Models.{ScaleModel}

-- v is w or an earlier value
abbrev pub NotAfter : (m : ScaleModel) → m.Value → m.Value → Type 0
NotAfter m v w = (v ≡ w) ⊎ m.Earlier v w

-- both ends are on the scale, and not reversed
pub record GoodEnds (m : ScaleModel) (from to : m.Value) : Type 0 where
  pub from_on : m.On from
  pub to_on : m.On to
  pub in_order : NotAfter m from to

abbrev pub end_checks : (m : ScaleModel) → m.Value → m.Value → List Check
end_checks m from to = check BadScale (GoodEnds m from to) ∷ []

-- the first position of the window; held to the scale, so that every window has a value
abbrev pub low : ScaleModel → ℕ → ℕ
low m first = min first m.top

-- the values of m from position first to position end
abbrev pub cut : ScaleModel → ℕ → ℕ → ScaleModel
cut m first end = record {
  Value = m.Value;
  On = λ v. m.On v × (low m first ≤ m.position v) × (m.position v ≤ end);
  Earlier = m.Earlier;
  position = λ v. m.position v - low m first;
  standing = λ p. m.standing (p + low m first);
  top = min end m.top - low m first;
}

-- the window from position first to position end has just the values from one end to the other, and counts them from the first
pub record WindowOf (m : ScaleModel) (from to : m.Value) (first end : ℕ) : Type 0 where
  pub first_is : first ≡ m.position from
  pub end_is : end ≡ m.position to
  pub values : (v : m.Value) → (cut m first end).On v ↔ (m.On v × NotAfter m from v × NotAfter m v to)
  pub counted : (v : m.Value) → m.On v → NotAfter m from v → (cut m first end).position v + m.position from ≡ m.position v
  pub last : (cut m first end).top + m.position from ≡ m.position to
