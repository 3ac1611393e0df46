-- Settings side by side: one value for each, or one position for each, and which bounds they meet.
use Rattle.std.specs.Prelude.{◌≡◌, ℕ, zero, suc, ◌<◌, ◌≤◌, ◌⊎◌, ◌↔◌, List, [], ◌∷◌, length, slice_index}
use Rattle.scales.specs.declared.side.Side.{Side}
use Rattle.scales.specs.declared.side.Side.TheVariants.{AtMost, AtLeast}
use Rattle.scales.specs.Models.{ScaleModel, Keeps}
use Rattle.scales.specs.Sides.{Meets}

-- every scale keeps the laws
abbrev pub AllKeep : List ScaleModel → Type 0
AllKeep [] = Unit {0}
AllKeep (m ∷ ms) = Keeps m × AllKeep ms

-- the last positions
abbrev pub lasts : List ScaleModel → List ℕ
lasts [] = []
lasts (m ∷ ms) = m.top ∷ lasts ms

-- a choice: one value for each setting
abbrev pub Choice : List ScaleModel → Type 0
Choice [] = Unit {0}
Choice (m ∷ ms) = m.Value × Choice ms

-- each value is on its setting's scale
abbrev pub OnScales : (ms : List ScaleModel) → Choice ms → Type 0
OnScales [] c = Unit {0}
OnScales (m ∷ ms) c = m.On c.0 × OnScales ms c.1

-- a profile: one position for each setting, at most its last
abbrev pub Within : List ℕ → List ℕ → Type 0
Within [] [] = Unit {0}
Within [] (x ∷ xs) = ⊥
Within (l ∷ ls) [] = ⊥
Within (l ∷ ls) (x ∷ xs) = (x ≤ l) × Within ls xs

-- the profile of a choice: the positions of its values
abbrev pub profile : (ms : List ScaleModel) → Choice ms → List ℕ
profile [] c = []
profile (m ∷ ms) c = m.position c.0 ∷ profile ms c.1

-- "at most p" is met by the value at p and by the earlier ones, "at least p" by that and by the later ones
abbrev pub ValueMeets : (m : ScaleModel) → Side → m.Value → ℕ → Type 0
ValueMeets m AtMost v p = (v ≡ m.standing p) ⊎ m.Earlier v (m.standing p)
ValueMeets m AtLeast v p = (v ≡ m.standing p) ⊎ m.Earlier (m.standing p) v

-- the choice's value for setting i meets the bound
abbrev pub ChoiceMeets : (ms : List ScaleModel) → Choice ms → ℕ → Side → ℕ → Type 0
ChoiceMeets [] c i side p = ⊥
ChoiceMeets (m ∷ ms) c zero side p = ValueMeets m side c.0 p
ChoiceMeets (m ∷ ms) c (suc i) side p = ChoiceMeets ms c.1 i side p

-- the profile's position for setting i meets the bound
abbrev pub ProfileMeets : List ℕ → ℕ → Side → ℕ → Type 0
ProfileMeets xs i side p = Meets side (slice_index xs i) p

-- a choice and its profile determine each other, and meet the same bounds
pub record ChoicesStand (ms : List ScaleModel) : Type 0 where
  pub has_profile : (c : Choice ms) → OnScales ms c → Within (lasts ms) (profile ms c)
  pub has_choice : (xs : List ℕ) → Within (lasts ms) xs → (c : Choice ms) × OnScales ms c × (profile ms c ≡ xs)
  pub only_choice : (c d : Choice ms) → OnScales ms c → OnScales ms d → profile ms c ≡ profile ms d → c ≡ d
  pub same_bounds : (c : Choice ms) → OnScales ms c → (i : ℕ) (side : Side) (p : ℕ) → i < length (lasts ms) → p ≤ slice_index (lasts ms) i
      → ChoiceMeets ms c i side p ↔ ProfileMeets (profile ms c) i side p
