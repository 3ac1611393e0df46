-- A choice and its profile determine each other, and meet the same bounds.
use Rattle.std.proofs.Common.{◌≡◌, ℕ, zero, suc, ◌<◌, ◌≤◌, ◌⊎◌, List, [], ◌∷◌, length, get_or, sym, refl, ap, ◌∙◌, arith, rules}
use Rattle.scales.specs.declared.side.Side.{Side}
use Rattle.scales.specs.declared.side.Side.TheVariants.{AtMost, AtLeast}
use Rattle.scales.specs.Models.{ScaleModel, Keeps}
use Rattle.scales.specs.Sides.{Meets}
use Rattle.scales.specs.Choices.{AllKeep, lasts, Choice, OnScales, Within, profile, ValueMeets, ChoiceMeets, ProfileMeets, ChoicesStand}

-- one value, and its position
module _ (m : ScaleModel) (k : Keeps m) (v : m.Value) (o : m.On v) (p : ℕ) (h : p ≤ m.top) where
  pub value→place : (side : Side) → ValueMeets m side v p → Meets side (m.position v) p
  value→place AtMost l = grind (arith, k.place_value p h, k.earlier_smaller v (m.standing p) o (k.value_on p h))
  value→place AtLeast l = grind (arith, k.place_value p h, k.earlier_smaller (m.standing p) v (k.value_on p h) o)

  by_order : (side : Side) → (v ≡ m.standing p) ⊎ (m.Earlier v (m.standing p) ⊎ m.Earlier (m.standing p) v) → Meets side (m.position v) p → ValueMeets m side v p
  by_order AtMost t l = grind (arith, k.place_value p h, k.earlier_smaller (m.standing p) v (k.value_on p h) o)
  by_order AtLeast t l = grind (arith, k.place_value p h, k.earlier_smaller v (m.standing p) o (k.value_on p h))

  pub place→value : (side : Side) → Meets side (m.position v) p → ValueMeets m side v p
  place→value side = by_order side (k.total v (m.standing p) o (k.value_on p h))

-- settings side by side
choice→profile : (ms : List ScaleModel) → AllKeep ms → (c : Choice ms) → OnScales ms c → (i p : ℕ) → p ≤ get_or (lasts ms) i 0 → (side : Side) → ChoiceMeets ms c i side p → ProfileMeets (profile ms c) i side p
choice→profile [] k c o i p h side t = absurd t
choice→profile (m ∷ ms) k c o zero p h side t = value→place m k.0 c.0 o.0 p h side t
choice→profile (m ∷ ms) k c o (suc i) p h side t = choice→profile ms k.1 c.1 o.1 i p h side t

profile→choice : (ms : List ScaleModel) → AllKeep ms → (c : Choice ms) → OnScales ms c → (i p : ℕ) → i < length (lasts ms) → p ≤ get_or (lasts ms) i 0 → (side : Side) → ProfileMeets (profile ms c) i side p → ChoiceMeets ms c i side p
profile→choice [] k c o i p l h side t = absurd (omega arith)
profile→choice (m ∷ ms) k c o zero p l h side t = place→value m k.0 c.0 o.0 p h side t
profile→choice (m ∷ ms) k c o (suc i) p l h side t = profile→choice ms k.1 c.1 o.1 i p (omega arith) h side t

has_profile : (ms : List ScaleModel) → AllKeep ms → (c : Choice ms) → OnScales ms c → Within (lasts ms) (profile ms c)
has_profile [] k c o = tt
has_profile (m ∷ ms) k c o = (k.0.place_within c.0 o.0, has_profile ms k.1 c.1 o.1)

has_choice : (ms : List ScaleModel) → AllKeep ms → (xs : List ℕ) → Within (lasts ms) xs → (c : Choice ms) × OnScales ms c × (profile ms c ≡ xs)
has_choice [] k [] w = (tt, tt, refl)
has_choice [] k (x ∷ xs) w = absurd w
has_choice (m ∷ ms) k [] w = absurd w
has_choice (m ∷ ms) k (x ∷ xs) w =
    let r = has_choice ms k.1 xs w.1 in
    ((m.standing x, r.0), (k.0.value_on x w.0, r.1), ap (λ (p : ℕ). p ∷ profile ms r.0) (k.0.place_value x w.0) ∙ ap (λ (ps : List ℕ). x ∷ ps) r.2)

only_choice : (ms : List ScaleModel) → AllKeep ms → (c d : Choice ms) → OnScales ms c → OnScales ms d → profile ms c ≡ profile ms d → c ≡ d
only_choice [] k c d o q e = refl
only_choice (m ∷ ms) k c d o q e =
    let x = m.position c.0 in
    let y = m.position d.0 in
    let xs = profile ms c.1 in
    let ys = profile ms d.1 in
    let a : c.0 ≡ d.0 = sym (k.0.value_place c.0 o.0) ∙ ap m.standing (search rules) ∙ k.0.value_place d.0 q.0 in
    let b : c.1 ≡ d.1 = only_choice ms k.1 c.1 d.1 o.1 q.1 (search rules) in
    λ i. (a i, b i)

pub choices_stand : (ms : List ScaleModel) → AllKeep ms → ChoicesStand ms
choices_stand ms k = record {
  has_profile = has_profile ms k;
  has_choice = has_choice ms k;
  only_choice = only_choice ms k;
  same_bounds = λ c o i side p l h. (choice→profile ms k c o i p h side, profile→choice ms k c o i p l h side);
}
