-- Cases that compute, and the least number with a property.
use Rattle.std.proofs.Common.{◌≡◌, ℕ, zero, suc, ◌<◌, ◌≤◌, Bool, true, false, eqb, ltb, ◌⊎◌, sym, refl, subst, ⊎_elim, inl, inr, arith}
use Rattle.std.proofs.lemmas.Bool.{ltb-true, ltb-false, eqb-true, eqb-false}
use Rattle.blocks.specs.declared.bound.Bound.{Bound}
use Rattle.blocks.specs.declared.bound.Bound.TheVariants.{AtMost, AtLeast}
use Rattle.blocks.specs.Ranges.{Ranges, Stands}
use Rattle.blocks.specs.Status.{True, False, Open}
use Rattle.blocks.proofs.Ranging.{TrueAt, FalseAt, OpenAt, true_at, false_at, open_at}
use Rattle.search.specs.Search.{First}

-- cases that compute
abbrev lt_by : (m n : ℕ) (t : Bool) → ltb m n ≡ t → (m < n) ⊎ (n ≤ m)
lt_by m n true e = inl (ltb-true m n e)
lt_by m n false e = inr (ltb-false m n e)

abbrev pub cases_lt : (m n : ℕ) → (m < n) ⊎ (n ≤ m)
cases_lt m n = lt_by m n (ltb m n) refl

abbrev eq_by : (m n : ℕ) (t : Bool) → eqb m n ≡ t → (m ≡ n) ⊎ (m ≡ n → ⊥)
eq_by m n true e = inl (eqb-true m n e)
eq_by m n false e = inr (eqb-false m n e)

abbrev pub cases_eq : (m n : ℕ) → (m ≡ n) ⊎ (m ≡ n → ⊥)
cases_eq m n = eq_by m n (eqb m n) refl

-- a bound is true, false or open
abbrev pub three : (last : ℕ → ℕ) (g : Ranges) → Stands last g → (β : Bound) → True g β ⊎ (False g β ⊎ Open g β)
three last g st β = ⊎_elim (λ t. inl ((true_at last g st β).1 t)) (⊎_elim (λ f. inr (inl ((false_at last g st β).1 f))) (λ o. inr (inr ((open_at last g st β).1 o)))) (numbers β)
  where
    numbers : (β : Bound) → TrueAt g β ⊎ (FalseAt g β ⊎ OpenAt g β)
    numbers (AtMost s p) = elim (cases_lt p (g.low s)) [ inl l ↦ inr (inl l) | inr l ↦ elim (cases_lt p (g.high s)) [ inl k ↦ inr (inr (l, k)) | inr k ↦ inl k ] ]
    numbers (AtLeast s p) = elim (cases_lt (g.high s) p) [ inl l ↦ inr (inl l) | inr l ↦ elim (cases_lt (g.low s) p) [ inl k ↦ inr (inr (k, l)) | inr k ↦ inl k ] ]

-- decided one way or the other
abbrev pub Either : Type 0 → Type 0
Either P = P ⊎ (¬ P)

-- the first below n with a property, or none
abbrev pub first_below : (P : ℕ → Type 0) → ((i : ℕ) → Either (P i)) → (n : ℕ) → ((k : ℕ) × (k < n) × First P k) ⊎ ((i : ℕ) → i < n → ¬ P i)
first_below P dec zero = inr (λ i l p. omega arith)
first_below P dec (suc n) = go (first_below P dec n) (dec n)
  where
    go : ((k : ℕ) × (k < n) × First P k) ⊎ ((i : ℕ) → i < n → ¬ P i) → Either (P n) → ((k : ℕ) × (k < suc n) × First P k) ⊎ ((i : ℕ) → i < suc n → ¬ P i)
    go (inl f) d = inl (f.0, omega arith, f.2)
    go (inr h) (inl p) = inl (n, omega arith, record { is = p; before = h })
    go (inr h) (inr q) = inr (λ i l. elim (cases_eq i n) [ inl e ↦ subst (λ x. ¬ P x) (sym e) q | inr ne ↦ h i (omega arith) ])
