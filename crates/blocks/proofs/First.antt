-- The first open bound of a block, setting by setting.
use Rattle.std.proofs.Common.{ℕ, ◌+◌, ◌-◌, ◌<◌, ◌≤◌, Some, None, Option, MatchOption, subst, inl, inr, arith}
use Rattle.std.proofs.lemmas.Bool.{cases_lt, cases_eq}
use Rattle.blocks.specs.declared.bound.Bound.{Bound}
use Rattle.blocks.specs.declared.bound.Bound.TheVariants.{AtMost, AtLeast}
use Rattle.blocks.specs.Bounds.{rank}
use Rattle.blocks.specs.Ranges.{Ranges, Stands}
use Rattle.blocks.specs.Status.{BoundOf, Open, FirstOpen, TellsFirst, LowOpen, HighOpen, TellsOpenAt}
use Rattle.blocks.proofs.Arrays.{each_of}
use Rattle.blocks.proofs.Ranging.{open_at}

module _ (g b : Ranges) where
  abbrev pub NoneAt : ℕ → Type 0
  NoneAt i = TellsOpenAt g b i None

  module _ (last : ℕ → ℕ) (sg : Stands last g) where
    low_at : (s p : ℕ) → BoundOf last b (AtMost s p) → Open g (AtMost s p) → LowOpen g b s
    low_at s p e o = let k = (open_at last g sg (AtMost s p)).0 o in omega arith

    high_at : (s p : ℕ) → BoundOf last b (AtLeast s p) → Open g (AtLeast s p) → HighOpen g b s
    high_at s p e o = let k = (open_at last g sg (AtLeast s p)).0 o in omega arith

    none_open : ((i : ℕ) → NoneAt i) → (β : Bound) → BoundOf last b β → ¬ Open g β
    none_open none (AtMost s p) e o = (none s).0 (low_at s p e o)
    none_open none (AtLeast s p) e o = (none s).1 (high_at s p e o)

    module _ (i : ℕ) (none : (k : ℕ) → k < i → NoneAt k) where
      first_low : LowOpen g b i → FirstOpen last g b (AtMost i (b.low i - 1))
      first_low l = record { bound = omega arith; open' = (open_at last g sg (AtMost i (b.low i - 1))).1 (omega arith); before = before }
        where
          before : (γ : Bound) → BoundOf last b γ → Open g γ → rank (AtMost i (b.low i - 1)) ≤ rank γ
          before (AtMost s q) e o = elim (cases_lt s i) [ inl k ↦ absurd ((none s k).0 (low_at s q e o)) | inr k ↦ omega arith ]
          before (AtLeast s q) e o = elim (cases_lt s i) [ inl k ↦ absurd ((none s k).1 (high_at s q e o)) | inr k ↦ omega arith ]

      first_high : (¬ LowOpen g b i) → HighOpen g b i → FirstOpen last g b (AtLeast i (b.high i + 1))
      first_high n h = record { bound = (omega arith, let k = sg i in omega arith); open' = (open_at last g sg (AtLeast i (b.high i + 1))).1 (omega arith); before = before }
        where
          before : (γ : Bound) → BoundOf last b γ → Open g γ → rank (AtLeast i (b.high i + 1)) ≤ rank γ
          before (AtMost s q) e o = elim (cases_lt s i) [
            | inl k ↦ absurd ((none s k).0 (low_at s q e o))
            | inr k ↦ elim (cases_eq s i) [ inl d ↦ absurd (n (subst (LowOpen g b) d (low_at s q e o))) | inr d ↦ omega arith ]
          ]
          before (AtLeast s q) e o = elim (cases_lt s i) [ inl k ↦ absurd ((none s k).1 (high_at s q e o)) | inr k ↦ omega arith ]

  first_none : ((i : ℕ) → NoneAt i) → TellsFirst g b None
  first_none none last sg sb = none_open last sg none

  first_some : (i : ℕ) → ((k : ℕ) → k < i → NoneAt k) → (t : ℕ × ℕ × ℕ) → TellsOpenAt g b i (Some t) → TellsFirst g b (Some t)
  first_some i none t (inl h) last sg sb = (AtMost i (b.low i - 1), h.1, first_low last sg i none h.0)
  first_some i none t (inr h) last sg sb = (AtLeast i (b.high i + 1), h.2, first_high last sg i none h.0 h.1)

  -- the settings from n on have no open bound
  pub first_of : (n : ℕ) → ((k : ℕ) → n ≤ k → NoneAt k) → (r : Option (ℕ × ℕ × ℕ))
      → MatchOption r ((k : ℕ) → k < n → NoneAt k) (λ t. (i : ℕ) × TellsOpenAt g b i (Some t) × ((k : ℕ) → k < i → NoneAt k)) → TellsFirst g b r
  first_of n past None h = first_none (each_of NoneAt n h past)
  first_of n past (Some t) h = first_some h.0 h.2 t h.1
