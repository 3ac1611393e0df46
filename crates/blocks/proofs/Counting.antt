-- How many bounds a block has, and how many a narrowing brings.
use Rattle.std.proofs.Common.{◌≡◌, ℕ, zero, suc, ◌+◌, ◌-◌, ◌*◌, ◌<◌, ◌≤◌, Bool, true, false, cond, ltb, ◌≢◌, [], ◌∷◌, ◌++◌, length, refl, ap, ◌∙◌, inl, inr, arith, length-append}
use Rattle.std.proofs.lemmas.Bool.{cases_lt, le-ltb}
use Rattle.blocks.specs.declared.bound.Bound.{Bound}
use Rattle.blocks.specs.declared.bound.Bound.TheVariants.{AtMost, AtLeast}
use Rattle.blocks.specs.Bounds.{setting}
use Rattle.blocks.specs.Ranges.{Ranges, everything, narrow}
use Rattle.blocks.specs.Counts.{bounds_at, bounds_below}
use Rattle.blocks.proofs.Ranging.{narrow_low, narrow_high}

-- the sides of one range that are bounds
abbrev pub sides_at : (ℕ → ℕ) → Ranges → ℕ → ℕ
sides_at last b i = cond (ltb 0 (b.low i)) 1 0 + cond (ltb (b.high i) (last i)) 1 0

at_length : (last : ℕ → ℕ) (b : Ranges) (i : ℕ) → length (bounds_at last b i) ≡ sides_at last b i
at_length last b i = go (ltb 0 (b.low i)) (ltb (b.high i) (last i))
  where
    go : (p q : Bool) → length (cond p (AtMost i (b.low i - 1) ∷ []) [] ++ cond q (AtLeast i (b.high i + 1) ∷ []) []) ≡ cond p 1 0 + cond q 1 0
    go true true = refl
    go true false = refl
    go false true = refl
    go false false = refl

pub below_length : (last : ℕ → ℕ) (b : Ranges) (n : ℕ) → length (bounds_below last b (suc n)) ≡ length (bounds_below last b n) + sides_at last b n
below_length last b n = length-append (bounds_below last b n) (bounds_at last b n) ∙ ap (λ (k : ℕ). length (bounds_below last b n) + k) (at_length last b n)

sides_two : (last : ℕ → ℕ) (b : Ranges) (i : ℕ) → sides_at last b i ≤ 2
sides_two last b i = go (ltb 0 (b.low i)) (ltb (b.high i) (last i))
  where
    go : (p q : Bool) → cond p 1 0 + cond q 1 0 ≤ 2
    go true true = omega arith
    go true false = omega arith
    go false true = omega arith
    go false false = omega arith

-- one setting more is counted
pub count_more : (last : ℕ → ℕ) (b : Ranges) (n count more : ℕ) → count ≤ 2 * n → count ≡ length (bounds_below last b n) → more ≡ sides_at last b n
    → (count + more ≤ 2 * (n + 1)) × (count + more ≡ length (bounds_below last b (suc n)))
count_more last b n count more l e m = (omega (arith, sides_two last b n), omega (arith, below_length last b n))

-- everything has no bound
pub everything_none : (last : ℕ → ℕ) (n : ℕ) → length (bounds_below last (everything last) n) ≡ 0
everything_none last zero = refl
everything_none last (suc n) =
    let here : sides_at last (everything last) n ≡ 0 = ap (λ (t : Bool). 0 + cond t 1 0) (le-ltb (last n) (last n) (omega arith)) in
    omega (arith, below_length last (everything last) n, everything_none last n)

-- narrowing brings one bound at most, on the bound's setting
sides_one : (last : ℕ → ℕ) (g : Ranges) (γ : Bound) (i : ℕ) → sides_at last (narrow γ g) i ≤ suc (sides_at last g i)
sides_one last g (AtMost s p) i = go (ltb 0 (g.low i)) (ltb ((narrow (AtMost s p) g).high i) (last i)) (ltb (g.high i) (last i))
  where
    go : (p q r : Bool) → cond p 1 0 + cond q 1 0 ≤ suc (cond p 1 0 + cond r 1 0)
    go true true true = omega arith
    go true true false = omega arith
    go true false true = omega arith
    go true false false = omega arith
    go false true true = omega arith
    go false true false = omega arith
    go false false true = omega arith
    go false false false = omega arith
sides_one last g (AtLeast s p) i = go (ltb (g.high i) (last i)) (ltb 0 ((narrow (AtLeast s p) g).low i)) (ltb 0 (g.low i))
  where
    go : (p q r : Bool) → cond q 1 0 + cond p 1 0 ≤ suc (cond r 1 0 + cond p 1 0)
    go true true true = omega arith
    go true true false = omega arith
    go true false true = omega arith
    go true false false = omega arith
    go false true true = omega arith
    go false true false = omega arith
    go false false true = omega arith
    go false false false = omega arith

sides_same : (last : ℕ → ℕ) (g : Ranges) (γ : Bound) (i : ℕ) → i ≢ setting γ → sides_at last (narrow γ g) i ≡ sides_at last g i
sides_same last g (AtMost s p) i n = ap (λ (h : ℕ). cond (ltb 0 (g.low i)) 1 0 + cond (ltb h (last i)) 1 0) (elim (narrow_high g s p i) [ inl e ↦ absurd (n e.0) | inr e ↦ e.1 ])
sides_same last g (AtLeast s p) i n = ap (λ (l : ℕ). cond (ltb 0 l) 1 0 + cond (ltb (g.high i) (last i)) 1 0) (elim (narrow_low g s p i) [ inl e ↦ absurd (n e.0) | inr e ↦ e.1 ])

module _ (last : ℕ → ℕ) (g : Ranges) (γ : Bound) where
  abbrev after : ℕ → ℕ
  after n = length (bounds_below last (narrow γ g) n)

  abbrev before : ℕ → ℕ
  before n = length (bounds_below last g n)

  same_before : (n : ℕ) → n ≤ setting γ → after n ≡ before n
  same_before zero l = refl
  same_before (suc n) l = omega (arith, below_length last g n, below_length last (narrow γ g) n, same_before n (omega arith), sides_same last g γ n (omega arith))

  one_behind : (n : ℕ) → setting γ < n → after n ≤ suc (before n)
  one_behind zero l = absurd (omega arith)
  one_behind (suc n) l = elim (cases_lt (setting γ) n) [
    | inl k ↦ omega (arith, below_length last g n, below_length last (narrow γ g) n, one_behind n k, sides_same last g γ n (omega arith))
    | inr k ↦ omega (arith, below_length last g n, below_length last (narrow γ g) n, same_before n k, sides_one last g γ n)
  ]

  pub one_more : (n : ℕ) → after n ≤ suc (before n)
  one_more n = elim (cases_lt (setting γ) n) [ inl l ↦ one_behind n l | inr l ↦ let e = same_before n l in omega arith ]
