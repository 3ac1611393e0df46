-- Blocks of the program, by their ranges.
use Rattle.std.proofs.Common.{◌≡◌, ℕ, ◌<◌, ◌≤◌, min, max, ◌↔◌, eqb, Some, None, Option, sym, refl, ap, ◌∙◌, subst, inl, inr, arith}
use Rattle.std.proofs.lemmas.List.{get_or_past}
use Rattle.std.specs.Bool.{then_some}
use Rattle.std.proofs.lemmas.Bool.{cases_eq, eq-eqb, ne_eqb}
use Rattle.blocks.specs.declared.block.Block.{Block}
use Rattle.blocks.specs.declared.block.interval.Interval.{Interval}
use Rattle.blocks.specs.declared.bound.Bound.{Bound}
use Rattle.blocks.specs.declared.bound.Bound.TheVariants.{AtMost, AtLeast}
use Rattle.blocks.specs.Bounds.{Meets}
use Rattle.blocks.specs.Ranges.{Ranges, In, with_low, with_high, with_end, narrow, Back}
use Rattle.blocks.specs.Views.{nought, interval_at, ranges, Real, BlockOf, Narrowed}
use Rattle.blocks.proofs.Ranging.{same_block, narrow_inside, narrow_in, undo_narrow}

interval_past : (b : Block) (i : ℕ) → 12 ≤ i → interval_at b i ≡ nought
interval_past b i h = get_or_past b.intervals i nought (omega (arith, b.twelve))

-- the ranges of a block are real
pub low_past : (b : Block) (i : ℕ) → 12 ≤ i → (ranges b).low i ≡ 0
low_past b i h = ap (λ (r : Interval). r.low) (interval_past b i h)

pub high_past : (b : Block) (i : ℕ) → 12 ≤ i → (ranges b).high i ≡ 0
high_past b i h = ap (λ (r : Interval). r.high) (interval_past b i h)

pub real : (b : Block) → Real (ranges b)
real b = record { ordered = λ i. (interval_at b i).ordered; twelve = high_past b }

-- narrowing is real where some profile meets the bound
pub narrowed : (β : Bound) (b : Block) (r : Option Block) → BlockOf (narrow β (ranges b)) r → Narrowed β (ranges b) r
narrowed β b (Some h) e = (e, λ x. subst (λ (g : Ranges). In g x ↔ (In (ranges b) x × Meets x β)) (sym e) (narrow_in (ranges b) β x))
narrowed β b None none = λ x h m.
    let k = (narrow_in (ranges b) β x).1 (h, m) in
    none (record { ordered = λ i. let j = k i in omega arith; twelve = λ i l. let j = narrow_inside (ranges b) β i in omega (arith, high_past b i l) })

pub back : (β : Bound) (p : ℕ) (h : Ranges) → Back β p h
back β p h g e q = ap (with_end β p) e ∙ ap (λ (n : ℕ). with_end β n (narrow β g)) q ∙ undo_narrow β g

-- past the twelfth setting no side of a block cuts another's
pub held_past : (a b : Block) (k : ℕ) → 12 ≤ k → ((ranges b).low k ≤ (ranges a).low k) × ((ranges a).high k ≤ (ranges b).high k)
held_past a b k h = omega (arith, low_past b k h, high_past a k h)

-- past the twelfth setting only position 0 is written, which stands already
pub written_past : (b : Block) (s l h : ℕ) → 12 ≤ s → l ≤ h → BlockOf (with_low s l (with_high s h (ranges b))) (then_some (eqb h 0) b)
written_past b s l h past le = elim (cases_eq h 0) [
  | inl e ↦ rw (eq-eqb h 0 e) (same_block (ranges b) (with_low s l (with_high s h (ranges b))) (λ i. elim (cases_eq i s) [
    | inl d ↦ rw (eq-eqb i s d) (omega (arith, low_past b i (omega arith), high_past b i (omega arith)))
    | inr n ↦ rw (ne_eqb i s n) (refl, refl)
  ]))
  | inr n ↦ rw (ne_eqb h 0 n) (λ r. let k : h ≡ 0 = rw (eq-eqb s s refl) at (r.twelve s past) in n k)
]

-- ends that cross are no block's
pub crossed_high : (g : Ranges) (s p : ℕ) → p < g.low s → Real (with_high s p g) → ⊥
crossed_high g s p l r = let k : g.low s ≤ p = rw (eq-eqb s s refl) at (r.ordered s) in omega arith

pub crossed_low : (g : Ranges) (s p : ℕ) → g.high s < p → Real (with_low s p g) → ⊥
crossed_low g s p l r = let k : p ≤ g.high s = rw (eq-eqb s s refl) at (r.ordered s) in omega arith

-- both ends are written, of which one stands already
pub high_written : (g : Ranges) (s l h : ℕ) → l ≡ g.low s → with_low s l (with_high s h g) ≡ with_high s h g
high_written g s l h e = same_block (with_low s l (with_high s h g)) (with_high s h g)
    (λ i. (elim (cases_eq i s) [ inl d ↦ rw (eq-eqb i s d) (e ∙ ap g.low (sym d)) | inr n ↦ rw (ne_eqb i s n) ], refl))

pub low_written : (g : Ranges) (s l h : ℕ) → h ≡ g.high s → with_low s l (with_high s h g) ≡ with_low s l g
low_written g s l h e = same_block (with_low s l (with_high s h g)) (with_low s l g)
    (λ i. (refl, elim (cases_eq i s) [ inl d ↦ rw (eq-eqb i s d) (e ∙ ap g.high (sym d)) | inr n ↦ rw (ne_eqb i s n) ]))

pub narrowed_high : (b : Block) (s p : ℕ) (r : Interval) (o : Option Block) → r.low ≡ (ranges b).low s → r.high ≡ min ((ranges b).high s) p
    → BlockOf (with_low s r.low (with_high s r.high (ranges b))) o → Narrowed (AtMost s p) (ranges b) o
narrowed_high b s p r o l h w = narrowed (AtMost s p) b o
    (subst (λ (g : Ranges). BlockOf g o) (high_written (ranges b) s r.low r.high l ∙ ap (λ (n : ℕ). with_high s n (ranges b)) h) w)

pub narrowed_low : (b : Block) (s p : ℕ) (r : Interval) (o : Option Block) → r.low ≡ max ((ranges b).low s) p → r.high ≡ (ranges b).high s
    → BlockOf (with_low s r.low (with_high s r.high (ranges b))) o → Narrowed (AtLeast s p) (ranges b) o
narrowed_low b s p r o l h w = narrowed (AtLeast s p) b o
    (subst (λ (g : Ranges). BlockOf g o) (low_written (ranges b) s r.low r.high h ∙ ap (λ (n : ℕ). with_low s n (ranges b)) l) w)
