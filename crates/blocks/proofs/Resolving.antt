-- Whether two blocks may be resolved, setting by setting.
use Rattle.std.proofs.Common.{◌≡◌, ℕ, ◌+◌, ◌<◌, ◌≤◌, ◌≢◌, min, max, cond, eqb, get_or, Some, None, Option, MatchOption, sym, ap, subst, inl, inr, arith}
use Rattle.std.proofs.lemmas.List.{get_or_default}
use Rattle.std.proofs.lemmas.Bool.{cases_eq, eq-eqb, ne_eqb}
use Rattle.blocks.specs.declared.block.Block.{Block}
use Rattle.blocks.specs.declared.block.interval.Interval.{Interval}
use Rattle.blocks.specs.Ranges.{Ranges, resolve, Resolvable}
use Rattle.blocks.specs.Views.{nought, interval_at, ranges}
use Rattle.blocks.proofs.Arrays.{each_of}
use Rattle.blocks.proofs.Ranging.{same_block, resolve_at}
use Rattle.blocks.proofs.Viewing.{low_past, high_past}

-- the ranges of one setting overlap; on the setting s they may adjoin
abbrev pub Near : ℕ → Ranges → Ranges → ℕ → Type 0
Near s a b i = (a.low i ≤ b.high i + cond (eqb i s) 1 0) × (b.low i ≤ a.high i + cond (eqb i s) 1 0)

pub resolvable_near : (s : ℕ) (a b : Ranges) → Resolvable s a b → (i : ℕ) → Near s a b i
resolvable_near s a b h i = elim (cases_eq i s) [
  | inl e ↦ rw (eq-eqb i s e) (subst (λ (k : ℕ). (a.low k ≤ b.high k + 1) × (b.low k ≤ a.high k + 1)) (sym e) (omega (arith, h.joins)))
  | inr n ↦ rw (ne_eqb i s n) (omega (arith, h.others i n))
]

pub near_resolvable : (s : ℕ) (a b : Ranges) → ((i : ℕ) → Near s a b i) → Resolvable s a b
near_resolvable s a b h = record {
  joins = let k : (a.low s ≤ b.high s + 1) × (b.low s ≤ a.high s + 1) = rw (eq-eqb s s (λ _. s)) at (h s) in omega arith;
  others = λ i n. let k : (a.low i ≤ b.high i + 0) × (b.low i ≤ a.high i + 0) = rw (ne_eqb i s n) at (h i) in omega arith;
}

-- past the twelfth setting there is only position 0
pub near_past : (s : ℕ) (a b : Block) (i : ℕ) → 12 ≤ i → Near s (ranges a) (ranges b) i
near_past s a b i h = omega (arith, low_past a i h, low_past b i h)

-- what becomes of the positions of a setting, or nothing where it forbids resolving
abbrev pub Made : ℕ → Ranges → Ranges → ℕ → Option Interval → Type 0
Made s a b i None = Near s a b i → ⊥
Made s a b i (Some r) = Near s a b i × (r.low ≡ (resolve s a b).low i) × (r.high ≡ (resolve s a b).high i)

-- on the setting s the two are joined, elsewhere they meet
module _ (s : ℕ) (a b : Block) (i : ℕ) (h : i < 12) (d e : Interval) where
  abbrev own : Interval
  own = get_or a.intervals i d

  abbrev theirs : Interval
  theirs = get_or b.intervals i e

  read_ends : (own.low ≡ (ranges a).low i) × (own.high ≡ (ranges a).high i) × (theirs.low ≡ (ranges b).low i) × (theirs.high ≡ (ranges b).high i)
  read_ends =
      let p = get_or_default a.intervals i d nought (omega (arith, a.twelve)) in
      let q = get_or_default b.intervals i e nought (omega (arith, b.twelve)) in
      (ap (λ (r : Interval). r.low) p, ap (λ (r : Interval). r.high) p, ap (λ (r : Interval). r.low) q, ap (λ (r : Interval). r.high) q)

  pub joined : i ≡ s → (o : Option Interval)
      → MatchOption o (min own.high theirs.high + 1 < max own.low theirs.low) (λ r. (max own.low theirs.low ≤ min own.high theirs.high + 1) × (r.low ≡ min own.low theirs.low) × (r.high ≡ max own.high theirs.high))
      → Made s (ranges a) (ranges b) i o
  joined is None m = let x = read_ends in rw (eq-eqb i s is) (λ n. omega (arith, own.ordered, theirs.ordered))
  joined is (Some r) m = let x = read_ends in rw (eq-eqb i s is) (omega arith)

  pub met : i ≢ s → (o : Option Interval)
      → MatchOption o (min own.high theirs.high < max own.low theirs.low) (λ r. (r.low ≡ max own.low theirs.low) × (r.high ≡ min own.high theirs.high)) → Made s (ranges a) (ranges b) i o
  met n None m = let x = read_ends in rw (ne_eqb i s n) (λ k. omega (arith, own.ordered, theirs.ordered))
  met n (Some r) m = let x = read_ends in let o = r.ordered in rw (ne_eqb i s n) (omega arith)

module _ (s : ℕ) (a b : Block) where
  abbrev both : Ranges
  both = resolve s (ranges a) (ranges b)

  -- a setting that forbids it
  pub not_resolvable : (i : ℕ) → Made s (ranges a) (ranges b) i None → Resolvable s (ranges a) (ranges b) → ⊥
  not_resolvable i m r = m (resolvable_near s (ranges a) (ranges b) r i)

  -- positions that are made on each of the twelve settings are the resolved block's
  module _ (c : Block) (each : (k : ℕ) → k < 12 → Made s (ranges a) (ranges b) k (Some (interval_at c k))) where
    pub all_near : Resolvable s (ranges a) (ranges b)
    all_near = near_resolvable s (ranges a) (ranges b) (each_of (Near s (ranges a) (ranges b)) 12 (λ k l. (each k l).0) (near_past s a b))

    pub all_made : ranges c ≡ both
    all_made = same_block (ranges c) both (each_of (λ k. ((ranges c).low k ≡ both.low k) × ((ranges c).high k ≡ both.high k)) 12 (λ k l. ((each k l).1, (each k l).2))
        (λ k m. let r = resolve_at s (ranges a) (ranges b) k in
        omega (arith, low_past c k m, high_past c k m, low_past a k m, low_past b k m, high_past a k m, high_past b k m)))
