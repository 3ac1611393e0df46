-- Two blocks, setting by setting, as a zip of their positions.
use Rattle.std.proofs.Common.{◌≡◌, ℕ, ◌<◌, ◌≤◌, ◌⊎◌, Bool, true, false, List, length, get_or, MatchBool, subst, arith}
use Rattle.std.specs.List.{zip, AllWithin, HoldsAt}
use Rattle.std.proofs.lemmas.Slice.Zip.{length-zip, get_or-zip}
use Rattle.blocks.specs.declared.block.Block.{Block}
use Rattle.blocks.specs.declared.block.interval.Interval.{Interval}
use Rattle.blocks.specs.Ranges.{Inside}
use Rattle.blocks.specs.Views.{nought, interval_at, ranges}
use Rattle.blocks.proofs.Arrays.{each_of}
use Rattle.blocks.proofs.Viewing.{held_past}

abbrev pub Within : Interval × Interval → Type 0
Within p = (p.1.low ≤ p.0.low) × (p.0.high ≤ p.1.high)

abbrev pub Sticks : Interval × Interval → Type 0
Sticks p = (p.0.low < p.1.low) ⊎ (p.1.high < p.0.high)

module _ (a b : Block) where
  abbrev pub pairs : List (Interval × Interval)
  pairs = zip a.intervals b.intervals

  pub pairs_length : length pairs ≡ 12
  pairs_length = omega (arith, length-zip a.intervals b.intervals, a.twelve, b.twelve)

  pub pair_at : (P : Interval × Interval → Type 0) (k : ℕ) → k < 12 → P (get_or pairs k (nought, nought)) → P (interval_at a k, interval_at b k)
  pair_at P k l = subst P (get_or-zip a.intervals b.intervals k (nought, nought) (omega (arith, a.twelve)) (omega (arith, b.twelve)))

  pub inside_pairs : (r : Bool) → MatchBool r (AllWithin Within pairs 0 (length pairs)) ((k : ℕ) × (k < length pairs) × HoldsAt Sticks pairs k)
      → MatchBool r (Inside (ranges a) (ranges b)) (Inside (ranges a) (ranges b) → ⊥)
  inside_pairs true h = each_of (λ k. Within (interval_at a k, interval_at b k)) 12 (λ k l. pair_at Within k l (h k (nought, nought) (omega arith) (omega (arith, pairs_length)))) (held_past a b)
  inside_pairs false h = λ all. let k = h.0 in let s = pair_at Sticks k (omega (arith, pairs_length, h.1)) (h.2 (nought, nought)) in let m = all k in omega arith
