-- The tests of a step decide what is asked of a line, at blocks that are real.
use Rattle.std.proofs.Common.{◌≡◌, ℕ, ◌≤◌, Bool, ◌&&◌, leb, Decides, refl, arith}
use Rattle.std.proofs.lemmas.Bool.{leb-true, le-leb}
use Rattle.std.proofs.lemmas.Bool.Decides.{Decides-below_and, Decides-and, Decides-like}
use Rattle.blocks.specs.Ranges.{Ranges, everything, Inside, Resolvable}
use Rattle.blocks.specs.Views.{Real}
use Rattle.blocks.proofs.Arrays.{each_of}
use Rattle.blocks.proofs.Resolving.{Near, resolvable_near, near_resolvable}
use Rattle.checker.specs.Steps.{all_below, near, resolvable, whole}

-- a test at each of the first n settings decides what holds at all, where that is sure behind them
each_decides : (p : ℕ → Bool) (P : ℕ → Type 0) (n : ℕ) → ((i : ℕ) → Decides (p i) (P i)) → ((i : ℕ) → n ≤ i → P i) → Decides (all_below p n) ((i : ℕ) → P i)
each_decides p P n each sure = Decides-like (all_below p n) (λ first. each_of P n first sure) (λ all i _. all i) (Decides-below_and p P (all_below p) each refl (λ _. refl) n)

leb_decides : (a b : ℕ) → Decides (leb a b) (a ≤ b)
leb_decides a b = (leb-true a b, le-leb a b)

both_decide : (a b c d : ℕ) → Decides (leb a b && leb c d) ((a ≤ b) × (c ≤ d))
both_decide a b c d = Decides-and (leb a b) (leb c d) (leb_decides a b) (leb_decides c d)

low_past : (g : Ranges) → Real g → (i : ℕ) → 12 ≤ i → g.low i ≡ 0
low_past g r i h = omega (arith, r.ordered i, r.twelve i h)

pub resolvable_decides : (s : ℕ) (a b : Ranges) → Real a → Real b → Decides (resolvable s a b) (Resolvable s a b)
resolvable_decides s a b ra rb = Decides-like (resolvable s a b) (near_resolvable s a b) (resolvable_near s a b)
    (each_decides (near s a b) (Near s a b) 12 (λ i. both_decide _ _ _ _) (λ i h. omega (arith, low_past a ra i h, low_past b rb i h)))

pub whole_decides : (last : ℕ → ℕ) (w : Ranges) → ((i : ℕ) → 12 ≤ i → last i ≡ 0) → Real w → Decides (whole last w) (Inside (everything last) w)
whole_decides last w beyond r =
    each_decides (λ i. leb (w.low i) 0 && leb (last i) (w.high i)) (λ i. (w.low i ≤ 0) × (last i ≤ w.high i)) 12 (λ i. both_decide _ _ _ _) (λ i h. omega (arith, low_past w r i h, beyond i h))
