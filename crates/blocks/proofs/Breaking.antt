-- The block of a rule holds just the profiles that break it, and is the only one that does.
use Rattle.std.proofs.Common.{◌≡◌, ℕ, zero, suc, ◌≤◌, ◌↔◌, List, [], ◌∷◌, inl, inr, ⊎_elim, arith}
use Rattle.blocks.specs.declared.bound.Bound.{Bound}
use Rattle.blocks.specs.declared.bound.Bound.TheVariants.{AtMost, AtLeast}
use Rattle.blocks.specs.Bounds.{Profile, Meets}
use Rattle.blocks.specs.Ranges.{Ranges, everything, In, AllIn}
use Rattle.blocks.specs.Rules.{MeetsRule, Breakable, Breakers, against, rule_block}
use Rattle.blocks.proofs.Ranging.{narrow_in, narrow_inside, inside_means, same_block}

against_meets : (last : ℕ → ℕ) (β : Bound) (x : Profile) → In (everything last) x → Meets x (against last β) ↔ (¬ Meets x β)
against_meets last (AtMost s p) x h = omega arith
against_meets last (AtLeast s zero) x h = let k = h s in omega arith
against_meets last (AtLeast s (suc p)) x h = omega arith

pub block_breaks : (last : ℕ → ℕ) (βs : List Bound) (x : Profile) → In (everything last) x → In (rule_block last βs) x ↔ (¬ MeetsRule x βs)
block_breaks last [] x h = (λ k m. m, λ k. h)
block_breaks last (β ∷ βs) x h = (
  (λ k m. let n = (narrow_in (rule_block last βs) (against last β) x).0 k in ⊎_elim ((against_meets last β x h).0 n.1) ((block_breaks last βs x h).0 n.0) m),
  λ k. (narrow_in (rule_block last βs) (against last β) x).1 ((block_breaks last βs x h).1 (λ m. k (inr m)), (against_meets last β x h).1 (λ m. k (inl m))),
)

pub block_high : (last : ℕ → ℕ) (βs : List Bound) (i : ℕ) → (rule_block last βs).high i ≤ last i
block_high last [] i = omega arith
block_high last (β ∷ βs) i = let h = block_high last βs i in let k = narrow_inside (rule_block last βs) (against last β) i in omega arith

whole : (last : ℕ → ℕ) (b : Ranges) → ((i : ℕ) → b.high i ≤ last i) → (x : Profile) → In b x → In (everything last) x
whole last b h x k i = let m = h i in let n = k i in (omega arith, omega arith)

-- two blocks that exist and hold the same profiles are the same
pub same_profiles : (a b : Ranges) → ((i : ℕ) → a.low i ≤ a.high i) → ((i : ℕ) → b.low i ≤ b.high i) → AllIn a b → AllIn b a → a ≡ b
same_profiles a b oa ob f g = same_block a b (λ i. let p = (inside_means a b oa).1 f i in let q = (inside_means b a ob).1 g i in (omega arith, omega arith))

pub breakers_only : (last : ℕ → ℕ) (βs : List Bound) (b : Ranges) → Breakers last βs b → b ≡ rule_block last βs
breakers_only last βs b h = same_profiles b r (λ i. (h.stands i).0) ordered into back
  where
    r : Ranges
    r = rule_block last βs

    into : AllIn b (rule_block last βs)
    into x k = let w = whole last b (λ i. (h.stands i).1) x k in (block_breaks last βs x w).1 ((h.breaks x w).0 k)

    back : AllIn (rule_block last βs) b
    back x k = let w = whole last (rule_block last βs) (block_high last βs) x k in (h.breaks x w).1 ((block_breaks last βs x w).0 k)

    ordered : (i : ℕ) → (rule_block last βs).low i ≤ (rule_block last βs).high i
    ordered i = let k = into b.low (λ j. let s = h.stands j in (omega arith, omega arith)) i in omega arith

-- where some profile breaks the rule, its block holds the breakers
pub rule_breakers : (last : ℕ → ℕ) (βs : List Bound) → Breakable last βs → Breakers last βs (rule_block last βs)
rule_breakers last βs b = record {
  stands = λ i. let k = (block_breaks last βs b.0 b.1).1 b.2 i in (omega arith, block_high last βs i);
  breaks = block_breaks last βs;
}
