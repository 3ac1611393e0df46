-- `find_map` over the first numbers: nothing at each of them, or what the first gives at which there is something.
use Rattle.std.proofs.Common.{◌≡◌, ℕ, ◌+◌, ◌<◌, Some, None, Option, IsTrue, MatchOption, ap, ◌∙◌, subst, arith}
use Rattle.std.proofs.iter.runs.Sources.{range_runs}
use Rattle.std.proofs.iter.Yields.{nat_range_steps}
use Rattle.std.proofs.lemmas.Option.{same_Some}
use Rattle.std.specs.Fn.{Called}
use Rattle.std.specs.Iterator.Runs.{Run, SomeRun, ItemsCountUp, CallKeepsClosure, AllItemsGive, IsFirstToGive}
use Rattle.std.specs.Option.{IfSome, IsSomeAnd, option_map}
use Rattle.std.specs.declared.ops.Range.{Range}
use denote.Param.Members.{Mut}

-- what holds of the item at a place, which is the place's number
if_number : (P : ℕ → Type 0) (o : Option ℕ) (k : ℕ) → option_map (λ y. y) o ≡ Some k → IfSome o P → P k
if_number P None k e h = absurd (cc)
if_number P (Some x) k e h = subst P (same_Some x k e) h

and_number : (P : ℕ → Type 0) (o : Option ℕ) (k : ℕ) → option_map (λ y. y) o ≡ Some k → IsSomeAnd o P → P k
and_number P None k e h = absurd h
and_number P (Some x) k e h = subst P (same_Some x k e) h

module _ {F B : Type 0} {g : Mut F (ℕ × Unit {0}) (Option B)} {f : F} (n : ℕ) (G : ℕ → Option B → Type 0) (keeps : CallKeepsClosure g f) (gives : (x : ℕ) (o : Option B) (q : F) → Called g f (x, tt) o q → G x o) where
  abbrev pub Stops : Run nat_range_steps → Option B → Type 0
  Stops p r = MatchOption r (IsTrue p.whole × AllItemsGive p g f None) (λ y. (i : ℕ) × (i < p.len) × (p.len ≡ i + 1) × IsFirstToGive p g f (Some y) None i)

  first : (p : Run nat_range_steps) → ItemsCountUp p 0 n → (r : Option B) → Stops p r → MatchOption r ((k : ℕ) → k < n → G k None) (λ y. (i : ℕ) × G i (Some y) × ((k : ℕ) → k < i → G k None))
  first p up r h = go r h
    where
      at : (k : ℕ) → k < p.len → option_map (λ y. y) (p.at k) ≡ Some k
      at k l = let e : 0 + k ≡ k = omega arith in up.3 k l ∙ ap Some e

      go : (o : Option B) → Stops p o → MatchOption o ((k : ℕ) → k < n → G k None) (λ y. (i : ℕ) × G i (Some y) × ((k : ℕ) → k < i → G k None))
      go None h = λ k l. gives k None f (if_number (λ x. Called g f (x, tt) None f) (p.at k) k (at k (omega (arith, up.1 h.0))) (h.1 keeps k))
      go (Some y) h =
          let found = h.3 keeps in (
            h.0,
            gives h.0 (Some y) f (and_number (λ x. Called g f (x, tt) (Some y) f) (p.at h.0) h.0 (at h.0 h.1) found.0),
            λ k l. gives k None f (and_number (λ x. Called g f (x, tt) None f) (p.at k) k (at k (omega (arith, h.1))) (found.1 k l)),
          )

  pub first_found : (r : Option B) → SomeRun nat_range_steps (record { start = 0; end = n }) (λ p. Stops p r) → MatchOption r ((k : ℕ) → k < n → G k None) (λ y. (i : ℕ) × G i (Some y) × ((k : ℕ) → k < i → G k None))
  first_found r h = first h.0 (subst (λ (s : Range ℕ). ItemsCountUp h.0 s.start s.end) h.1 (range_runs h.0 h.0.seen)) r h.2
