-- The trail of the program, entry by entry.
use Rattle.std.proofs.Common.{◌≡◌, ℕ, zero, suc, ◌<◌, ◌≤◌, ◌⊎◌, List, ◌∷◌, ◌++◌, length, get_or, take, drop, Some, None, sym, refl, ap, ◌∙◌, subst, inl, inr, ⊎_elim, arith}
use Rattle.std.proofs.lemmas.Bool.{cases_eq}
use Rattle.std.proofs.lemmas.List.{get_or-take, get_or_append_left, length-take-le, take-append-drop}
use Rattle.blocks.specs.declared.bound.Bound.{Bound}
use Rattle.blocks.specs.Ranges.{end}
use Rattle.search.specs.declared.trail.TrailEntry.{TrailEntry}
use Rattle.search.specs.Search.{Entry, bound_of, region, IsReason}
use Rattle.search.specs.Trails.{Reason, reasoned, entry_of, no_entry, trail_below, KeepsEnds}

pub reasoned_bound : (β : Bound) (r : Reason) → bound_of (reasoned β r) ≡ β
reasoned_bound β None = refl
reasoned_bound β (Some k) = refl

-- reasons
reason_first : (β : Bound) (r : Reason) (t : List Entry) (k : ℕ) → r ≡ Some k → IsReason (reasoned β r ∷ t) k
reason_first β None t k e = let z : ◌≡◌ {A = ℕ} 0 1 = cc in absurd (omega arith)
reason_first β (Some j) t k e = let q : j ≡ k = cc in inl q

reason_rest : (β : Bound) (r : Reason) (t : List Entry) (k : ℕ) → IsReason t k → IsReason (reasoned β r ∷ t) k
reason_rest β None t k h = h
reason_rest β (Some j) t k h = inr h

reason_cases : (β : Bound) (r : Reason) (t : List Entry) (k : ℕ) → IsReason (reasoned β r ∷ t) k → (r ≡ Some k) ⊎ IsReason t k
reason_cases β None t k h = inr h
reason_cases β (Some j) t k (inl e) = inl (ap Some e)
reason_cases β (Some j) t k (inr h) = inr h

module _ (xs : List TrailEntry) (k : ℕ) where
  pub reason_later : (n m : ℕ) → n ≤ m → IsReason (trail_below xs n) k → IsReason (trail_below xs m) k
  reason_later n zero l h = let e : n ≡ 0 = omega arith in subst (λ (i : ℕ). IsReason (trail_below xs i) k) e h
  reason_later n (suc m) l h = elim (cases_eq n (suc m)) [
    | inl e ↦ subst (λ (i : ℕ). IsReason (trail_below xs i) k) e h
    | inr ne ↦ reason_rest (get_or xs m no_entry).bound (get_or xs m no_entry).reason (trail_below xs m) k (reason_later n m (omega arith) h)
  ]

  pub reason_at : (n m : ℕ) → n < m → (get_or xs n no_entry).reason ≡ Some k → IsReason (trail_below xs m) k
  reason_at n m l e = reason_later (suc n) m l (reason_first (get_or xs n no_entry).bound (get_or xs n no_entry).reason (trail_below xs n) k e)

  -- the block is no entry's reason where it is that of none of the first n
  pub no_reason : (n : ℕ) → ((i : ℕ) → i < n → (get_or xs i no_entry).reason ≡ Some k → ⊥) → IsReason (trail_below xs n) k → ⊥
  no_reason zero h r = r
  no_reason (suc n) h r = ⊎_elim (h n (omega arith)) (no_reason n (λ i l. h i (omega arith))) (reason_cases (get_or xs n no_entry).bound (get_or xs n no_entry).reason (trail_below xs n) k r)

-- the first entries of a longer list, and of its front
pub below_front : (xs ys : List TrailEntry) (n : ℕ) → n ≤ length xs → trail_below (xs ++ ys) n ≡ trail_below xs n
below_front xs ys zero l = refl
below_front xs ys (suc n) l =
    let a = get_or_append_left xs ys no_entry n l in
    let b = below_front xs ys n (omega arith) in
    λ i. entry_of (a i) ∷ b i

pub below_take : (xs : List TrailEntry) (n k : ℕ) → k ≤ n → n ≤ length xs → trail_below (take n xs) k ≡ trail_below xs k
below_take xs n k m l =
    sym (below_front (take n xs) (drop n xs) k (omega (arith, length-take-le n xs l))) ∙ ap (λ (ys : List TrailEntry). trail_below ys k) (take-append-drop n xs)

-- they keep the ends that they narrowed
pub keeps_take : (last : ℕ → ℕ) (xs : List TrailEntry) (n : ℕ) → n ≤ length xs → KeepsEnds last xs → KeepsEnds last (take n xs)
keeps_take last xs n l ends k m =
    let h : k < n = omega (arith, length-take-le n xs l) in
    let a = get_or-take n xs k no_entry h in
    let b = below_take xs n k (omega arith) l in
    ap (λ (e : TrailEntry). e.end) a ∙ ends k (omega arith) ∙ sym (λ i. end (a i).bound (region last (b i)))

pub length_below : (xs : List TrailEntry) (n : ℕ) → length (trail_below xs n) ≡ n
length_below xs zero = refl
length_below xs (suc n) = ap suc (length_below xs n)
