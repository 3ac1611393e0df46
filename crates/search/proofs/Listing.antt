-- The bounds of all rules in one list: at most 192.
use Rattle.std.proofs.Common.{◌≡◌, ℕ, zero, suc, ◌+◌, ◌-◌, ◌*◌, ◌<◌, ◌≤◌, cond, ltb, ◌⊎◌, List, [], ◌∷◌, ◌++◌, length, Some, sym, refl, ap, subst, inl, inr, arith, length-append}
use Rattle.std.specs.List.{slice_get}
use Rattle.std.proofs.lemmas.Bool.{cases_eq, cases_lt, lt-ltb, le-ltb}
use Rattle.std.proofs.lemmas.Option.{none-some}
use Rattle.blocks.specs.declared.bound.Bound.{Bound}
use Rattle.blocks.specs.declared.bound.Bound.TheVariants.{AtMost, AtLeast}
use Rattle.blocks.specs.declared.line.Line.{Line}
use Rattle.blocks.specs.Bounds.{setting}
use Rattle.blocks.specs.Counts.{bounds_at, bounds_below}
use Rattle.blocks.specs.Ranges.{Ranges}
use Rattle.blocks.specs.Sheets.{Sheet, Proper}
use Rattle.blocks.specs.Status.{BoundOf}
use Rattle.blocks.proofs.Numbers.{some_same}
use Rattle.search.specs.Search.{State, cold, Verdict, no_slot, Step, Steps, Run}
use Rattle.search.specs.Laws.{Mem}
use Rattle.search.proofs.Ends.{Lists, left, trail_short, step_falls, never_full}
use Rattle.search.proofs.Total.{rank_below, run_exists}

module _ {A : Type 0} (x : A) where
  mem_left : (xs ys : List A) → Mem x xs → Mem x (xs ++ ys)
  mem_left [] ys m = absurd m
  mem_left (y ∷ xs) ys (inl e) = inl e
  mem_left (y ∷ xs) ys (inr m) = inr (mem_left xs ys m)

  mem_right : (xs ys : List A) → Mem x ys → Mem x (xs ++ ys)
  mem_right [] ys m = m
  mem_right (y ∷ xs) ys m = inr (mem_right xs ys m)

-- a bound of a block is listed at its setting
at_setting : (last : ℕ → ℕ) (b : Ranges) (β : Bound) → BoundOf last b β → Mem β (bounds_at last b (setting β))
at_setting last b (AtMost s p) e = rw (lt-ltb 0 (b.low s) (omega arith)) (inl (ap (AtMost s) (omega arith)))
at_setting last b (AtLeast s p) e = rw (lt-ltb (b.high s) (last s) e.1)
    (mem_right (AtLeast s p) (cond (ltb 0 (b.low s)) (AtMost s (b.low s - 1) ∷ []) []) (AtLeast s (b.high s + 1) ∷ []) (inl (ap (AtLeast s) (omega arith))))

below : (last : ℕ → ℕ) (b : Ranges) (β : Bound) (n : ℕ) → setting β < n → BoundOf last b β → Mem β (bounds_below last b n)
below last b β zero l k = absurd (omega arith)
below last b β (suc n) l k = elim (cases_eq (setting β) n) [
  | inl e ↦ mem_right β (bounds_below last b n) (bounds_at last b n) (subst (λ (i : ℕ). Mem β (bounds_at last b i)) e (at_setting last b β k))
  | inr ne ↦ mem_left β (bounds_below last b n) (bounds_at last b n) (below last b β n (omega arith) k)
]

-- those of all rules, in order
abbrev pub bounds_of_all : (ℕ → ℕ) → List Ranges → List Bound
bounds_of_all last [] = []
bounds_of_all last (b ∷ bs) = bounds_below last b 12 ++ bounds_of_all last bs

each : (last : ℕ → ℕ) (bs : List Ranges) (i : ℕ) (b : Ranges) → slice_get bs i ≡ Some b → (β : Bound) → Mem β (bounds_below last b 12) → Mem β (bounds_of_all last bs)
each last [] i b e β m = absurd (none-some _ e)
each last (a ∷ bs) zero b e β m = mem_left β (bounds_below last a 12) (bounds_of_all last bs) (subst (λ (x : Ranges). Mem β (bounds_below last x 12)) (some_same e refl) m)
each last (a ∷ bs) (suc i) b e β m = mem_right β (bounds_below last a 12) (bounds_of_all last bs) (each last bs i b e β m)

-- and a bound in the list is a rule's
split : {A : Type 0} (x : A) (xs ys : List A) → Mem x (xs ++ ys) → Mem x xs ⊎ Mem x ys
split x [] ys m = inr m
split x (y ∷ xs) ys (inl e) = inl (inl e)
split x (y ∷ xs) ys (inr m) = elim (split x xs ys m) [ inl k ↦ inl (inr k) | inr k ↦ inr k ]

module _ (last : ℕ → ℕ) (b : Ranges) (β : Bound) where
  low_back : (i : ℕ) → Mem β (cond (ltb 0 (b.low i)) (AtMost i (b.low i - 1) ∷ []) []) → BoundOf last b β
  low_back i m = elim (cases_lt 0 (b.low i)) [
    | inl l ↦ elim (rw (lt-ltb 0 (b.low i) l) at m) [ inl e ↦ let k : b.low i ≡ suc (b.low i - 1) = omega arith in subst (BoundOf last b) (sym e) k | inr n ↦ absurd n ]
    | inr l ↦ absurd (rw (le-ltb 0 (b.low i) l) at m)
  ]

  high_back : (i : ℕ) → Mem β (cond (ltb (b.high i) (last i)) (AtLeast i (b.high i + 1) ∷ []) []) → BoundOf last b β
  high_back i m = elim (cases_lt (b.high i) (last i)) [
    | inl l ↦ elim (rw (lt-ltb (b.high i) (last i) l) at m) [ inl e ↦ let k : b.high i + 1 ≡ suc (b.high i) = omega arith in subst (BoundOf last b) (sym e) (k, l) | inr n ↦ absurd n ]
    | inr l ↦ absurd (rw (le-ltb (b.high i) (last i) l) at m)
  ]

  below_back : (n : ℕ) → Mem β (bounds_below last b n) → BoundOf last b β
  below_back zero m = absurd m
  below_back (suc n) m = elim (split β (bounds_below last b n) (bounds_at last b n) m) [
    | inl k ↦ below_back n k
    | inr k ↦ elim (split β (cond (ltb 0 (b.low n)) (AtMost n (b.low n - 1) ∷ []) []) (cond (ltb (b.high n) (last n)) (AtLeast n (b.high n + 1) ∷ []) []) k) [ inl h ↦ low_back n h | inr h ↦ high_back n h ]
  ]

pub rule_of : (last : ℕ → ℕ) (bs : List Ranges) (β : Bound) → Mem β (bounds_of_all last bs) → (i : ℕ) × (b : Ranges) × (slice_get bs i ≡ Some b) × BoundOf last b β
rule_of last [] β m = absurd m
rule_of last (b ∷ bs) β m = elim (split β (bounds_below last b 12) (bounds_of_all last bs) m) [
  | inl k ↦ (0, b, refl, below_back last b β 12 k)
  | inr k ↦ let r = rule_of last bs β k in (suc r.0, r.1, r.2, r.3)
]

few : (last : ℕ → ℕ) (bs : List Ranges) → ((i : ℕ) (b : Ranges) → slice_get bs i ≡ Some b → length (bounds_below last b 12) ≤ 4) → length (bounds_of_all last bs) ≤ 4 * length bs
few last [] four = omega arith
few last (b ∷ bs) four = omega (arith, length-append (bounds_below last b 12) (bounds_of_all last bs), four 0 b refl, few last bs (λ i. four (suc i)))

module _ (S : Sheet) (pr : Proper S) where
  abbrev all : List Bound
  all = bounds_of_all S.last S.rules

  setting_below : (i : ℕ) (b : Ranges) → slice_get S.rules i ≡ Some b → (β : Bound) → BoundOf S.last b β → setting β < 12
  setting_below i b e (AtMost s p) k = let r = rank_below S pr b (pr.stand i b e) (AtMost s p) k in let t = pr.twelve in omega arith
  setting_below i b e (AtLeast s p) k = let r = rank_below S pr b (pr.stand i b e) (AtLeast s p) k in let t = pr.twelve in omega arith

  pub listed : Lists S all
  listed i b e β k = each S.last S.rules i b e β (below S.last b β 12 (setting_below i b e β k) k)

  pub at_most_192 : length all ≤ 192
  at_most_192 = omega (arith, few S.last S.rules pr.four, pr.few)

  -- so the trail has at most 192 entries,
  pub trail_192 : (m : ℕ) {st : State} {ls : List Line} → Steps S m cold ls st → length st.trail ≤ 192
  trail_192 m p = omega (arith, trail_short S pr all listed m p, at_most_192)

  -- every step leaves less to do,
  pub falls_192 : (m : ℕ) {a b : State} {ls ks : List Line} → Steps S m cold ls a → Step S m a ks b → left 192 b < left 192 a
  falls_192 m = step_falls S pr all listed m 192 at_most_192

  -- 193 slots always have a free one,
  pub free_193 : (m : ℕ) → 193 ≤ m → (ls : List Line) (end : State) → Run S m cold ls no_slot end → ⊥
  free_193 m l = never_full S pr all listed m (omega (arith, at_most_192))

  -- and every search comes to an end
  abbrev pub always_ends : (m : ℕ) → (ls : List Line) × (v : Verdict) × (end : State) × Run S m cold ls v end
  always_ends m = run_exists S pr all listed m
