-- The laws of the search, from the theory of its steps.
use Rattle.std.proofs.Common.{◌≡◌, ℕ, ◌≤◌, ◌⊎◌, List, [], ◌∷◌, map, sym, refl, ◌∙◌, subst, ap₂, inl, inr, arith}
use Rattle.std.proofs.lemmas.Bool.{cases_lt}
use Rattle.blocks.specs.declared.bound.Bound.{Bound}
use Rattle.blocks.specs.declared.bound.Bound.TheVariants.{AtMost, AtLeast}
use Rattle.blocks.specs.declared.line.Line.{Line}
use Rattle.blocks.specs.Ranges.{Ranges, narrow}
use Rattle.blocks.specs.Sheets.{Sheet, Proper}
use Rattle.blocks.proofs.Ranging.{narrow_low, narrow_high}
use Rattle.search.specs.Search.{Entry, bound_of, region, State, cold, Verdict, found, none, no_slot, blocks_of, Ends, all_dead, run_out, full, Run}
use Rattle.blocks.specs.Meeting.{Impossible}
use Rattle.search.specs.Laws.{Mem, OfARule, OneRun, AlwaysASlot, VerdictIsRight, TrailOfTheRules, FoundEnds}
use Rattle.search.proofs.Sound.{found_same, run_none, run_found, steps_good, good_start}
use Rattle.search.proofs.Same.{run_same}
use Rattle.search.proofs.Ends.{trail_distinct, within_mem, drawn}
use Rattle.search.proofs.Listing.{bounds_of_all, listed, rule_of, free_193, always_ends}

-- each end of a region is the first one, or that of a bound on the trail
module _ (last : ℕ → ℕ) (i : ℕ) where
  low_one : (g : Ranges) (β : Bound) (βs : List Bound) → (g.low i ≡ 0) ⊎ Mem (AtLeast i (g.low i)) βs → ((narrow β g).low i ≡ 0) ⊎ Mem (AtLeast i ((narrow β g).low i)) (β ∷ βs)
  low_one g (AtMost s p) βs h = elim h [ inl e ↦ inl e | inr k ↦ inr (inr k) ]
  low_one g (AtLeast s p) βs h = elim (narrow_low g s p i) [
    | inl w ↦ elim (cases_lt (g.low i) p) [
      | inl l ↦ inr (inl (ap₂ AtLeast w.0 (let e = w.1 in omega arith)))
      | inr l ↦ kept (let e = w.1 in omega arith)
    ]
    | inr w ↦ kept w.1
  ]
    where
      kept : (narrow (AtLeast s p) g).low i ≡ g.low i → ((narrow (AtLeast s p) g).low i ≡ 0) ⊎ Mem (AtLeast i ((narrow (AtLeast s p) g).low i)) (AtLeast s p ∷ βs)
      kept e = elim h [ inl z ↦ inl (e ∙ z) | inr k ↦ inr (inr (subst (λ (x : ℕ). Mem (AtLeast i x) βs) (sym e) k)) ]

  high_one : (g : Ranges) (β : Bound) (βs : List Bound) → (g.high i ≡ last i) ⊎ Mem (AtMost i (g.high i)) βs → ((narrow β g).high i ≡ last i) ⊎ Mem (AtMost i ((narrow β g).high i)) (β ∷ βs)
  high_one g (AtLeast s p) βs h = elim h [ inl e ↦ inl e | inr k ↦ inr (inr k) ]
  high_one g (AtMost s p) βs h = elim (narrow_high g s p i) [
    | inl w ↦ elim (cases_lt p (g.high i)) [
      | inl l ↦ inr (inl (ap₂ AtMost w.0 (let e = w.1 in omega arith)))
      | inr l ↦ kept (let e = w.1 in omega arith)
    ]
    | inr w ↦ kept w.1
  ]
    where
      kept : (narrow (AtMost s p) g).high i ≡ g.high i → ((narrow (AtMost s p) g).high i ≡ last i) ⊎ Mem (AtMost i ((narrow (AtMost s p) g).high i)) (AtMost s p ∷ βs)
      kept e = elim h [ inl z ↦ inl (e ∙ z) | inr k ↦ inr (inr (subst (λ (x : ℕ). Mem (AtMost i x) βs) (sym e) k)) ]

  low_end : (t : List Entry) → ((region last t).low i ≡ 0) ⊎ Mem (AtLeast i ((region last t).low i)) (map bound_of t)
  low_end [] = inl refl
  low_end (e ∷ t) = low_one (region last t) (bound_of e) (map bound_of t) (low_end t)

  high_end : (t : List Entry) → ((region last t).high i ≡ last i) ⊎ Mem (AtMost i ((region last t).high i)) (map bound_of t)
  high_end [] = inl refl
  high_end (e ∷ t) = high_one (region last t) (bound_of e) (map bound_of t) (high_end t)

module _ (S : Sheet) (pr : Proper S) (m : ℕ) where
  pub one_run : OneRun S m
  one_run = record { exists = always_ends S pr m; only = λ ls ks v u a b r q. run_same S m r q }

  pub always_a_slot : AlwaysASlot S m
  always_a_slot = free_193 S pr m

  pub verdict_is_right : VerdictIsRight S m
  verdict_is_right = record {
    none_rightly = run_none S m pr;
    found_rightly = run_found S m pr;
    none_exactly = λ room ls v end r. (λ e. run_none S m pr ls end (subst (λ (x : Verdict). Run S m cold ls x end) e r), λ all. exactly room ls end v r all);
  }
    where
      exactly : 193 ≤ m → (ls : List Line) (end : State) (v : Verdict) → Run S m cold ls v end → Impossible S → v ≡ none
      exactly room ls end none r all = refl
      exactly room ls end no_slot r all = absurd (free_193 S pr m room ls end r)
      exactly room ls end (found b) r all =
          let f = run_found S m pr ls b end r in
          absurd (f.1 b.low (λ i. let k = f.0 i in (omega arith, omega arith)) (all b.low (λ i. let k = f.0 i in (omega arith, omega arith))))

  pub trail_of_the_rules : TrailOfTheRules S m
  trail_of_the_rules ls st p = (
    trail_distinct S.last (blocks_of S m st) st.trail (steps_good S m p (good_start S pr)).trail,
    λ β k. rule_of S.last S.rules β (within_mem (bounds_of_all S.last S.rules) st.trail (drawn S pr (bounds_of_all S.last S.rules) (listed S pr) m p).trail β k),
  )

  pub found_ends : FoundEnds S m
  found_ends ls b end r i = subst EndsAt (sym (is r.ends refl)) (
    elim (low_end S.last i end.trail) [ inl e ↦ inl e | inr k ↦ inr (ruled (AtLeast i ((region S.last end.trail).low i)) k) ],
    elim (high_end S.last i end.trail) [ inl e ↦ inl e | inr k ↦ inr (ruled (AtMost i ((region S.last end.trail).high i)) k) ],
  )
    where
      EndsAt : Ranges → Type 0
      EndsAt g = ((g.low i ≡ 0) ⊎ OfARule S (AtLeast i (g.low i))) × ((g.high i ≡ S.last i) ⊎ OfARule S (AtMost i (g.high i)))

      ruled : (β : Bound) → Mem β (map bound_of end.trail) → OfARule S β
      ruled β k = (trail_of_the_rules r.before end r.steps).1 β k

      is : {st : State} {ks : List Line} {v : Verdict} → Ends S m st ks v → v ≡ found b → b ≡ region S.last st.trail
      is (all_dead h d) e = sym (found_same e)
      is (run_out c) e = let z : ◌≡◌ {A = ℕ} 0 1 = cc in absurd (omega arith)
      is (full c f) e = let z : ◌≡◌ {A = ℕ} 0 1 = cc in absurd (omega arith)
