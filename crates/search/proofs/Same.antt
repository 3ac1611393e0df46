-- A search has one run.
use Rattle.std.proofs.Common.{◌≡◌, ℕ, suc, ◌+◌, ◌<◌, eqb, List, [], ◌∷◌, ◌++◌, Some, Option, sym, refl, ap, ◌∙◌, subst, ap₂, subst₂, inl, inr, append_assoc, append-nil, arith}
use Rattle.std.specs.Map.{update}
use Rattle.std.proofs.lemmas.Bool.{cases_eq, cases_order}
use Rattle.std.proofs.lemmas.Bool.Decides.{nat_tests}
use Rattle.blocks.specs.declared.bound.Bound.{Bound}
use Rattle.blocks.specs.declared.bound.Bound.TheVariants.{AtMost, AtLeast}
use Rattle.blocks.specs.Bounds.{setting, rank}
use Rattle.blocks.specs.Ranges.{Ranges, resolve}
use Rattle.blocks.specs.Status.{BoundOf, Broken, Forces, FirstOpen}
use Rattle.blocks.specs.Sheets.{Sheet}
use Rattle.blocks.specs.declared.line.Line.{Line}
use Rattle.blocks.specs.Lines.{t_line, r_line, k_line}
use Rattle.search.specs.Search.{First}
use Rattle.search.specs.Search.{Entry, decided, forced, region, IsReason, State, Outcome, learnt, over, Analysis, out, pass, into, stop, FreeSlot, turn, Verdict, blocks_of, region_of, Hit, NotDead, Conflict, Step, force, decide, learn, Ends, all_dead, run_out, full, Steps, here, on, Run}
use Rattle.blocks.proofs.Numbers.{some_same}

pub first_same : (P : ℕ → Type 0) (j k : ℕ) → First P j → First P k → j ≡ k
first_same P j k a b = elim (cases_order j k)
    [ inl e ↦ e | inr c ↦ elim c [ inl l ↦ absurd (b.before j l a.is) | inr l ↦ absurd (a.before k l b.is) ] ]

pub bound_same : (last : ℕ → ℕ) (b : Ranges) (β γ : Bound) → BoundOf last b β → BoundOf last b γ → rank β ≡ rank γ → β ≡ γ
bound_same last b (AtMost s p) (AtMost t q) h k e = let z : s ≡ t = omega arith in ap₂ AtMost z (let y = ap b.low z in omega arith)
bound_same last b (AtMost s p) (AtLeast t q) h k e = absurd (omega arith)
bound_same last b (AtLeast s p) (AtMost t q) h k e = absurd (omega arith)
bound_same last b (AtLeast s p) (AtLeast t q) h k e = let z : s ≡ t = omega arith in ap₂ AtLeast z (let y = ap b.high z in omega arith)

pub forces_same : (last : ℕ → ℕ) (g b : Ranges) (β γ : Bound) → Forces last g b β → Forces last g b γ → β ≡ γ
forces_same last g b β γ f h = elim (cases_eq (rank β) (rank γ)) [
  | inl e ↦ bound_same last b β γ f.bound h.bound e
  | inr n ↦ absurd (h.open'.1 (f.others γ h.bound (λ e. n (ap rank (sym e)))))
]

pub first_open_same : (last : ℕ → ℕ) (g b : Ranges) (β γ : Bound) → FirstOpen last g b β → FirstOpen last g b γ → β ≡ γ
first_open_same last g b β γ f h = bound_same last b β γ f.bound h.bound
    (let j = f.before γ h.bound h.open' in let k = h.before β f.bound f.open' in omega arith)

pub not_both : (last : ℕ → ℕ) (g b : Ranges) (β : Bound) → Broken last g b → Forces last g b β → ⊥
not_both last g b β br f = f.open'.1 (br β f.bound)

pub analysis_same : (last : ℕ → ℕ) (blocks : ℕ → Option Ranges) {t : List Entry} {w : Ranges} {ls ks : List Line} {o p : Outcome}
    → Analysis last blocks t w ls o → Analysis last blocks t w ks p → (ls ≡ ks) × (o ≡ p)
analysis_same last blocks out out = (refl, refl)
analysis_same last blocks (pass i a) (pass j b) = analysis_same last blocks a b
analysis_same last blocks (pass i a) (into n e b) = absurd (n i)
analysis_same last blocks (pass i a) (stop n) = absurd (n i)
analysis_same last blocks (into n e b) (pass i a) = absurd (n i)
analysis_same last blocks (into {β = β} {k = k} {t = t} {w = w} n e a) (into {ls = ks} {o = p} m f b) =
    let r = analysis_same last blocks a (subst (λ c. Analysis last blocks t (resolve (setting β) w c) ks p) (some_same f e) b) in (ap (λ l. r_line k (setting β) ∷ l) r.0, r.1)
analysis_same last blocks (stop n) (pass i a) = absurd (n i)
analysis_same last blocks (stop n) (stop m) = (refl, refl)

turn_same : (m next i j : ℕ) → i < m → j < m → turn m next i ≡ turn m next j → i ≡ j
turn_same m next i j p q e = grind (arith, nat_tests)

pub slot_same : (m next : ℕ) (t : List Entry) (i j : ℕ) → FreeSlot m next t i → FreeSlot m next t j → i ≡ j
slot_same m next t i j a b = elim (cases_order (turn m next i) (turn m next j))
    [ inl e ↦ turn_same m next i j a.inside b.inside e | inr c ↦ elim c [ inl l ↦ absurd (a.free (b.before i a.inside l)) | inr l ↦ absurd (b.free (a.before j b.inside l)) ] ]

pub over_learnt : {w : Ranges} {t : List Entry} → over ≡ learnt w t → ⊥
over_learnt e = let z : ◌≡◌ {A = ℕ} 0 1 = cc in omega arith

pub learnt_same : {w v : Ranges} {t u : List Entry} → learnt w t ≡ learnt v u → t ≡ u
learnt_same e = cc

module _ (S : Sheet) (m : ℕ) where
  pub conflict_same : {st : State} {k j : ℕ} {ls ks : List Line} {o p : Outcome} → Conflict S m st k ls o → Conflict S m st j ks p → (k ≡ j) × (ls ≡ ks) × (o ≡ p)
  conflict_same {st} {k} {j} {ls} {ks} {o} {p} c d = (e, r.0, r.1)
    where
      e : k ≡ j
      e = first_same (Hit S m st) k j c.first d.first

      b : c.block ≡ d.block
      b = some_same c.there (ap (blocks_of S m st) e ∙ d.there)

      r : (ls ≡ ks) × (o ≡ p)
      r = analysis_same S.last (blocks_of S m st) c.analysed (subst (λ w. Analysis S.last (blocks_of S m st) st.trail w ks p) (sym b) d.analysed)

  -- a conflict is no forcing
  pub conflict_forces : {st : State} {k j : ℕ} {ls : List Line} {o : Outcome} {b : Ranges} {β : Bound}
      → Conflict S m st k ls o → First (Hit S m st) j → blocks_of S m st j ≡ Some b → Forces S.last (region_of S m st) b β → ⊥
  conflict_forces {st} {k} {j} {b = b} {β = β} c f is h =
      not_both S.last (region_of S m st) b β (subst (Broken S.last (region_of S m st)) (some_same (ap (blocks_of S m st) (first_same (Hit S m st) j k f c.first) ∙ c.there) is) c.broken) h

  pub step_same : {a b c : State} {ls ks : List Line} → Step S m a ls b → Step S m a ks c → (ls ≡ ks) × (b ≡ c)
  step_same (force {st = a} {k = k} {b = b} {β = β} f is h) (force {k = k'} {b = b'} {β = β'} f' is' h') =
      let e = first_same (Hit S m a) k k' f f' in
      let eb = some_same (ap (blocks_of S m a) e ∙ is') is in
      let eβ = forces_same S.last (region_of S m a) b β β' h (subst (λ x. Forces S.last (region_of S m a) x β') eb h') in
      (refl, ap₂ (λ x y. record { trail = forced x y ∷ a.trail; slots = a.slots; next = a.next }) eβ e)
  step_same (force {k = k} f is h) (decide n f' is' h') = absurd (n k f.is)
  step_same (force f is h) (learn c fr h') = absurd (conflict_forces c f is h)
  step_same (decide n f is h) (force {k = k} f' is' h') = absurd (n k f'.is)
  step_same (decide {st = a} {k = k} {b = b} {β = β} n f is h) (decide {k = k'} {β = β'} n' f' is' h') =
      let e = first_same (NotDead S m a) k k' f f' in
      let eb = some_same (ap (blocks_of S m a) e ∙ is') is in
      let eβ = first_open_same S.last (region_of S m a) b β β' h (subst (λ x. FirstOpen S.last (region_of S m a) x β') eb h') in
      (refl, ap (λ x. record { trail = decided x ∷ a.trail; slots = a.slots; next = a.next }) eβ)
  step_same (decide n f is h) (learn {k = k} c fr h') = absurd (n k c.first.is)
  step_same (learn c fr h) (force f is h') = absurd (conflict_forces c f is h')
  step_same (learn {k = k} c fr h) (decide n f is h') = absurd (n k c.first.is)
  step_same (learn {st = a} {k = k} {ls = ls} {w = w} {t = t} {j = d} {β = β} c fr h) (learn {k = k'} {ls = ls'} {w = w'} {t = t'} {j = d'} {β = β'} c' fr' h') =
      let r = conflict_same c c' in
      let eo = r.2 in
      let ew : w ≡ w' = cc in
      let et : t ≡ t' = cc in
      let ed = slot_same m a.next t d d' fr (subst (λ x. FreeSlot m a.next x d') (sym et) fr') in
      let eβ = forces_same S.last (region S.last t) w β β' h (subst₂ (λ x y. Forces S.last (region S.last x) y β') (sym et) (sym ew) h') in (
        (λ i. t_line (r.0 i) ∷ (r.1 i ++ k_line (100 + ed i) ∷ [])),
        λ i. record { trail = forced (eβ i) (100 + ed i) ∷ et i; slots = update eqb a.slots (ed i) (Some (ew i)); next = suc (ed i) },
      )

  pub ends_same : {a : State} {ls ks : List Line} {v u : Verdict} → Ends S m a ls v → Ends S m a ks u → (ls ≡ ks) × (v ≡ u)
  ends_same (all_dead n d) (all_dead n' d') = (refl, refl)
  ends_same (all_dead n d) (run_out {k = k} c) = absurd (n k c.first.is)
  ends_same (all_dead n d) (full {k = k} c f) = absurd (n k c.first.is)
  ends_same (run_out {k = k} c) (all_dead n d) = absurd (n k c.first.is)
  ends_same (run_out c) (run_out c') = let r = conflict_same c c' in (ap₂ (λ k l. t_line k ∷ l) r.0 r.1, refl)
  ends_same (run_out c) (full c' f) = absurd (over_learnt (conflict_same c c').2)
  ends_same (full {k = k} c f) (all_dead n d) = absurd (n k c.first.is)
  ends_same (full c f) (run_out c') = absurd (over_learnt (conflict_same c' c).2)
  ends_same (full c f) (full c' f') = let r = conflict_same c c' in (ap₂ (λ k l. t_line k ∷ l) r.0 r.1, refl)

  pub step_or_end : {a b : State} {ls ks : List Line} {v : Verdict} → Step S m a ls b → Ends S m a ks v → ⊥
  step_or_end (force {k = k} f is h) (all_dead n d) = n k f.is
  step_or_end (force f is h) (run_out c) = conflict_forces c f is h
  step_or_end (force f is h) (full c g) = conflict_forces c f is h
  step_or_end (decide {k = k} n f is h) (all_dead n' d) = f.is.2 (d k f.is.0 f.is.1)
  step_or_end (decide n f is h) (run_out {k = k} c) = n k c.first.is
  step_or_end (decide n f is h) (full {k = k} c g) = n k c.first.is
  step_or_end (learn {k = k} c fr h) (all_dead n d) = n k c.first.is
  step_or_end (learn c fr h) (run_out c') = over_learnt (conflict_same c' c).2
  step_or_end (learn {j = j} c fr h) (full c' g) = fr.free (subst (λ x. IsReason x (100 + j)) (sym (learnt_same (conflict_same c c').2)) (g j fr.inside))

  -- the steps from the first on
  pub data Ahead : State → List Line → State → Type 0 where
    stay : {a : State} → Ahead a [] a
    then : {a b c : State} {ks ls : List Line} → Step S m a ks b → Ahead b ls c → Ahead a (ks ++ ls) c

  pub ahead_more : {a b c : State} {ks ls : List Line} → Ahead a ks b → Step S m b ls c → Ahead a (ks ++ ls) c
  ahead_more {a = a} {c = c} {ls = ls} stay p = subst (λ l. Ahead a l c) (append-nil ls) (then p stay)
  ahead_more {c = c} {ls = ls} (then {a = a} {ks = ks} {ls = js} p q) r = subst (λ l. Ahead a l c) (sym (append_assoc ks js ls)) (then p (ahead_more q r))

  pub ahead : {a b : State} {ls : List Line} → Steps S m a ls b → Ahead a ls b
  ahead here = stay
  ahead (on p q) = ahead_more (ahead p) q

  pub ahead_same : {a b c : State} {ls ks js is : List Line} {v u : Verdict} → Ahead a ls b → Ends S m b ks v → Ahead a js c → Ends S m c is u → (ls ++ ks ≡ js ++ is) × (v ≡ u) × (b ≡ c)
  ahead_same stay e stay f = let r = ends_same e f in (r.0, r.1, refl)
  ahead_same stay e (then p q) f = absurd (step_or_end p e)
  ahead_same (then p q) e stay f = absurd (step_or_end p f)
  ahead_same {c = c} {ks = ks} {is = is} (then {ks = k₁} {ls = l₁} p q) e (then {ks = k₂} {ls = l₂} p' q') f =
      let r = step_same p p' in
      let s = ahead_same q e (subst (λ x. Ahead x l₂ c) (sym r.1) q') f in
      (append_assoc k₁ l₁ ks ∙ ap₂ (λ x y. x ++ y) r.0 s.0 ∙ sym (append_assoc k₂ l₂ is), s.1, s.2)

  -- one list of lines, one verdict, one end
  pub run_same : {from a b : State} {ls ks : List Line} {v u : Verdict} → Run S m from ls v a → Run S m from ks u b → (ls ≡ ks) × (v ≡ u) × (a ≡ b)
  run_same r q = let s = ahead_same (ahead r.steps) r.ends (ahead q.steps) q.ends in (r.lines ∙ s.0 ∙ sym q.lines, s.1, s.2)
