-- Every search has a run: from each state there is a step or an end.
use Rattle.std.proofs.Common.{◌≡◌, ℕ, zero, suc, pred, ◌+◌, ◌-◌, ◌*◌, ◌/◌, ◌%◌, ◌<◌, ◌≤◌, ◌≢◌, ◌⊎◌, List, [], ◌∷◌, ◌++◌, length, Some, None, Option, sym, refl, ap, ◌∙◌, subst, inl, inr, ⊎_elim, le_refl, arith}
use Rattle.std.proofs.lemmas.Map.{update_apart}
use Rattle.std.proofs.lemmas.Bool.{le-ltb}
use Rattle.std.proofs.lemmas.Bool.Decides.{nat_tests}
use Rattle.std.proofs.lemmas.Option.{none-some}
use Rattle.blocks.specs.declared.bound.Bound.{Bound}
use Rattle.blocks.specs.declared.bound.Bound.TheVariants.{AtMost, AtLeast}
use Rattle.blocks.specs.Bounds.{setting, rank}
use Rattle.blocks.specs.Ranges.{Ranges, Stands, Inside, resolve}
use Rattle.blocks.specs.Status.{BoundOf, True, False, Open, Dead, Broken, Forcing, Forces, FirstOpen}
use Rattle.blocks.specs.Sheets.{Sheet, Proper}
use Rattle.blocks.specs.declared.line.Line.{Line}
use Rattle.blocks.specs.Lines.{t_line, r_line, e_line}
use Rattle.search.specs.Search.{First}
use Rattle.search.specs.Search.{Entry, decided, forced, region, IsReason, State, cold, Outcome, learnt, over, Analysis, out, pass, into, stop, turn, FreeSlot, Verdict, found, none, no_slot, blocks_of, region_of, Hit, NotDead, Conflict, Step, force, decide, learn, Ends, all_dead, run_out, full, Steps, here, on, Run}
use Rattle.blocks.proofs.Ranging.{broken_inside, covers_forces}
use Rattle.search.proofs.Sound.{Sound, Good, Came, sound_open, region_stands, stands, conflict_sound, steps_good, good_start, resolved}
use Rattle.blocks.proofs.Numbers.{Lawful, some_same}
use Rattle.search.proofs.Least.{three, cases_lt, cases_eq, Either, first_below}
use Rattle.search.proofs.Same.{bound_same}
use Rattle.search.proofs.Ends.{Lists, left, step_falls}

abbrev pub all_or_not : (P : ℕ → Type 0) → ((i : ℕ) → Either (P i)) → (n : ℕ) → ((i : ℕ) → n ≤ i → P i) → Either ((i : ℕ) → P i)
all_or_not P dec n far = ⊎_elim (λ f. inr (λ all. f.2.is (all f.0))) (λ h. inl (λ i. elim (cases_lt i n) [ inl l ↦ ⊎_elim (λ p. p) (λ q. absurd (h i l q)) (dec i) | inr l ↦ far i l ]))
    (first_below (λ i. ¬ P i) (λ i. ⊎_elim (λ p. inr (λ q. q p)) (λ q. inl q) (dec i)) n)

abbrev pub inside_or_not : (S : Sheet) → Proper S → (a b : Ranges) → Stands S.last a → Stands S.last b → Either (Inside a b)
inside_or_not S pr a b sa sb = all_or_not (λ i. (b.low i ≤ a.low i) × (a.high i ≤ b.high i)) at S.count (λ i l. let p = sa i in let q = sb i in let r = pr.beyond i l in omega arith)
  where
    at : (i : ℕ) → Either ((b.low i ≤ a.low i) × (a.high i ≤ b.high i))
    at i = elim (cases_lt (a.low i) (b.low i)) [
      | inl l ↦ inr (λ h. omega arith)
      | inr l ↦ elim (cases_lt (b.high i) (a.high i)) [ inl k ↦ inr (λ h. omega arith) | inr k ↦ inl (l, k) ]
    ]

-- the bound of a block with this place in the order
abbrev pub at_rank : (last : ℕ → ℕ) (b : Ranges) (ρ : ℕ) → ((β : Bound) × (rank β ≡ ρ) × BoundOf last b β) ⊎ ((β : Bound) → rank β ≡ ρ → ¬ BoundOf last b β)
at_rank last b ρ = elim (cases_lt (ρ % 2) 1) [
  | inl even ↦ elim (cases_lt 0 (b.low (ρ / 2))) [
    | inl l ↦ inl (AtMost (ρ / 2) (pred (b.low (ρ / 2))), omega arith, omega arith)
    | inr l ↦ inr (no_low even l)
  ]
  | inr odd ↦ elim (cases_lt (b.high (ρ / 2)) (last (ρ / 2))) [
    | inl l ↦ inl (AtLeast (ρ / 2) (suc (b.high (ρ / 2))), omega arith, (refl, l))
    | inr l ↦ inr (no_high odd l)
  ]
]
  where
    no_low : ρ % 2 < 1 → b.low (ρ / 2) ≤ 0 → (β : Bound) → rank β ≡ ρ → ¬ BoundOf last b β
    no_low ev z (AtMost s p) e h = let q : s ≡ ρ / 2 = omega arith in let y = ap b.low q in omega arith
    no_low ev z (AtLeast s p) e h = omega arith

    no_high : 1 ≤ ρ % 2 → last (ρ / 2) ≤ b.high (ρ / 2) → (β : Bound) → rank β ≡ ρ → ¬ BoundOf last b β
    no_high od z (AtMost s p) e h = omega arith
    no_high od z (AtLeast s p) e h = let q : s ≡ ρ / 2 = omega arith in let y = ap b.high q in let x = ap last q in omega arith

pub rank_below : (S : Sheet) → Proper S → (b : Ranges) → Stands S.last b → (β : Bound) → BoundOf S.last b β → rank β < 2 * S.count
rank_below S pr b st (AtMost s p) h = elim (cases_lt s S.count) [ inl l ↦ omega arith | inr l ↦ let j = st s in let e = pr.beyond s l in absurd (omega arith) ]
rank_below S pr b st (AtLeast s p) h = elim (cases_lt s S.count) [ inl l ↦ omega arith | inr l ↦ let j = st s in let e = pr.beyond s l in absurd (omega arith) ]

-- the first bound of a block with a property, or none
abbrev pub first_bound : (S : Sheet) → Proper S → (b : Ranges) → Stands S.last b → (Q : Bound → Type 0) → ((β : Bound) → Either (Q β))
    → ((β : Bound) × BoundOf S.last b β × Q β × ((γ : Bound) → BoundOf S.last b γ → Q γ → rank β ≤ rank γ)) ⊎ ((β : Bound) → BoundOf S.last b β → ¬ Q β)
first_bound S pr b st Q dec = ⊎_elim
    (λ f. let h = f.2.is in inl (
      h.0,
      h.2,
      h.3,
      λ γ k q. elim (cases_lt (rank γ) (rank h.0))
          [ inl l ↦ absurd (f.2.before (rank γ) (let e = h.1 in omega arith) (γ, refl, k, q)) | inr l ↦ l ],
    ))
    (λ n. inr (λ β k q. n (rank β) (rank_below S pr b st β k) (β, refl, k, q)))
    (first_below At at (2 * S.count))
  where
    At : ℕ → Type 0
    At ρ = (β : Bound) × (rank β ≡ ρ) × BoundOf S.last b β × Q β

    at : (ρ : ℕ) → Either (At ρ)
    at ρ = ⊎_elim
        (λ h. ⊎_elim (λ q. inl (h.0, h.1, h.2, q)) (λ n. inr (λ k. n (subst Q (bound_same S.last b k.0 h.0 k.2 h.2 (k.1 ∙ sym h.1)) k.3))) (dec h.0))
        (λ n. inr (λ k. n k.0 k.1 k.2))
        (at_rank S.last b ρ)

-- what a block is in a region
pub data Status (last : ℕ → ℕ) (g b : Ranges) : Type 0 where
  dead : Dead last g b → Status last g b
  broken : Broken last g b → Status last g b
  forcing : Forcing last g b → Status last g b
  opens : (β : Bound) → FirstOpen last g b β → ¬ Dead last g b → ¬ Forcing last g b → Status last g b

module _ (S : Sheet) (pr : Proper S) (g : Ranges) (st : Stands S.last g) where
  -- a true bound is not false: the region has a profile
  pub not_false : (β : Bound) → True g β → ¬ False g β
  not_false β t f = f g.low (λ i. let k = st i in omega arith) (t g.low (λ i. let k = st i in omega arith))

  abbrev pub true_or_not : (β : Bound) → Either (True g β)
  true_or_not β = ⊎_elim (λ t. inl t) (⊎_elim (λ f. inr (λ t. not_false β t f)) (λ o. inr o.0)) (three S.last g st β)

  abbrev pub open_or_not : (β : Bound) → Either (Open g β)
  open_or_not β = ⊎_elim (λ t. inr (λ o. o.0 t)) (⊎_elim (λ f. inr (λ o. o.1 f)) (λ o. inl o)) (three S.last g st β)

  pub dead_not_broken : (b : Ranges) → Dead S.last g b → ¬ Broken S.last g b
  dead_not_broken b d br = not_false d.0 d.2 (br d.0 d.1)

  pub dead_not_forcing : (b : Ranges) → Dead S.last g b → ¬ Forcing S.last g b
  dead_not_forcing b d f = not_false d.0 d.2 (f.1.others d.0 d.1 (λ e. f.1.open'.0 (subst (True g) e d.2)))

  abbrev pub status : (b : Ranges) → Stands S.last b → Status S.last g b
  status b sb = ⊎_elim (λ d. dead (d.0, d.1, d.2)) alive (first_bound S pr b sb (True g) true_or_not)
    where
      else : (γ : Bound) → ¬ True g γ → ¬ Open g γ → False g γ
      else γ t o = ⊎_elim (λ h. absurd (t h)) (⊎_elim (λ f. f) (λ h. absurd (o h))) (three S.last g st γ)

      other : (β : Bound) → (γ : Bound) → Either (Open g γ × (rank γ ≢ rank β))
      other β γ = ⊎_elim (λ o. ⊎_elim (λ e. inr (λ h. h.1 e)) (λ n. inl (o, n)) (cases_eq (rank γ) (rank β))) (λ n. inr (λ h. n h.0)) (open_or_not γ)

      two : (β δ : Bound) → BoundOf S.last b β → Open g β → BoundOf S.last b δ → Open g δ → rank δ ≢ rank β → ¬ Forcing S.last g b
      two β δ kβ oβ kδ oδ n f = elim (cases_eq (rank β) (rank f.0)) [
        | inl e ↦ oδ.1 (f.1.others δ kδ (λ p. n (ap rank p ∙ sym e)))
        | inr ne ↦ oβ.1 (f.1.others β kβ (λ p. ne (ap rank p)))
      ]

      alive : ((β : Bound) → BoundOf S.last b β → ¬ True g β) → Status S.last g b
      alive nt = ⊎_elim
          (λ f. ⊎_elim
          (λ d. opens f.0 (record { bound = f.1; open' = f.2; before = f.3 }) (λ h. nt h.0 h.1 h.2) (two f.0 d.0 f.1 f.2 d.1 d.2.0 d.2.1))
          (λ n. forcing (f.0, record { bound = f.1; open' = f.2; others = λ γ k ne. else γ (nt γ k) (λ o. n γ k (o, λ e. ne (bound_same S.last b γ f.0 k f.1 e))) }))
          (first_bound S pr b sb (λ γ. Open g γ × (rank γ ≢ rank f.0)) (other f.0)))
          (λ n. broken (λ β k. else β (nt β k) (n β k)))
          (first_bound S pr b sb (Open g) open_or_not)

-- the blocks of a state stand, and their numbers are small
pub record Housed (m : ℕ) (st : State) : Type 0 where
  pub inside : (j : ℕ) (b : Ranges) → st.slots j ≡ Some b → j < m

pub step_housed : (S : Sheet) (m : ℕ) {a c : State} {ls : List Line} → Step S m a ls c → Housed m a → Housed m c
step_housed S m (force f is h) w = record { inside = w.inside }
step_housed S m (decide x f is h) w = record { inside = w.inside }
step_housed S m (learn {st = a} {w = v} {j = j} c fr h) w = record {
  inside = λ i b e. elim (cases_eq i j)
      [ inl p ↦ let k = fr.inside in omega arith | inr n ↦ w.inside i b (sym (update_apart a.slots j (Some v) i n) ∙ e) ];
}

pub block_below : (S : Sheet) (m : ℕ) (st : State) → Housed m st → (k : ℕ) (b : Ranges) → blocks_of S m st k ≡ Some b → k < 100 + m
block_below S m st w k b e = elim (cases_lt k 100) [
  | inl l ↦ omega arith
  | inr l ↦ let j = w.inside (k - 100) b (rw (le-ltb k 100 l) at e) in omega arith
]

module _ (S : Sheet) (pr : Proper S) (m : ℕ) (st : State) (g : Good S st) (w : Housed m st) where
  abbrev pub at_block : (P : Ranges → Type 0) → ((b : Ranges) → Stands S.last b → Either (P b)) → (k : ℕ) → Either ((b : Ranges) × (blocks_of S m st k ≡ Some b) × P b)
  at_block P dec k = go (blocks_of S m st k) refl
    where
      go : (o : Option Ranges) → blocks_of S m st k ≡ o → Either ((b : Ranges) × (blocks_of S m st k ≡ Some b) × P b)
      go None e = inr (λ h. none-some _ (sym e ∙ h.1))
      go (Some b) e = ⊎_elim (λ p. inl (b, e, p)) (λ n. inr (λ h. n (subst P (some_same h.1 e) h.2))) (dec b (g.blocks k b e).0)

  abbrev pub first_block : (P : Ranges → Type 0) → ((b : Ranges) → Stands S.last b → Either (P b))
      → ((k : ℕ) × First (λ k. (b : Ranges) × (blocks_of S m st k ≡ Some b) × P b) k) ⊎ ((k : ℕ) → ¬ ((b : Ranges) × (blocks_of S m st k ≡ Some b) × P b))
  first_block P dec = ⊎_elim (λ f. inl (f.0, f.2)) (λ n. inr (λ k h. n k (block_below S m st w k h.0 h.1) h))
      (first_below (λ k. (b : Ranges) × (blocks_of S m st k ≡ Some b) × P b) (at_block P dec) (100 + m))

  abbrev pub hits : (b : Ranges) → Stands S.last b → Either (Broken S.last (region_of S m st) b ⊎ Forcing S.last (region_of S m st) b)
  hits b sb = go (status S pr (region_of S m st) (stands S m st g) b sb)
    where
      go : Status S.last (region_of S m st) b → Either (Broken S.last (region_of S m st) b ⊎ Forcing S.last (region_of S m st) b)
      go (dead d) = inr (⊎_elim (dead_not_broken S pr (region_of S m st) (stands S m st g) b d) (dead_not_forcing S pr (region_of S m st) (stands S m st g) b d))
      go (broken x) = inl (inl x)
      go (forcing x) = inl (inr x)
      go (opens β f nd nf) = inr (⊎_elim (λ x. f.open'.1 (x β f.bound)) nf)

  abbrev pub not_dead : (b : Ranges) → Stands S.last b → Either (¬ Dead S.last (region_of S m st) b)
  not_dead b sb = ⊎_elim (λ d. inr (λ n. n (d.0, d.1, d.2))) (λ n. inl (λ d. n d.0 d.1 d.2))
      (first_bound S pr b sb (True (region_of S m st)) (true_or_not S pr (region_of S m st) (stands S m st g)))

abbrev pub reason_or_not : (t : List Entry) (k : ℕ) → Either (IsReason t k)
reason_or_not [] k = inr (λ h. h)
reason_or_not (decided β ∷ t) k = reason_or_not t k
reason_or_not (forced β i ∷ t) k = ⊎_elim (λ e. inl (inl e)) (λ n. ⊎_elim (λ h. inl (inr h)) (λ m. inr (⊎_elim n m)) (reason_or_not t k)) (cases_eq i k)

-- a slot is free, or all are reasons
abbrev pub slot_or_full : (m next : ℕ) (t : List Entry) → ((j : ℕ) × FreeSlot m next t j) ⊎ ((j : ℕ) → j < m → IsReason t (100 + j))
slot_or_full m next t = ⊎_elim
    (λ f. let h = f.2.is in inl (h.0, record { inside = h.1; free = h.3; before = λ i l k. taken i (λ n. f.2.before (turn m next i) (let e = h.2 in omega arith) (i, l, refl, n)) }))
    (λ n. inr (λ j l. taken j (λ free. n (turn m next j) (turn_below m next j l) (j, l, refl, free))))
    (first_below At at (2 * m))
  where
    At : ℕ → Type 0
    At τ = (j : ℕ) × (j < m) × (turn m next j ≡ τ) × (¬ IsReason t (100 + j))

    taken : (j : ℕ) → ¬ (¬ IsReason t (100 + j)) → IsReason t (100 + j)
    taken j n = ⊎_elim (λ h. h) (λ h. absurd (n h)) (reason_or_not t (100 + j))

    turn_below : (m next j : ℕ) → j < m → turn m next j < 2 * m
    turn_below m next j l = grind (arith, nat_tests)

    at : (τ : ℕ) → Either (At τ)
    at τ = ⊎_elim (λ f. inl (f.0, f.1, f.2.is.0, f.2.is.1)) (λ n. inr (λ h. n h.0 h.1 (h.2, h.3)))
        (first_below (λ j. (turn m next j ≡ τ) × (¬ IsReason t (100 + j)))
        (λ j. ⊎_elim (λ e. ⊎_elim (λ r. inr (λ h. h.1 r)) (λ r. inl (e, r)) (reason_or_not t (100 + j))) (λ n. inr (λ h. n h.0)) (cases_eq (turn m next j) τ)) m)

-- an analysis comes to an end
abbrev pub analysis_exists : (S : Sheet) → Proper S → (blocks : ℕ → Option Ranges) → Lawful S blocks → (t : List Entry) (w : Ranges) → Sound S.last blocks t → Inside (region S.last t) w → Stands S.last w
    → (ls : List Line) × (o : Outcome) × Analysis S.last blocks t w ls o
analysis_exists S pr blocks law [] w snd ins st = (e_line ∷ [], over, out)
analysis_exists S pr blocks law (e ∷ t) w snd ins st = go (inside_or_not S pr (region S.last t) w (region_stands S.last blocks t (sound_open S.last blocks e t snd).1) st) (analysis_exists S pr blocks law t) e snd ins
  where
    go : Either (Inside (region S.last t) w)
        → ((v : Ranges) → Sound S.last blocks t → Inside (region S.last t) v → Stands S.last v → (ls : List Line) × (o : Outcome) × Analysis S.last blocks t v ls o)
        → (e : Entry) → Sound S.last blocks (e ∷ t) → Inside (region S.last (e ∷ t)) w → (ls : List Line) × (o : Outcome) × Analysis S.last blocks (e ∷ t) w ls o
    go (inl i) ih e snd ins = let r = ih w (sound_open S.last blocks e t snd).1 i st in (r.0, r.1, pass i r.2)
    go (inr n) ih (decided β) snd ins = ([], learnt w t, stop n)
    go (inr n) ih (forced β k) snd ins = at (blocks k) refl
      where
        at : (o : Option Ranges) → blocks k ≡ o → (ls : List Line) × (o : Outcome) × Analysis S.last blocks (forced β k ∷ t) w ls o
        at None e = absurd (none-some _ (sym e ∙ snd.2.1))
        at (Some b) e =
            let did = resolved S blocks law β k b t w e snd ins st in
            let r = ih (resolve (setting β) w b) snd.1 did.1 did.2 in
            (r_line k (setting β) ∷ r.0, r.1, into n e r.2)

-- from each state there is a step or an end
abbrev pub Next : Sheet → ℕ → State → Type 0
Next S m st = ((c : State) × (ls : List Line) × Step S m st ls c) ⊎ ((v : Verdict) × (ls : List Line) × Ends S m st ls v)

abbrev pub progress : (S : Sheet) → Proper S → (m : ℕ) (st : State) → Good S st → Housed m st → Next S m st
progress S pr m st g w = ⊎_elim hit quiet (first_block S pr m st g w (λ b. Broken S.last (region_of S m st) b ⊎ Forcing S.last (region_of S m st) b) (hits S pr m st g w))
  where
    conflict : (k : ℕ) (ls : List Line) (o : Outcome) → Conflict S m st k ls o → Came S (blocks_of S m st) o → Next S m st
    conflict k ls over c came = inr (none, t_line k ∷ ls, run_out c)
    conflict k ls (learnt v t) c came = ⊎_elim
        (λ s. slot s.0 s.1 (status S pr (region S.last t) (region_stands S.last (blocks_of S m st) t came.2) v came.0))
        (λ f. inr (no_slot, t_line k ∷ ls, full c f))
        (slot_or_full m st.next t)
      where
        does : Forces S.last (region S.last t) v came.3.0
        does = covers_forces S.last (region S.last t) (region_stands S.last (blocks_of S m st) t came.2) v came.3.0 came.3.1 came.3.2

        slot : (j : ℕ) → FreeSlot m st.next t j → Status S.last (region S.last t) v → Next S m st
        slot j fr (dead d) = absurd (dead_not_forcing S pr (region S.last t) (region_stands S.last (blocks_of S m st) t came.2) v d (came.3.0, does))
        slot j fr (broken x) = absurd (does.open'.1 (x came.3.0 does.bound))
        slot j fr (forcing x) = inl (_, _, learn c fr x.1)
        slot j fr (opens β f nd nf) = absurd (nf (came.3.0, does))

    hit : ((k : ℕ) × First (Hit S m st) k) → Next S m st
    hit f = let h = f.1.is in ⊎_elim
        (λ br.
        let law = g.blocks f.0 h.0 h.1 in
        let a = analysis_exists S pr (blocks_of S m st) g.blocks st.trail h.0 g.trail (broken_inside S.last (region_of S m st) (stands S m st g) h.0 br) law.0 in
        let c : Conflict S m st f.0 a.0 a.1 = record { first = f.1; block = h.0; there = h.1; broken = br; analysed = a.2 } in
        conflict f.0 a.0 a.1 c (conflict_sound S m st g f.0 a.0 a.1 c))
        (λ fo. inl (_, _, force f.1 h.1 fo.1))
        h.2

    opened : ((k : ℕ) → ¬ Hit S m st k) → (k : ℕ) → First (NotDead S m st) k → (b : Ranges) → blocks_of S m st k ≡ Some b → ¬ Dead S.last (region_of S m st) b → Status S.last (region_of S m st) b
        → Next S m st
    opened nh k f b e nd (dead d) = absurd (nd d)
    opened nh k f b e nd (broken x) = absurd (nh k (b, e, inl x))
    opened nh k f b e nd (forcing x) = absurd (nh k (b, e, inr x))
    opened nh k f b e nd (opens β o nd' nf) = inl (_, _, decide nh f e o)

    buried : (j : ℕ) (b : Ranges) → blocks_of S m st j ≡ Some b → ((k : ℕ) → ¬ NotDead S m st k) → Status S.last (region_of S m st) b → Dead S.last (region_of S m st) b
    buried j b e n (dead d) = d
    buried j b e n (broken x) = absurd (n j (b, e, λ d. dead_not_broken S pr (region_of S m st) (stands S m st g) b d x))
    buried j b e n (forcing x) = absurd (n j (b, e, λ d. dead_not_forcing S pr (region_of S m st) (stands S m st g) b d x))
    buried j b e n (opens β f nd nf) = absurd (n j (b, e, nd))

    quiet : ((k : ℕ) → ¬ Hit S m st k) → Next S m st
    quiet nh = ⊎_elim
        (λ f. let h = f.1.is in opened nh f.0 f.1 h.0 h.1 h.2 (status S pr (region_of S m st) (stands S m st g) h.0 (g.blocks f.0 h.0 h.1).0))
        (λ n. inr (found (region_of S m st), [], all_dead nh (λ j b e. buried j b e n (status S pr (region_of S m st) (stands S m st g) b (g.blocks j b e).0))))
        (first_block S pr m st g w (λ b. ¬ Dead S.last (region_of S m st) b) (not_dead S pr m st g w))

-- a run from each state that the search can come to
module _ (S : Sheet) (pr : Proper S) (B : List Bound) (all : Lists S B) (m : ℕ) where
  abbrev pub run_from : (n : ℕ) (st : State) (ks : List Line) → Steps S m cold ks st → Housed m st → left (length B) st < n → (ls : List Line) × (v : Verdict) × (end : State) × Run S m cold ls v end
  run_from zero st ks p w l = absurd (omega arith)
  run_from (suc n) st ks p w l = go (run_from n) (progress S pr m st (steps_good S m p (good_start S pr)) w)
    where
      go : ((a : State) (js : List Line) → Steps S m cold js a → Housed m a → left (length B) a < n → (ls : List Line) × (v : Verdict) × (end : State) × Run S m cold ls v end)
          → Next S m st → (ls : List Line) × (v : Verdict) × (end : State) × Run S m cold ls v end
      go ih (inl x) = ih x.0 (ks ++ x.1) (on p x.2) (step_housed S m x.2 w) (let k = step_falls S pr B all m (length B) (le_refl (length B)) p x.2 in omega arith)
      go ih (inr x) = (ks ++ x.1, x.0, st, record { before = ks; after = x.1; steps = p; ends = x.2; lines = refl })

  -- every sheet has a run
  abbrev pub run_exists : (ls : List Line) × (v : Verdict) × (end : State) × Run S m cold ls v end
  run_exists = run_from (suc (left (length B) cold)) cold [] here (record { inside = λ j b e. absurd (none-some _ e) }) (omega arith)
