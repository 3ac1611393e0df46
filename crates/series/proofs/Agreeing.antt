-- A judge takes the lines of each step of a search, and those of an end in "none".
use Rattle.std.proofs.Common.{◌≡◌, ℕ, ◌<◌, ◌≤◌, List, ◌∷◌, Some, None, Option, sym, refl, subst, inl, inr, arith}
use Rattle.std.proofs.lemmas.Bool.{cases_lt}
use Rattle.std.proofs.lemmas.Option.{none-some}
use Rattle.blocks.specs.declared.bound.Bound.{Bound}
use Rattle.blocks.specs.declared.bound.Bound.TheVariants.{AtMost, AtLeast}
use Rattle.blocks.specs.declared.line.Line.{Line}
use Rattle.blocks.specs.Lines.{t_line}
use Rattle.blocks.specs.Bounds.{setting}
use Rattle.blocks.specs.Ranges.{Ranges, Stands, Inside}
use Rattle.blocks.specs.Sheets.{Sheet, Proper, block_at}
use Rattle.blocks.proofs.Numbers.{Lawful}
use Rattle.blocks.proofs.Ranging.{OpenAt, broken_inside}
use Rattle.checker.specs.Courts.{Phase, idle, working, ended}
use Rattle.search.specs.Search.{Entry, region, State, cold, Outcome, learnt, over, Analysis, out, pass, into, stop, Verdict, none, blocks_of, region_of, Conflict, Step, force, decide, learn, Ends, all_dead, run_out, full, Steps, here, on, Run}
use Rattle.search.proofs.Sound.{Sound, Good, sound_open, region_stands, resolved, stands, steps_good, good_start}
use Rattle.search.proofs.Total.{Housed, step_housed, block_below}
use Rattle.series.proofs.Taking.{Brings, brings_none, brings_on, Sits, t_taken, r_taken, k_taken, e_taken}

-- an open bound is one of a declared setting
declared : (S : Sheet) → Proper S → (g : Ranges) (β : Bound) → Stands S.last g → OpenAt g β → setting β < S.count
declared S pr g (AtMost s p) st o = elim (cases_lt s S.count) [ inl l ↦ l | inr l ↦ absurd (omega (arith, st s, pr.beyond s l)) ]
declared S pr g (AtLeast s p) st o = elim (cases_lt s S.count) [ inl l ↦ l | inr l ↦ absurd (omega (arith, st s, pr.beyond s l)) ]

-- the phase of a judge after an analysis
abbrev phase_after : Outcome → Phase
phase_after (learnt w t) = working w
phase_after over = ended

-- the lines of an analysis, where the blocks' numbers are small
module _ (S : Sheet) (pr : Proper S) (n : ℕ) (f : ℕ → Option Ranges) (law : Lawful S (block_at S.rules f))
    (small : (k : ℕ) (b : Ranges) → block_at S.rules f k ≡ Some b → k < 4196) where
  abbrev blocks : ℕ → Option Ranges
  blocks = block_at S.rules f

  analysis_taken : {t : List Entry} {w : Ranges} {ls : List Line} {o : Outcome} → Analysis S.last blocks t w ls o
      → Sound S.last blocks t → Inside (region S.last t) w → Stands S.last w
      → Brings (Sits S n f (working w)) ls (Sits S n f (phase_after o))
  analysis_taken (out {w = w}) snd ins st = e_taken S pr n f w st ins
  analysis_taken (pass {e = e} {t = t} ok a) snd ins st = analysis_taken a (sound_open S.last blocks e t snd).1 ok st
  analysis_taken (into {β = β} {k = k} {b = b} {t = t} {w = w} need is a) snd ins st =
      let did = resolved S blocks law β k b t w is snd ins st in
      let low = declared S pr (region S.last t) β (region_stands S.last blocks t snd.1) snd.0 in
      brings_on (r_taken S pr n f w k (setting β) b (small k b is) low is st (law k b is).0 did.0) (analysis_taken a snd.1 did.1 did.2)
  analysis_taken (stop need) snd ins st = brings_none

-- The search has m slots, at most 4,096, and the judge as many or more.
module _ (S : Sheet) (pr : Proper S) (m n : ℕ) (few : m ≤ 4096) (room : m ≤ n) where
  conflict_taken : (st : State) → Good S st → Housed m st → {k : ℕ} {ls : List Line} {o : Outcome} → Conflict S m st k ls o
      → Brings (Sits S n st.slots idle) (t_line k ∷ ls) (Sits S n st.slots (phase_after o))
  conflict_taken st g h {k} c = brings_on (t_taken S pr n st.slots k c.block (small k c.block c.there) c.there)
      (analysis_taken S pr n st.slots g.blocks small c.analysed g.trail
      (broken_inside S.last (region_of S m st) (stands S m st g) c.block c.broken) (g.blocks k c.block c.there).0)
    where
      small : (k : ℕ) (b : Ranges) → blocks_of S m st k ≡ Some b → k < 4196
      small k b e = omega (arith, block_below S m st h k b e)

  step_taken : {a b : State} {ls : List Line} → Step S m a ls b → Good S a → Housed m a → Brings (Sits S n a.slots idle) ls (Sits S n b.slots idle)
  step_taken (force f is h) g w = brings_none
  step_taken (decide x f is h) g w = brings_none
  step_taken (learn {st = a} {w = v} {j = j} c fr h) g w = brings_on (conflict_taken a g w c) (k_taken S pr n a.slots v j (omega (arith, fr.inside)) (omega (arith, fr.inside)))

  steps_housed : {b : State} {ls : List Line} → Steps S m cold ls b → Housed m b
  steps_housed here = record { inside = λ j b e. absurd (none-some _ e) }
  steps_housed (on p q) = step_housed S m q (steps_housed p)

  steps_taken : {b : State} {ls : List Line} → Steps S m cold ls b → Brings (Sits S n (λ _. None) idle) ls (Sits S n b.slots idle)
  steps_taken here = brings_none
  steps_taken (on p q) = brings_on (steps_taken p) (step_taken q (steps_good S m p (good_start S pr)) (steps_housed p))

  end_taken : {st : State} {ls : List Line} {v : Verdict} → Ends S m st ls v → Good S st → Housed m st → v ≡ none → Brings (Sits S n st.slots idle) ls (Sits S n st.slots ended)
  end_taken (all_dead h d) g w e = let z : ◌≡◌ {A = ℕ} 0 1 = cc in absurd (omega arith)
  end_taken (run_out {st = st} c) g w e = conflict_taken st g w c
  end_taken (full c x) g w e = let z : ◌≡◌ {A = ℕ} 0 1 = cc in absurd (omega arith)

  pub run_taken : (ls : List Line) (end : State) → Run S m cold ls none end → Brings (Sits S n (λ _. None) idle) ls (Sits S n end.slots ended)
  run_taken ls end r = subst (λ ks. Brings (Sits S n (λ _. None) idle) ks (Sits S n end.slots ended)) (sym r.lines)
      (brings_on (steps_taken r.steps) (end_taken r.ends (steps_good S m r.steps (good_start S pr)) (steps_housed r.steps) refl))
