-- What holds after every step of a search, and what its end then says.
use Rattle.std.proofs.Common.{◌≡◌, ℕ, eqb, List, [], ◌∷◌, length, Some, Option, refl, ◌∙◌, subst, inl, inr, ⊎_elim, arith}
use Rattle.std.specs.Map.{update}
use Rattle.std.specs.List.{slice_get}
use Rattle.std.proofs.lemmas.Option.{slice_get_past}
use Rattle.std.proofs.lemmas.Bool.{cases_lt, lt-ltb}
use Rattle.blocks.specs.declared.bound.Bound.{Bound}
use Rattle.blocks.specs.Bounds.{Profile, setting}
use Rattle.blocks.specs.Ranges.{Ranges, Stands, everything, In, Inside, narrow, resolve, Resolvable}
use Rattle.blocks.specs.Sheets.{Sheet, block_at, Proper, Breaks}
use Rattle.blocks.specs.declared.line.Line.{Line}
use Rattle.search.specs.Search.{Entry, decided, forced, bound_of, region, IsReason, State, cold, Outcome, learnt, over, Analysis, out, pass, into, stop, Verdict, found, none, blocks_of, region_of, Conflict, Step, force, decide, learn, Ends, all_dead, run_out, full, Steps, here, on, Run}
use Rattle.blocks.proofs.Numbers.{put_here, put_apart, some_same, put_all, Implied, Lawful, lawful_start}
use Rattle.blocks.proofs.Ranging.{OpenAt, Covers, resolve_in, resolve_stands, open_at, broken_inside, dead_apart, forces_covers, narrow_stands, undo_forced, undo_decided}

-- each entry's bound was open, and its reason covers what it cut off
abbrev pub Sound : (ℕ → ℕ) → (ℕ → Option Ranges) → List Entry → Type 0
Sound last blocks [] = Unit {0}
Sound last blocks (decided β ∷ t) = OpenAt (region last t) β × Sound last blocks t
Sound last blocks (forced β k ∷ t) = OpenAt (region last t) β × Sound last blocks t × ((b : Ranges) × (blocks k ≡ Some b) × Covers (region last t) b β)

pub sound_open : (last : ℕ → ℕ) (blocks : ℕ → Option Ranges) (e : Entry) (t : List Entry) → Sound last blocks (e ∷ t) → OpenAt (region last t) (bound_of e) × Sound last blocks t
sound_open last blocks (decided β) t h = h
sound_open last blocks (forced β k) t h = (h.0, h.1)

pub region_stands : (last : ℕ → ℕ) (blocks : ℕ → Option Ranges) (t : List Entry) → Sound last blocks t → Stands last (region last t)
region_stands last blocks [] h = λ i. omega arith
region_stands last blocks (e ∷ t) h = let k = sound_open last blocks e t h in narrow_stands last (region last t) (bound_of e) (region_stands last blocks t k.1) k.0

-- a block that is no reason may change
pub sound_kept : (last : ℕ → ℕ) (f g : ℕ → Option Ranges) (t : List Entry) → ((k : ℕ) → IsReason t k → g k ≡ f k) → Sound last f t → Sound last g t
sound_kept last f g [] same h = tt
sound_kept last f g (decided β ∷ t) same h = (h.0, sound_kept last f g t same h.1)
sound_kept last f g (forced β k ∷ t) same h = (h.0, sound_kept last f g t (λ i r. same i (inr r)) h.1, (h.2.0, same k (inl refl) ∙ h.2.1, h.2.2))

-- what a conflict comes to
abbrev pub Came : Sheet → (ℕ → Option Ranges) → Outcome → Type 0
Came S blocks (learnt w t) = Stands S.last w × Implied S w × Sound S.last blocks t × ((γ : Bound) × OpenAt (region S.last t) γ × Covers (region S.last t) w γ)
Came S blocks over = Implied S (everything S.last)

module _ (S : Sheet) (blocks : ℕ → Option Ranges) (law : Lawful S blocks) where
  -- a needed entry with a reason: resolving is allowed, and the region before the entry is inside what it gives
  pub resolved : (β : Bound) (k : ℕ) (b : Ranges) (t : List Entry) (w : Ranges) → blocks k ≡ Some b → Sound S.last blocks (forced β k ∷ t)
      → Inside (narrow β (region S.last t)) w → Stands S.last w
      → Resolvable (setting β) w b × Inside (region S.last t) (resolve (setting β) w b) × Stands S.last (resolve (setting β) w b)
  resolved β k b t w is snd ins st = (did.0, did.1, resolve_stands S.last (setting β) w b st (law k b is).0 did.0)
    where
      did : Resolvable (setting β) w b × Inside (region S.last t) (resolve (setting β) w b)
      did = undo_forced S.last (region S.last t) w (region_stands S.last blocks t snd.1) b β snd.0
          (subst (λ c. Covers (region S.last t) c β) (some_same snd.2.1 is) snd.2.2) ins

  pub analysis_sound : {t : List Entry} {w : Ranges} {ls : List Line} {o : Outcome} → Analysis S.last blocks t w ls o
      → Sound S.last blocks t → Inside (region S.last t) w → Stands S.last w → Implied S w → Came S blocks o
  analysis_sound out snd ins st imp = λ x h. imp x (λ i. let j = h i in let k = ins i in let l = st i in omega arith)
  analysis_sound (pass {e = e} {t = t} ok a) snd ins st imp = analysis_sound a (sound_open S.last blocks e t snd).1 ok st imp
  analysis_sound (into {β = β} {k = k} {b = b} {t = t} {w = w} need is a) snd ins st imp =
      let did = resolved β k b t w is snd ins st in
      analysis_sound a snd.1 did.1 did.2 (λ x h. ⊎_elim (imp x) ((law k b is).1 x) (resolve_in (setting β) w b did.0 x h))
  analysis_sound (stop {β = β} {t = t} {w = w} need) snd ins st imp =
      (st, imp, snd.1, undo_decided S.last (region S.last t) w (region_stands S.last blocks t snd.1) β snd.0 ins need)

pub found_same : {a b : Ranges} → found a ≡ found b → a ≡ b
found_same e = cc

-- what holds after every step
pub record Good (S : Sheet) (st : State) : Type 0 where
  pub trail : Sound S.last (block_at S.rules st.slots) st.trail
  pub blocks : Lawful S (block_at S.rules st.slots)

pub rule_block : (S : Sheet) → Proper S → (slots : ℕ → Option Ranges) (i : ℕ) (b : Ranges) → slice_get S.rules i ≡ Some b → block_at S.rules slots i ≡ Some b
rule_block S pr slots i b e = elim (cases_lt i (length S.rules)) [
  | inl l ↦ rw (lt-ltb i 100 (let k = pr.few in omega arith)) e
  | inr l ↦ let n = slice_get_past S.rules i l in let z : ◌≡◌ {A = ℕ} 0 1 = cc in absurd (omega arith)
]

pub good_start : (S : Sheet) → Proper S → Good S cold
good_start S pr = record { trail = tt; blocks = lawful_start S pr }

module _ (S : Sheet) (m : ℕ) (st : State) (g : Good S st) where
  pub stands : Stands S.last (region_of S m st)
  stands = region_stands S.last (blocks_of S m st) st.trail g.trail

  pub conflict_sound : (k : ℕ) (ls : List Line) (o : Outcome) → Conflict S m st k ls o → Came S (blocks_of S m st) o
  conflict_sound k ls o c = analysis_sound S (blocks_of S m st) g.blocks c.analysed g.trail
      (broken_inside S.last (region_of S m st) stands c.block c.broken) (g.blocks k c.block c.there).0 (g.blocks k c.block c.there).1

pub step_good : (S : Sheet) (m : ℕ) {a c : State} {ls : List Line} → Step S m a ls c → Good S a → Good S c
step_good S m (force {st = a} {k = k} {b = b} {β = β} fst is f) g =
    let c = forces_covers S.last (region_of S m a) (stands S m a g) b β f in
    record { trail = (c.0, g.trail, (b, is, c.1)); blocks = g.blocks }
step_good S m (decide {st = a} {k = k} {b = b} {β = β} no_hit fst is f) g =
    record { trail = ((open_at S.last (region_of S m a) (stands S m a g) β).0 f.open', g.trail); blocks = g.blocks }
step_good S m (learn {st = a} {k = k} {ls = ls} {w = w} {t = t} {j = j} {β = β} con fr f) g = record {
  trail = (
    cov.0,
    sound_kept S.last (blocks_of S m a) after t (λ i r. put_apart S.rules a.slots j (Some w) i (λ e. fr.free (subst (IsReason t) e r))) came.2,
    (w, put_here S.rules a.slots j (Some w), cov.1),
  );
  blocks = put_all (λ b. Stands S.last b × Implied S b) S.rules a.slots j w g.blocks (came.0, came.1);
}
  where
    after : ℕ → Option Ranges
    after = block_at S.rules (update eqb a.slots j (Some w))

    came : Came S (blocks_of S m a) (learnt w t)
    came = conflict_sound S m a g k ls (learnt w t) con

    cov : OpenAt (region S.last t) β × Covers (region S.last t) w β
    cov = forces_covers S.last (region S.last t) (region_stands S.last (blocks_of S m a) t came.2) w β f

pub steps_good : (S : Sheet) (m : ℕ) {a c : State} {ls : List Line} → Steps S m a ls c → Good S a → Good S c
steps_good S m here g = g
steps_good S m (on p q) g = step_good S m q (steps_good S m p g)

-- a run that ends in none: every profile breaks a rule
pub run_none : (S : Sheet) (m : ℕ) → Proper S → (ls : List Line) (end : State) → Run S m cold ls none end → (x : Profile) → In (everything S.last) x → Breaks S x
run_none S m pr ls end r = go r.ends (steps_good S m r.steps (good_start S pr)) refl
  where
    go : {st : State} {ks : List Line} {v : Verdict} → Ends S m st ks v → Good S st → v ≡ none → Implied S (everything S.last)
    go (all_dead h d) g e = let z : ◌≡◌ {A = ℕ} 0 1 = cc in absurd (omega arith)
    go (run_out {st = st} {k = k} {ls = ks} c) g e = conflict_sound S m st g k ks over c
    go (full c n) g e = let z : ◌≡◌ {A = ℕ} 0 1 = cc in absurd (omega arith)

-- a run that ends in found: the region is a block, and no profile in it breaks a rule
pub run_found : (S : Sheet) (m : ℕ) → Proper S → (ls : List Line) (b : Ranges) (end : State) → Run S m cold ls (found b) end → Stands S.last b × ((x : Profile) → In b x → ¬ Breaks S x)
run_found S m pr ls b end r = go r.ends (steps_good S m r.steps (good_start S pr)) refl
  where
    go : {st : State} {ks : List Line} {v : Verdict} → Ends S m st ks v → Good S st → v ≡ found b → Stands S.last b × ((x : Profile) → In b x → ¬ Breaks S x)
    go (all_dead {st = st} h d) g e = subst (λ c. Stands S.last c × ((x : Profile) → In c x → ¬ Breaks S x)) (found_same e)
        (stands S m st g, λ x inn bad. dead_apart S.last (region_of S m st) (stands S m st g) bad.1 (d bad.0 bad.1 (rule_block S pr st.slots bad.0 bad.1 bad.2)) x inn bad.3)
    go (run_out c) g e = let z : ◌≡◌ {A = ℕ} 0 1 = cc in absurd (omega arith)
    go (full c n) g e = let z : ◌≡◌ {A = ℕ} 0 1 = cc in absurd (omega arith)
