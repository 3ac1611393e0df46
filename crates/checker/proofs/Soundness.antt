-- What a judge holds is broken by some rule throughout, whatever lines it was sent.
use Rattle.std.proofs.Common.{◌≡◌, ℕ, zero, suc, ◌+◌, ◌-◌, ◌≤◌, min, Bool, true, false, cond, ltb, ◌⊎◌, List, [], ◌∷◌, set, replicate, is_ok, Some, None, Ok, Err, Option, Result, sym, refl, ap, ◌∙◌, subst, inl, inr, ⊎_elim, arith}
use Rattle.std.specs.List.{slice_get}
use Rattle.std.proofs.lemmas.Bool.{false≢true}
use Rattle.std.proofs.lemmas.Option.{none-some, same_Some}
use Rattle.scales.specs.declared.refusal.Refusal.{Refusal}
use Rattle.scales.specs.Checks.{Passes, Outcome}
use Rattle.blocks.specs.declared.line.Line.{Line}
use Rattle.blocks.specs.declared.line.Line.TheVariants.{Take, Resolve, Keep, End}
use Rattle.blocks.specs.Bounds.{Profile}
use Rattle.blocks.specs.Ranges.{Ranges, Stands, everything, In, Inside, resolve, Resolvable}
use Rattle.blocks.specs.Sheets.{Sheet, Proper, Breaks, block_at}
use Rattle.blocks.specs.Sinks.{Step, taken, refused, result_of, next_of, state_after}
use Rattle.blocks.specs.Slots.{joined}
use Rattle.blocks.specs.Views.{Real}
use Rattle.blocks.proofs.Ranging.{resolve_in, resolve_stands}
use Rattle.checker.specs.Table.{allows}
use Rattle.checker.specs.declared.table.Letter.TheVariants.{E}
use Rattle.checker.specs.Courts.{Phase, idle, working, ended, Court, opened, block_in, stage, finding_checks}
use Rattle.checker.specs.Hearing.{line_checks, onward, Leads, Takes}
use Rattle.checker.specs.Steps.{step}
use Rattle.checker.specs.Findings.{Impossible, after, one_if_taken, lines_taken, JudgesRightly, FoundRightly}
use Rattle.checker.proofs.Asking.{same_work}
use Rattle.checker.proofs.Stepping.{RealCourt, step_lawful, just_takes}

-- a block that exists, and whose profiles all break a rule
pub record Sound (S : Sheet) (b : Ranges) : Type 0 where
  pub stands : Stands S.last b
  pub breaks : (x : Profile) → In b x → Breaks S x

-- what holds of the rules and of what the slots hold holds of each block
each_block : (P : Ranges → Type 0) (rules : List Ranges) (slots : ℕ → Option Ranges)
    → ((i : ℕ) (b : Ranges) → slice_get rules i ≡ Some b → P b) → ((j : ℕ) (b : Ranges) → slots j ≡ Some b → P b) → (k : ℕ) (b : Ranges) → block_at rules slots k ≡ Some b → P b
each_block P rules slots r s k b = go (ltb k 100)
  where
    go : (t : Bool) → cond t (slice_get rules k) (slots (k - 100)) ≡ Some b → P b
    go true e = r k b e
    go false e = s (k - 100) b e

pub record Fair (c : Court) : Type 0 where
  pub rules : (i : ℕ) (b : Ranges) → slice_get c.sheet.rules i ≡ Some b → Sound c.sheet b
  pub slots : (j : ℕ) (b : Ranges) → joined (slice_get c.slots j) ≡ Some b → Sound c.sheet b
  pub work : (w : Ranges) → c.phase ≡ working w → Sound c.sheet w
  pub end : c.phase ≡ ended → Impossible c.sheet

fair_block : (c : Court) → Fair c → (k : ℕ) (b : Ranges) → block_in c k ≡ Some b → Sound c.sheet b
fair_block c fair = each_block (Sound c.sheet) c.sheet.rules (λ j. joined (slice_get c.slots j)) fair.rules fair.slots

-- over a proper sheet a fair state is real
fair_real : (c : Court) → Proper c.sheet → Fair c → RealCourt c
fair_real c proper fair = record {
  beyond = beyond;
  blocks = λ k b e. real b (fair_block c fair k b e);
  work = λ w e. real w (fair.work w e);
}
  where
    beyond : (i : ℕ) → 12 ≤ i → c.sheet.last i ≡ 0
    beyond i h = proper.beyond i (omega (arith, proper.twelve))

    real : (b : Ranges) → Sound c.sheet b → Real b
    real b s = record { ordered = λ i. (s.stands i).0; twelve = λ i h. omega (arith, (s.stands i).1, beyond i h) }

-- only a working judge hears an end
ends_working : (p : Phase) → allows (stage p) E ≡ true → (w : Ranges) × (p ≡ working w)
ends_working idle e = absurd (false≢true e)
ends_working (working w) e = (w, refl)
ends_working ended e = absurd (false≢true e)

-- what a slot holds after one was written
slot_set : (ss : List (Option Ranges)) (j i : ℕ) (w b : Ranges) → joined (slice_get (set ss j (Some w)) i) ≡ Some b → (w ≡ b) ⊎ (joined (slice_get ss i) ≡ Some b)
slot_set [] j i w b e = inr e
slot_set (s ∷ ss) zero zero w b e = inl (same_Some _ _ e)
slot_set (s ∷ ss) zero (suc i) w b e = inr e
slot_set (s ∷ ss) (suc j) zero w b e = inr e
slot_set (s ∷ ss) (suc j) (suc i) w b e = slot_set ss j i w b e

module _ (c : Court) (fair : Fair c) where
  fair_working : (w : Ranges) → Sound c.sheet w → Fair (onward c (working w) c.slots)
  fair_working w s = record {
    rules = fair.rules;
    slots = fair.slots;
    work = λ v e. subst (Sound c.sheet) (same_work e) s;
    end = λ e. absurd (cc);
  }

  fair_kept : (w : Ranges) (j : ℕ) → Sound c.sheet w → Fair (onward c idle (set c.slots j (Some w)))
  fair_kept w j s = record {
    rules = fair.rules;
    slots = λ i b e. ⊎_elim (λ q. subst (Sound c.sheet) q s) (fair.slots i b) (slot_set c.slots j i w b e);
    work = λ v e. absurd (cc);
    end = λ e. absurd (cc);
  }

  fair_ended : (w : Ranges) → Sound c.sheet w → Inside (everything c.sheet.last) w → Fair (onward c ended c.slots)
  fair_ended w s all = record {
    rules = fair.rules;
    slots = fair.slots;
    work = λ v e. absurd (cc);
    end = λ e x h. s.breaks x (λ i. let p = h i in let q = all i in omega arith);
  }

  sound_resolved : (s : ℕ) (w b : Ranges) → Sound c.sheet w → Sound c.sheet b → Resolvable s w b → Sound c.sheet (resolve s w b)
  sound_resolved s w b p q ok = record {
    stands = resolve_stands c.sheet.last s w b p.stands q.stands ok;
    breaks = λ x h. ⊎_elim (p.breaks x) (q.breaks x) (resolve_in s w b ok x h);
  }

  -- a line that is taken leaves it fair
  fair_onward : (l : Line) (d : Court) → Passes (line_checks c l) → Leads c l d → Fair d
  fair_onward (Take k) d p (b, e, is) = subst Fair (sym is) (fair_working b (fair_block c fair k.number b e))
  fair_onward (Resolve k s) d p (w, b, h, e, is) =
      subst Fair (sym is) (fair_working (resolve s.number w b) (sound_resolved s.number w b (fair.work w h) (fair_block c fair k.number b e) (p.1.1.1.0 w b h e)))
  fair_onward (Keep k) d p (w, j, h, e, is) = subst Fair (sym is) (fair_kept w j (fair.work w h))
  fair_onward End d p is = let h = ends_working c.phase p.0 in subst Fair (sym is) (fair_ended h.0 (fair.work h.0 h.1) (p.1.1.1.1.0 h.0 h.1))

-- one line on the sheet is the same
same_sheet : (c : Court) (l : Line) (d : Court) → Leads c l d → d.sheet ≡ c.sheet
same_sheet c (Take k) d (b, e, is) = ap (λ (x : Court). x.sheet) is
same_sheet c (Resolve k s) d (w, b, h, e, is) = ap (λ (x : Court). x.sheet) is
same_sheet c (Keep k) d (w, j, h, e, is) = ap (λ (x : Court). x.sheet) is
same_sheet c End d is = ap (λ (x : Court). x.sheet) is

next_line : (c : Court) (l : Line) (d : Court) → Leads c l d → d.line ≡ min (suc c.line) 99999
next_line c (Take k) d (b, e, is) = ap (λ (x : Court). x.line) is
next_line c (Resolve k s) d (w, b, h, e, is) = ap (λ (x : Court). x.line) is
next_line c (Keep k) d (w, j, h, e, is) = ap (λ (x : Court). x.line) is
next_line c End d is = ap (λ (x : Court). x.line) is

-- a judge on its way: over the proper sheet S, fair, with so many lines taken
pub record Going (S : Sheet) (n : ℕ) (c : Court) : Type 0 where
  pub sheet : c.sheet ≡ S
  pub fair : Fair c
  pub line : c.line ≡ min (suc n) 99999

module _ (S : Sheet) (proper : Proper S) where
  going_real : {n : ℕ} (c : Court) → Going S n c → RealCourt c
  going_real c g = fair_real c (subst Proper (sym g.sheet) proper) g.fair

  going_on : (n : ℕ) (c : Court) (l : Line) (s : Step Court) → Takes c l (result_of s) (next_of c s) → Going S n c → Going S (one_if_taken s + n) (next_of c s)
  going_on n c l (taken d) t g = record {
    sheet = same_sheet c l d t.1 ∙ g.sheet;
    fair = fair_onward c g.fair l d t.0 t.1;
    line = next_line c l d t.1 ∙ omega (arith, g.line);
  }
  going_on n c l (refused e) t g = record { sheet = g.sheet; fair = g.fair; line = g.line ∙ omega arith }

  going_far : (ls : List Line) (n : ℕ) (c : Court) → Going S n c → Going S (lines_taken c ls + n) (state_after step c ls)
  going_far [] n c g = record { sheet = g.sheet; fair = g.fair; line = g.line ∙ omega arith }
  going_far (l ∷ ls) n c g =
      let s = step c l in
      let h = going_far ls (one_if_taken s + n) (next_of c s) (going_on n c l s (step_lawful c (going_real c g) l) g) in
      record { sheet = h.sheet; fair = h.fair; line = h.line ∙ omega arith }

  -- nothing is held at first
  none_held : (m j : ℕ) (b : Ranges) → joined (slice_get (replicate m None) j) ≡ Some b → ⊥
  none_held zero j b e = none-some b e
  none_held (suc m) zero b e = none-some b e
  none_held (suc m) (suc j) b e = none_held m j b e

  opened_going : (m : ℕ) → Going S 0 (opened S m)
  opened_going m = record {
    sheet = refl;
    fair = record {
      rules = λ i b e. record { stands = proper.stand i b e; breaks = λ x h. (i, b, e, h) };
      slots = λ j b e. absurd (none_held m j b e);
      work = λ w e. absurd (cc);
      end = λ e. absurd (cc);
    };
    line = refl;
  }

  pub judges_rightly : (m : ℕ) (ls : List Line) → JudgesRightly S m ls
  judges_rightly m ls =
      let g = going_far ls 0 (opened S m) (opened_going m) in
      let c = after S m ls in
      record {
        numbered = g.line ∙ omega arith;
        lawful = λ l. just_takes c l (result_of (step c l)) (next_of c (step c l)) (step_lawful c (going_real c g) l);
        never_wrong = λ e. subst Impossible g.sheet (g.fair.end e);
      }

-- who accepts has ended
pub accepts_ended : (p : Phase) (n : ℕ) (r : Result (Unit {0}) Refusal) → Outcome (finding_checks p n) (λ _. Unit {0}) r → is_ok r ≡ true → p ≡ ended
accepts_ended p n (Ok u) o e = o.0.0
accepts_ended p n (Err f) o e = absurd (false≢true e)

pub found_rightly : (c : Court) (r : Result (Unit {0}) Refusal) → Outcome (finding_checks c.phase c.line) (λ _. Unit {0}) r → FoundRightly c r
found_rightly c r o S m ls proper is e = (judges_rightly S proper m ls).never_wrong (ap (λ (d : Court). d.phase) (sym is) ∙ accepts_ended c.phase c.line r o e)
