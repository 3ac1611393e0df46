-- Each line's outcome is the one of its checks and its effect, and no other.
use Rattle.std.proofs.Common.{◌≡◌, ℕ, ◌+◌, ◌-◌, ◌≤◌, Bool, true, false, ◌&&◌, ltb, leb, length, set, Some, None, Ok, Err, IsErrAnd, Decides, MatchResult, Option, Result, sym, refl, ap, ◌∙◌, subst, inl, inr, arith}
use Rattle.std.proofs.lemmas.Bool.{both_ways, leb-true, le-leb}
use Rattle.std.proofs.lemmas.Bool.Decides.{Decides-and, Decides-ltb, not_from_Decides}
use Rattle.std.proofs.lemmas.Option.{none-some, same_Some}
use Rattle.scales.specs.declared.refusal.Refusal.{Refusal}
use Rattle.scales.specs.declared.refusal.Stop.{Stop}
use Rattle.scales.specs.declared.refusal.Stop.TheVariants.{NotAllowed, UnknownBlock, Undeclared, NotResolvable, NotEverything}
use Rattle.scales.specs.Stops.{number, line_place}
use Rattle.scales.specs.Checks.{Refuses}
use Rattle.scales.proofs.Checking.{not_both, one_refusal}
use Rattle.blocks.specs.declared.line.Line.{Line}
use Rattle.blocks.specs.declared.line.Line.TheVariants.{Take, Resolve, Keep, End}
use Rattle.blocks.specs.Lines.{BlockNumber, SettingNumber}
use Rattle.blocks.specs.Ranges.{Ranges, everything, Inside, resolve, Resolvable}
use Rattle.blocks.specs.Sinks.{Step, taken, refused, result_of, next_of}
use Rattle.blocks.specs.Views.{Real}
use Rattle.checker.specs.Table.{allows, letter_of}
use Rattle.checker.specs.Courts.{Phase, idle, working, ended, Court, block_in, stage}
use Rattle.checker.specs.Hearing.{Allowed, Known, Joins, line_checks, onward, Leads, Hears, Takes, JustTakes}
use Rattle.checker.specs.Steps.{resolvable, whole, where_true, where_known, step_in, step}
use Rattle.checker.proofs.Asking.{same_work}
use Rattle.checker.proofs.Deciding.{resolvable_decides, whole_decides}

-- a state whose blocks are real, as those of every judge are
pub record RealCourt (c : Court) : Type 0 where
  pub beyond : (i : ℕ) → 12 ≤ i → c.sheet.last i ≡ 0
  pub blocks : (k : ℕ) (b : Ranges) → block_in c k ≡ Some b → Real b
  pub work : (w : Ranges) → c.phase ≡ working w → Real w

module _ (c : Court) where
  -- the outcome of a step
  abbrev pub Lawful : Line → Step Court → Type 0
  Lawful l s = Takes c l (result_of s) (next_of c s)

  refuse : (l : Line) (s : Stop) → Refuses (line_checks c l) (line_place s c.line) → Lawful l (refused (number s))
  refuse l s r = (line_place s c.line, refl, (r, refl))

  may : (p : Phase) (l : Line) {t : Bool} → c.phase ≡ p → allows (stage p) (letter_of l) ≡ t → allows (stage c.phase) (letter_of l) ≡ t
  may p l is e = ap (λ (q : Phase). allows (stage q) (letter_of l)) is ∙ e

  not_allowed : (p : Phase) (l : Line) → c.phase ≡ p → allows (stage p) (letter_of l) ≡ false → Lawful l (refused (number NotAllowed))
  not_allowed p l is e = refuse l NotAllowed (inl (both_ways _ (may p l is e), refl))

  law_t : (k : BlockNumber) → c.phase ≡ idle → (o : Option Ranges) → block_in c k.number ≡ o → Lawful (Take k) (where_known o (λ b. taken (onward c (working b) c.slots)))
  law_t k is None e = refuse (Take k) UnknownBlock (inr (may idle (Take k) is refl, inl ((λ h. none-some h.0 (sym e ∙ h.1)), refl)))
  law_t k is (Some b) e = ((may idle (Take k) is refl, ((b, e), (tt, (tt, (tt, tt))))), (b, e, refl))

  module _ (real : RealCourt c) where
    law_r : (k : BlockNumber) (s : SettingNumber) (w b : Ranges) → c.phase ≡ working w → block_in c k.number ≡ Some b → (t u : Bool) → ltb s.number c.sheet.count ≡ t → resolvable s.number w b ≡ u
        → Lawful (Resolve k s) (where_true t Undeclared (where_true u NotResolvable (taken (onward c (working (resolve s.number w b)) c.slots))))
    law_r k s w b is e t u et eu = go t u et eu
      where
        allowed : Allowed c (Resolve k s)
        allowed = may (working w) (Resolve k s) is refl

        decides : Decides (resolvable s.number w b) (Resolvable s.number w b)
        decides = resolvable_decides s.number w b (real.work w is) (real.blocks k.number b e)

        joins : Resolvable s.number w b → Joins c (Resolve k s)
        joins r v a p q = subst (λ (x : Ranges). Resolvable s.number x a) (same_work (sym is ∙ p)) (subst (λ (x : Ranges). Resolvable s.number w x) (same_Some _ _ (sym e ∙ q)) r)

        go : (t u : Bool) → ltb s.number c.sheet.count ≡ t → resolvable s.number w b ≡ u
            → Lawful (Resolve k s) (where_true t Undeclared (where_true u NotResolvable (taken (onward c (working (resolve s.number w b)) c.slots))))
        go true true et eu = (
          (allowed, ((b, e), ((Decides-ltb s.number c.sheet.count).0 et, (joins (decides.0 eu), (tt, tt))))),
          (w, b, is, e, refl),
        )
        go true false et eu = refuse (Resolve k s) NotResolvable
            (inr (allowed, inr ((b, e), inr ((Decides-ltb s.number c.sheet.count).0 et, inl ((λ h. not_from_Decides _ decides eu (h w b is e)), refl)))))
        go false u et eu = refuse (Resolve k s) Undeclared (inr (allowed, inr ((b, e), inl (not_from_Decides _ (Decides-ltb s.number c.sheet.count) et, refl))))

    law_r_known : (k : BlockNumber) (s : SettingNumber) (w : Ranges) → c.phase ≡ working w → (o : Option Ranges) → block_in c k.number ≡ o
        → Lawful (Resolve k s) (where_known o (λ b. where_true (ltb s.number c.sheet.count) Undeclared (where_true (resolvable s.number w b) NotResolvable (taken (onward c (working (resolve s.number w b)) c.slots)))))
    law_r_known k s w is None e = refuse (Resolve k s) UnknownBlock (inr (may (working w) (Resolve k s) is refl, inl ((λ h. none-some h.0 (sym e ∙ h.1)), refl)))
    law_r_known k s w is (Some b) e = law_r k s w b is e (ltb s.number c.sheet.count) (resolvable s.number w b) refl refl

    law_k : (k : BlockNumber) (w : Ranges) → c.phase ≡ working w → (t : Bool) → (leb 100 k.number && ltb k.number (100 + length c.slots)) ≡ t
        → Lawful (Keep k) (where_true t UnknownBlock (taken (onward c idle (set c.slots (k.number - 100) (Some w)))))
    law_k k w is t et = go t et
      where
        decides : Decides (leb 100 k.number && ltb k.number (100 + length c.slots)) (Known c (Keep k))
        decides = Decides-and (leb 100 k.number) _ (leb-true 100 k.number, le-leb 100 k.number) (Decides-ltb k.number (100 + length c.slots))

        go : (t : Bool) → (leb 100 k.number && ltb k.number (100 + length c.slots)) ≡ t → Lawful (Keep k) (where_true t UnknownBlock (taken (onward c idle (set c.slots (k.number - 100) (Some w)))))
        go true e = let h = decides.0 e in ((may (working w) (Keep k) is refl, (h, (tt, (tt, (tt, tt))))), (w, k.number - 100, is, omega arith, refl))
        go false e = refuse (Keep k) UnknownBlock (inr (may (working w) (Keep k) is refl, inl (not_from_Decides _ decides e, refl)))

    law_e : (w : Ranges) → c.phase ≡ working w → (t : Bool) → whole c.sheet.last w ≡ t → Lawful End (where_true t NotEverything (taken (onward c ended c.slots)))
    law_e w is t et = go t et
      where
        decides : Decides (whole c.sheet.last w) (Inside (everything c.sheet.last) w)
        decides = whole_decides c.sheet.last w real.beyond (real.work w is)

        go : (t : Bool) → whole c.sheet.last w ≡ t → Lawful End (where_true t NotEverything (taken (onward c ended c.slots)))
        go true e = ((may (working w) End is refl, (tt, (tt, (tt, ((λ v p. subst (Inside (everything c.sheet.last)) (same_work (sym is ∙ p)) (decides.0 e)), tt))))), refl)
        go false e = refuse End NotEverything (inr (may (working w) End is refl, inr (tt, inr (tt, inr (tt, inl ((λ h. not_from_Decides _ decides e (h w is)), refl))))))

    step_in_lawful : (p : Phase) → c.phase ≡ p → (l : Line) → Lawful l (step_in c p l)
    step_in_lawful idle is (Take k) = law_t k is (block_in c k.number) refl
    step_in_lawful idle is (Resolve k s) = not_allowed idle (Resolve k s) is refl
    step_in_lawful idle is (Keep k) = not_allowed idle (Keep k) is refl
    step_in_lawful idle is End = not_allowed idle End is refl
    step_in_lawful (working w) is (Take k) = not_allowed (working w) (Take k) is refl
    step_in_lawful (working w) is (Resolve k s) = law_r_known k s w is (block_in c k.number) refl
    step_in_lawful (working w) is (Keep k) = law_k k w is _ refl
    step_in_lawful (working w) is End = law_e w is _ refl
    step_in_lawful ended is (Take k) = not_allowed ended (Take k) is refl
    step_in_lawful ended is (Resolve k s) = not_allowed ended (Resolve k s) is refl
    step_in_lawful ended is (Keep k) = not_allowed ended (Keep k) is refl
    step_in_lawful ended is End = not_allowed ended End is refl

    pub step_lawful : (l : Line) → Lawful l (step c l)
    step_lawful l = step_in_lawful c.phase refl l

-- a line leads to one state
one_leading : (c : Court) (l : Line) (d e : Court) → Leads c l d → Leads c l e → d ≡ e
one_leading c (Take k) d e p q = cc
one_leading c (Resolve k s) d e p q = cc
one_leading c (Keep k) d e (w, j, pw, pj, pd) (v, i, qw, qi, qe) = let same : j ≡ i = omega arith in cc
one_leading c End d e p q = p ∙ sym q

-- a line has one outcome
pub one_taking : (c : Court) (l : Line) (r s : Result (Unit {0}) ℕ) (d e : Court) → Takes c l r d → Takes c l s e → (r ≡ s) × (d ≡ e)
one_taking c l (Ok u) (Ok v) d e p q = (refl, one_leading c l d e p.1 q.1)
one_taking c l (Ok u) (Err n) d e p q = absurd (not_both (line_checks c l) q.0 p.0 q.2.0)
one_taking c l (Err n) (Ok u) d e p q = absurd (not_both (line_checks c l) p.0 q.0 p.2.0)
one_taking c l (Err n) (Err m) d e p q = (ap Err (p.1 ∙ ap (λ (f : Refusal). number f.stop) (one_refusal (line_checks c l) p.0 q.0 p.2.0 q.2.0) ∙ sym q.1), p.2.1 ∙ sym q.2.1)

pub just_takes : (c : Court) (l : Line) (r : Result (Unit {0}) ℕ) (d : Court) → Takes c l r d → JustTakes c l r d
just_takes c l r d t = record { takes = t; only = λ s e u. one_taking c l s r e d u t }

-- a refusal that is heard in full, and told by its number
pub told_by_number : (c : Court) (l : Line) {Q : Refusal → ℕ → Type 0} (h : Result (Unit {0}) Refusal) (r : Result (Unit {0}) ℕ) (d : Court) → Hears c l h d
    → ((e : Refusal) (n : ℕ) → Q e n → n ≡ number e.stop) → MatchResult h (λ u. r ≡ Ok u) (λ e. IsErrAnd r (Q e)) → Takes c l r d
told_by_number c l (Ok u) r d h q m = rw m h
told_by_number c l (Err e) (Ok u) d h q m = absurd m
told_by_number c l (Err e) (Err n) d h q m = (e, q e n m, h)

-- what comes of a line by its checks is the step
pub is_step : (c : Court) → RealCourt c → (l : Line) (r : Result (Unit {0}) ℕ) (d : Court) → Takes c l r d → (r ≡ result_of (step c l)) × (d ≡ next_of c (step c l))
is_step c real l r d t = one_taking c l r (result_of (step c l)) d (next_of c (step c l)) t (step_lawful c real l)
