-- The state of a judge is real, since its blocks are.
use Rattle.std.proofs.Common.{◌≡◌, ℕ, zero, suc, ◌-◌, ◌≤◌, Bool, true, false, cond, ltb, List, [], ◌∷◌, replicate, Some, None, Option, refl, ap, subst, arith}
use Rattle.std.specs.List.{slice_get}
use Rattle.std.proofs.lemmas.List.{get_or_past}
use Rattle.std.proofs.lemmas.Option.{none-some, same_Some}
use Rattle.blocks.specs.declared.lasts.Lasts.{Lasts}
use Rattle.blocks.specs.declared.standing.Standing.{Standing}
use Rattle.blocks.specs.Ranges.{Ranges}
use Rattle.blocks.specs.Slots.{Slot, slot_holds, holdings, slot_at}
use Rattle.blocks.specs.Views.{blocks, last_at, Real}
use Rattle.blocks.proofs.Viewing.{real}
use Rattle.checker.specs.declared.judge.Judge.{Judge}
use Rattle.checker.specs.declared.state.State.{State}
use Rattle.checker.specs.declared.state.State.TheVariants.{Idle, Working, Ended}
use Rattle.checker.specs.Courts.{working, phase_of, court_of}
use Rattle.checker.proofs.Asking.{same_work}
use Rattle.checker.proofs.Stepping.{RealCourt}

pub rules_real : (ss : List Standing) (i : ℕ) (b : Ranges) → slice_get (blocks ss) i ≡ Some b → Real b
rules_real [] i b e = absurd (none-some b e)
rules_real (s ∷ ss) zero b e = subst Real (same_Some _ _ e) (real s.block)
rules_real (s ∷ ss) (suc i) b e = rules_real ss i b e

slot_real : (s : Slot) (b : Ranges) → slot_holds s ≡ Some b → Real b
slot_real None b e = absurd (none-some b e)
slot_real (Some a) b e = subst Real (same_Some _ _ e) (real a)

slots_real : (ss : List Slot) (j : ℕ) (b : Ranges) → slot_at ss j ≡ Some b → Real b
slots_real [] j b e = absurd (none-some b e)
slots_real (s ∷ ss) zero b e = slot_real s b e
slots_real (s ∷ ss) (suc j) b e = slots_real ss j b e

either_real : (t : Bool) (o p : Option Ranges) (b : Ranges) → (o ≡ Some b → Real b) → (p ≡ Some b → Real b) → cond t o p ≡ Some b → Real b
either_real true o p b f g e = f e
either_real false o p b f g e = g e

work_real : (s : State) (w : Ranges) → phase_of s ≡ working w → Real w
work_real Idle w e = absurd (cc)
work_real (Working b) w e = subst Real (same_work e) (real b)
work_real Ended w e = absurd (cc)

pub last_past : (l : Lasts) (i : ℕ) → 12 ≤ i → last_at l i ≡ 0
last_past l i h = get_or_past l.last i 0 (omega (arith, l.sized))

pub real_court : (j : Judge) → RealCourt (court_of j)
real_court j = record {
  beyond = last_past j.problem.lasts.now;
  blocks = λ k b. either_real (ltb k 100) _ _ b (rules_real j.problem.rules.now k b) (slots_real j.area.now (k - 100) b);
  work = work_real j.state;
}

pub empty_holds_nothing : (m : ℕ) → holdings (replicate m None) ≡ replicate m None
empty_holds_nothing zero = refl
empty_holds_nothing (suc m) = ap (λ (ss : List (Option Ranges)). None ∷ ss) (empty_holds_nothing m)
