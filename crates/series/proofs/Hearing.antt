-- A search that was sent to a sink of any states, as one that was sent to what the sink answers.
use Rattle.std.proofs.Common.{◌≡◌, ℕ, suc, ◌≤◌, List, [], ◌∷◌, ◌++◌, length, Some, None, Ok, Err, Option, Result, sym, refl, ap, ◌∙◌, subst, ap₂, inl, inr, arith, MatchOption}
use lib.ListN.{length-map}
use Rattle.scales.specs.declared.refusal.Refusal.{Refusal}
use Rattle.blocks.specs.declared.block.Block.{Block}
use Rattle.blocks.specs.declared.line.Line.{Line}
use Rattle.blocks.specs.Ranges.{Ranges}
use Rattle.blocks.specs.Sheets.{Sheet}
use Rattle.blocks.specs.Sinks.{Step, taken, refused, next_of, state_after}
use Rattle.blocks.specs.Slots.{Slot, slot_holds, holdings}
use Rattle.search.specs.declared.verdict.FirstRefusal.{FirstRefusal}
use Rattle.search.specs.declared.verdict.Verdict.{Verdict as Answered}
use Rattle.search.specs.Search.{cold, no_slot, Run}
use Rattle.search.specs.Sends.{Takes, takes_none, takes_more, Sends, all_taken, refused_at}
use Rattle.search.specs.Solve.{used, verdict_of, LeftIn, Searched, Solved}
use Rattle.series.specs.Hearers.{number_of, hearer, hears_as, hears}
use Rattle.series.specs.Solving.{put_or, filled, Told, Searches, Solves, too_small, carried_out, no_slot_free, told_by, told}

module _ {M : Type 0} (step : M → Line → Step M) (from : M) where
  -- the state after one line more
  state_more : (s : M) (ls : List Line) (l : Line) → state_after step s (ls ++ l ∷ []) ≡ next_of (state_after step s ls) (step (state_after step s ls) l)
  state_more s [] l = refl
  state_more s (x ∷ ls) l = state_more (next_of s (step s x)) ls l

  -- what the sink makes of a line after those that it took
  heard_as : (ts : List Line) {t : M} (l : Line) → t ≡ state_after step from ts → (x : Step M) → step t l ≡ x → hears (hearer step from) ts l ≡ hears_as ts l (number_of x)
  heard_as ts l e x is = ap (λ s. hears_as ts l (number_of (step s l))) (sym e) ∙ ap (λ y. hears_as ts l (number_of y)) is

  took : {ls : List Line} {t : M} → Takes step from ls t → (t ≡ state_after step from ls) × Takes (hears (hearer step from)) [] ls ls
  took takes_none = (refl, takes_none)
  took (takes_more {t = t} {u = u} {ls = ls} {l = l} h is) =
      let r = took h in (
        sym (state_more from ls l ∙ ap (λ s. next_of s (step s l)) (sym r.0) ∙ ap (next_of t) is),
        takes_more r.1 (heard_as ls l r.0 (taken u) is),
      )

  -- what it was sent, and the state that it is in then
  heard : {lines sent : List Line} {stop : Option FirstRefusal} {to : M} → Sends step from lines sent stop to
      → (to ≡ state_after step from sent) × ((ts : List Line) × Sends (hears (hearer step from)) [] lines sent stop ts)
  heard (all_taken h) = let r = took h in (r.0, (_, all_taken r.1))
  heard (refused_at {ts = ts} {l = l} {n = n} {t = t} us e h is) =
      let r = took h in (
        sym (state_more from ts l ∙ ap (λ s. next_of s (step s l)) (sym r.0) ∙ ap (next_of t) is),
        (ts, refused_at us e r.1 (heard_as ts l r.0 (refused n) is)),
      )

-- what a slot holds is what was put into it, or what it held
one_left : (a b : Slot) (o : Option Ranges) → MatchOption o (◌≡◌ {A = Option Slot} (Some a) (Some b)) (λ r. slot_holds a ≡ Some r) → slot_holds a ≡ put_or o (slot_holds b)
one_left a b None e = let q : a ≡ b = cc in ap slot_holds q
one_left a b (Some r) e = e

pub left_filled : (before after : List Slot) (slots : ℕ → Option Ranges) → length after ≡ length before → LeftIn before after slots → holdings after ≡ filled slots (holdings before)
left_filled [] [] slots e h = refl
left_filled [] (a ∷ more) slots e h = absurd (omega arith)
left_filled (b ∷ bs) [] slots e h = absurd (omega arith)
left_filled (b ∷ bs) (a ∷ more) slots e h = ap₂ (λ x xs. x ∷ xs) (one_left a b (slots 0) (h 0)) (left_filled bs more (λ j. slots (suc j)) (omega arith) (λ j. h (suc j)))

searched_searches : {M : Type 0} (step : M → Line → Step M) (S : Sheet) (before after : List Slot) (from to : M) (t : Told) → 193 ≤ length before → Searched step S before after from to t.says t.made t.stop
    → (sent : List Line) × (to ≡ state_after step from sent) × Searches S (holdings before) (hearer step from) t sent (holdings after)
searched_searches step S before after from to t room s =
    let r = heard step from s.sends in
    let same = length-map before slot_holds in (
      s.sent,
      r.0,
      record {
        room = omega arith;
        lines = s.lines;
        end = s.end;
        run = subst (λ n. Run S (used n) cold s.lines t.says s.end) (sym same) s.run;
        made = s.made;
        heard = r.1.0;
        sends = r.1.1;
        left_in = left_filled before after s.end.slots s.whole s.left;
      },
    )

-- an answer is no want of a slot
answers : (a : Option Block) → ¬ (verdict_of a ≡ no_slot)
answers (Some b) e = let z : ◌≡◌ {A = ℕ} 0 1 = cc in omega arith
answers None e = let z : ◌≡◌ {A = ℕ} 0 1 = cc in omega arith

-- what a solve does, whatever the states of its sink are
pub solved_solves : {M : Type 0} (step : M → Line → Step M) (S : Sheet) (before after : List Slot) (from to : M) (r : Result Answered Refusal) → Solved step S before after from to r
    → (sent : List Line) × (to ≡ state_after step from sent) × Solves S (holdings before) (hearer step from) (told r) sent (holdings after)
solved_solves step S before after from to (Ok v) (room, s) =
    let q = searched_searches step S before after from to (told_by v) room s in
    (q.0, q.1, carried_out (answers v.found) q.2)
solved_solves step S before after from to (Err e) (inl t) =
    ([], t.sink, subst₂_solves t.is t.area (too_small (omega (arith, length-map before slot_holds, t.few))))
  where
    subst₂_solves : {d : Refusal} {left : List Slot} → e ≡ d → left ≡ before → Solves S (holdings before) (hearer step from) (Err d) [] (holdings before) → Solves S (holdings before) (hearer step from) (Err e) [] (holdings left)
    subst₂_solves p q s = rw (p, q) s
solved_solves step S before after from to (Err e) (inr n) =
    let q = searched_searches step S before after from to (record { says = no_slot; made = n.count; stop = n.stop }) n.room n.searched in
    (q.0, q.1, rw n.is (no_slot_free refl q.2))
