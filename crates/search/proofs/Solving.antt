-- A run over the slots that are used, told as a verdict over the whole area.
use Rattle.std.proofs.Common.{◌≡◌, ℕ, zero, suc, ◌-◌, ◌<◌, ◌≤◌, min, List, [], ◌∷◌, ◌++◌, length, take, drop, Some, None, Option, sym, refl, ◌∙◌, subst, subst₂, inl, inr, arith, length-append, length-drop, MatchOption}
use borrow.Rule.Slice.PartMut.{post_of, Post-is}
use Rattle.std.specs.List.{slice_get}
use Rattle.std.proofs.lemmas.List.{length-take-le}
use Rattle.std.proofs.lemmas.Option.{none-some}
use Rattle.std.proofs.lemmas.Bool.{cases_lt}
use Rattle.blocks.specs.declared.line.Line.{Line}
use Rattle.blocks.specs.Ranges.{Ranges}
use Rattle.blocks.specs.Sheets.{Sheet}
use Rattle.blocks.specs.Sinks.{Step}
use Rattle.blocks.specs.Slots.{Slot, slot_at}
use Rattle.search.specs.Search.{cold, Verdict, Run}
use Rattle.search.specs.Solve.{used, LeftIn, Searched, Ran}
use Rattle.search.specs.Tallies.{Feed, feed, untold}
use Rattle.search.proofs.Feeding.{Told, told_none, told_all}
use Rattle.search.proofs.Slots.{get_take, slot_by, slot_past}

front : (xs ys : List Slot) (j : ℕ) → j < length xs → slice_get (xs ++ ys) j ≡ slice_get xs j
front [] ys j l = absurd (omega arith)
front (x ∷ xs) ys zero l = refl
front (x ∷ xs) ys (suc j) l = front xs ys j (omega arith)

behind : (xs ys : List Slot) (j : ℕ) → length xs ≤ length ys → length xs ≤ j → slice_get (xs ++ drop (length xs) ys) j ≡ slice_get ys j
behind [] ys j m l = refl
behind (x ∷ xs) [] j m l = absurd (omega arith)
behind (x ∷ xs) (y ∷ ys) zero m l = absurd (omega arith)
behind (x ∷ xs) (y ∷ ys) (suc j) m l = behind xs ys j (omega arith) (omega arith)

module _ (area after : List Slot) (u : ℕ) (inside : u ≤ length area) (whole : length after ≡ u) where
  later : (j : ℕ) → u ≤ j → slice_get (after ++ drop u area) j ≡ slice_get area j
  later j l = subst (λ (n : ℕ). slice_get (after ++ drop n area) j ≡ slice_get area j) whole (behind after area j (omega arith) (omega arith))

  no_slot_past : (j : ℕ) (b : Ranges) → u ≤ j → slot_at after j ≡ Some b → ⊥
  no_slot_past j b l e = none-some b (sym (slot_past after j (omega arith)) ∙ e)

  left_whole : (slots : ℕ → Option Ranges) → LeftIn (take u area) after slots → LeftIn area (after ++ drop u area) slots
  left_whole slots h j = go (slots j) (h j)
    where
      go : (o : Option Ranges) → MatchOption o (slice_get after j ≡ slice_get (take u area) j) (λ b. slot_at after j ≡ Some b) → MatchOption o (slice_get (after ++ drop u area) j ≡ slice_get area j) (λ b. slot_at (after ++ drop u area) j ≡ Some b)
      go None e = elim (cases_lt j u) [ inl l ↦ front after (drop u area) j (omega arith) ∙ e ∙ get_take area u j l | inr l ↦ later j l ]
      go (Some b) e = elim (cases_lt j u) [ inl l ↦ slot_by (after ++ drop u area) after j (front after (drop u area) j (omega arith)) ∙ e | inr l ↦ absurd (no_slot_past j b l e) ]

  length_whole : length (after ++ drop u area) ≡ length area
  length_whole = omega (arith, length-append after (drop u area), length-drop u area)

  module _ {M : Type 0} (step : M → Line → Step M) (S : Sheet) (is : u ≡ used (length area)) (from : M) (f' : Feed M) (v : Verdict) (ran : Ran step S (take u area) after (feed untold from) f' v) where
    told : Told step from ran.lines f'
    told = subst (Told step from ran.lines) (sym ran.told) (told_all step from [] ran.lines (feed untold from) (told_none step from))

    slots_used : length (take u area) ≡ used (length area)
    slots_used = length-take-le u area inside ∙ is

    pub searched : Searched step S area (after ++ drop u area) from f'.state v f'.tally.lines f'.tally.refused
    searched = record {
      lines = ran.lines;
      end = ran.end;
      run = subst (λ (n : ℕ). Run S n cold ran.lines v ran.end) slots_used ran.run;
      made = told.count;
      sent = told.sent;
      sends = told.sends;
      first = ran.first;
      left = left_whole ran.end.slots ran.left;
      whole = length_whole;
    }

-- the part lent is the first u slots, and what is behind them stays
module _ {M : Type 0} (step : M → Line → Step M) (S : Sheet) (area after : List Slot) (u : ℕ) (is : u ≡ min (length area) 4096) (from : M) (f' : Feed M) where
  pub verdict_over : {v w : Verdict} → v ≡ w → Ran step S (take (u - 0) area) after (feed untold from) f' v → Searched step S area (after ++ post_of 0 (u - 0) area) from f'.state w f'.tally.lines f'.tally.refused
  verdict_over {v} {w} same ran₀ =
      let z : u - 0 ≡ u = omega arith in
      let ran = subst₂ (λ (n : ℕ) (x : Verdict). Ran step S (take n area) after (feed untold from) f' x) z same ran₀ in
      let inside : u ≤ length area = omega arith in
      subst (λ (xs : List Slot). Searched step S area (after ++ xs) from f'.state w f'.tally.lines f'.tally.refused) (sym (Post-is 0 u area (omega arith)))
      (searched area after u inside (ran.whole ∙ length-take-le u area inside) step S is from f' w ran)
