-- One setting more, as lists.
use Rattle.std.proofs.Common.{◌≡◌, ℕ, ◌+◌, ◌<◌, List, [], ◌∷◌, ◌++◌, length, get_or, take, set, sym, ap, ◌∙◌, ap₂, inl, inr, arith, length-take}
use Rattle.std.proofs.lemmas.List.{take_more_set, get_or_past, get_or-take}
use Rattle.std.proofs.lemmas.Bool.{cases_lt}
use Rattle.blocks.specs.declared.lasts.Lasts.{Lasts}
use Rattle.blocks.specs.Views.{last_at}
use Rattle.blocks.specs.Problems.{sheet_of}
use Rattle.series.specs.Series.{newly_closed}

pub settings_counted : (l : Lasts) → length (take l.count l.last) ≡ l.count
settings_counted l = omega (arith, length-take l.count l.last, l.sized, l.few)

-- a write at the end of the n that stand makes one more
pub one_more : {A : Type 0} (before after : List A) (m n i : ℕ) (x : A) → n < length before → m ≡ n + 1 → i ≡ n → after ≡ set before i x → take m after ≡ take n before ++ x ∷ []
one_more before after m n i x l e at f = ap₂ take e (f ∙ ap (λ j. set before j x) at) ∙ take_more_set before n x l

-- a setting that is not declared has last 0, and so the declared ones say it all
pub newly_of : (l : Lasts) → newly_closed (take l.count l.last) ≡ sheet_of l []
newly_of l = λ i. record { count = settings_counted l i; last = λ j. same j i; rules = [] }
  where
    same : (j : ℕ) → get_or (take l.count l.last) j 0 ≡ last_at l j
    same j = elim (cases_lt j l.count) [
      | inl lt ↦ get_or-take l.count l.last j 0 lt
      | inr le ↦ get_or_past (take l.count l.last) j 0 (omega (arith, settings_counted l)) ∙ sym (l.beyond j le)
    ]
