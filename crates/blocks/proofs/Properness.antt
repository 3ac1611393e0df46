-- What is fit to pose is a proper sheet.
use Rattle.std.proofs.Common.{◌≡◌, ℕ, zero, suc, ◌<◌, ◌≤◌, List, [], ◌∷◌, length, get_or, Some, None, Option, refl, subst, arith}
use Rattle.std.specs.List.{slice_get}
use Rattle.std.proofs.lemmas.List.{length-map}
use Rattle.rows.specs.Items.{items}
use Rattle.blocks.specs.declared.lasts.Lasts.{Lasts}
use Rattle.blocks.specs.declared.problem.Problem.{Problem}
use Rattle.blocks.specs.declared.ruleset.RuleSet.{RuleSet}
use Rattle.blocks.specs.declared.standing.Standing.{Standing}
use Rattle.blocks.specs.Ranges.{Ranges}
use Rattle.blocks.specs.Sheets.{Proper}
use Rattle.blocks.specs.Views.{interval_at, block_of, blocks, nowhere, FitToStand, FitToPose}
use Rattle.blocks.specs.Problems.{sheet_of, posed}
use Rattle.blocks.specs.RuleSets.{sheet_in}
use Rattle.blocks.proofs.Numbers.{some_same}

none_some : {b : Ranges} → ◌≡◌ {A = Option Ranges} None (Some b) → ⊥
none_some e = let z : ◌≡◌ {A = ℕ} 0 1 = cc in omega arith

-- what is there is read within the list
there : (bs : List Ranges) (i : ℕ) (b d : Ranges) → slice_get bs i ≡ Some b → (i < length bs) × (get_or bs i d ≡ b)
there [] i b d e = absurd (none_some e)
there (a ∷ bs) zero b d e = (omega arith, some_same refl e)
there (a ∷ bs) (suc i) b d e = let h = there bs i b d e in (omega arith, h.1)

-- the low ends of a rule's block are not over its high ends
ordered : (ss : List Standing) (i j : ℕ) → (get_or (blocks ss) i nowhere).low j ≤ (get_or (blocks ss) i nowhere).high j
ordered [] i j = omega arith
ordered (s ∷ ss) zero j = (interval_at s.block j).ordered
ordered (s ∷ ss) (suc i) j = ordered ss i j

pub fit_proper : (l : Lasts) (ss : List Standing) → FitToPose l ss → Proper (sheet_of l ss)
fit_proper l ss fit = record {
  twelve = l.few;
  beyond = l.beyond;
  few = omega (arith, fit.few, length-map ss block_of);
  stand = λ i b e j. (subst (λ (x : Ranges). x.low j ≤ x.high j) (there (blocks ss) i b nowhere e).1 (ordered ss i j), (fits i b e).within j);
  four = λ i b e. (fits i b e).four;
}
  where
    fits : (i : ℕ) (b : Ranges) → slice_get (blocks ss) i ≡ Some b → FitToStand l b
    fits i b e = let h = there (blocks ss) i b nowhere e in subst (FitToStand l) h.1 (fit.each i (omega (arith, length-map ss block_of)))

pub problem_proper : (p : Problem) → Proper (posed p)
problem_proper p = fit_proper p.lasts.now p.rules.now p.fit

pub set_proper : (s : RuleSet) → Proper (sheet_in s)
set_proper s = fit_proper s.lasts (items s.rules) s.fit
