-- Opening: rules are taken one by one into a lent place.
use Rattle.std.specs.Prelude.{◌≡◌, ℕ, List, [], ◌∷◌, map, Ok, Err, Result, ◌≢◌}
use Rattle.scales.specs.declared.refusal.Refusal.{Refusal}
use Rattle.scales.specs.Checks.{Passes, Refuses}
use Rattle.blocks.specs.declared.bound.Bound.{Bound}
use Rattle.blocks.specs.declared.lasts.Lasts.{Lasts}
use Rattle.blocks.specs.declared.line.Line.{Line}
use Rattle.blocks.specs.declared.rule.Rule.{Rule}
use Rattle.blocks.specs.declared.ruleset.RuleSet.{RuleSet}
use Rattle.blocks.specs.Bounds.{Profile}
use Rattle.blocks.specs.Ranges.{everything, In}
use Rattle.blocks.specs.Rules.{MeetsRule, with_rules, rules_checks}
use Rattle.blocks.specs.Problems.{sheet_of}
use Rattle.blocks.specs.RuleSets.{sheet_in}
use Rattle.blocks.specs.Sheets.{Sheet}
use Rattle.blocks.specs.Views.{last_at}
use Rattle.checker.specs.Courts.{ended}
use Rattle.checker.specs.Findings.{after}

-- rules by their bounds
abbrev pub bounds_of : Rule → List Bound
bounds_of r = r.bounds.now

abbrev pub by_bounds : List Rule → List (List Bound)
by_bounds rs = map bounds_of rs

-- the profile meets every rule
abbrev pub MeetsAll : Profile → List (List Bound) → Type 0
MeetsAll x [] = Unit {0}
MeetsAll x (r ∷ rs) = MeetsRule x r × MeetsAll x rs

-- some profile meets every rule
abbrev pub Possible : (ℕ → ℕ) → List (List Bound) → Type 0
Possible last rules = (x : Profile) × In (everything last) x × MeetsAll x rules

-- a judge over the sheet does not accept while some profile meets the rules, whatever its area is and whatever lines it is sent
abbrev pub NeverAccepts : Sheet → (ℕ → ℕ) → List (List Bound) → Type 0
NeverAccepts S last rules = Possible last rules → (m : ℕ) (ls : List Line) → (after S m ls).phase ≢ ended

-- the rules stand in the place, in order
pub record Gathered (l : Lasts) (rules : List (List Bound)) (place : RuleSet) : Type 0 where
  pub stand : sheet_in place ≡ with_rules (sheet_of l []) rules
  pub never_accepts : NeverAccepts (sheet_in place) (last_at l) rules

-- all rules are admitted, one after the other, and stand in the place; or the first refusal, and the place is as it was
abbrev pub Opens : Lasts → List (List Bound) → RuleSet → Result (Unit {0}) Refusal → RuleSet → Type 0
Opens l rules before (Ok u) place = Passes (rules_checks (sheet_of l []) rules) × Gathered l rules place
Opens l rules before (Err e) place = Refuses (rules_checks (sheet_of l []) rules) e × (place ≡ before)
