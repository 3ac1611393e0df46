-- Rule sets: settings and standing rules that grow by admitted ones.
use Rattle.std.specs.Prelude.{◌≡◌, List, Ok, Err, Result}
use Rattle.rows.specs.Items.{items}
use Rattle.scales.specs.declared.refusal.Refusal.{Refusal}
use Rattle.scales.specs.Checks.{Passes, Refuses}
use Rattle.blocks.specs.declared.bound.Bound.{Bound}
use Rattle.blocks.specs.declared.problem.Problem.{Problem}
use Rattle.blocks.specs.declared.ruleset.RuleSet.{RuleSet}
use Rattle.blocks.specs.Sheets.{Sheet}
use Rattle.blocks.specs.Rules.{admit_checks, Breakers, rule_block, with_rule}
use Rattle.blocks.specs.Problems.{sheet_of}

abbrev pub sheet_in : RuleSet → Sheet
sheet_in s = sheet_of s.lasts (items s.rules)

-- the problem of what stands
pub record PosesSet (s : RuleSet) (p : Problem) : Type 0 where
  pub lasts : p.lasts.now ≡ s.lasts
  pub rules : p.rules.now ≡ items s.rules

-- an admitted rule stands behind the others, by the block of just the profiles that break it; a refused one changes nothing
abbrev pub Posted : RuleSet → List Bound → Result (Unit {0}) Refusal → RuleSet → Type 0
Posted before βs (Ok u) after = Passes (admit_checks (sheet_in before) βs) × (sheet_in after ≡ with_rule (sheet_in before) βs) × Breakers (sheet_in before).last βs (rule_block (sheet_in before).last βs)
Posted before βs (Err e) after = Refuses (admit_checks (sheet_in before) βs) e × (after ≡ before)
