-- Problems: what the search and the judge's opening are given.
use Rattle.std.specs.Prelude.{◌≡◌, ◌≤◌, List, length, Some, None, Option, Result}
use Rattle.scales.specs.declared.refusal.Refusal.{Refusal}
use Rattle.scales.specs.Checks.{Outcome}
use Rattle.blocks.specs.declared.block.Block.{Block}
use Rattle.blocks.specs.declared.bound.Bound.{Bound}
use Rattle.blocks.specs.declared.lasts.Lasts.{Lasts}
use Rattle.blocks.specs.declared.standing.Standing.{Standing}
use Rattle.blocks.specs.declared.problem.Problem.{Problem}
use Rattle.blocks.specs.Sheets.{Sheet}
use Rattle.blocks.specs.Rules.{Breakable, Breakers, admit_checks}
use Rattle.blocks.specs.Views.{ranges, last_at, blocks, block_of, sides, FitToStand, FitToPose}

-- the sheet of these settings and of what stands
abbrev pub sheet_of : Lasts → List Standing → Sheet
sheet_of l ss = record { count = l.count; last = last_at l; rules = blocks ss }

abbrev pub posed : Problem → Sheet
posed p = sheet_of p.lasts.now p.rules.now

-- the problem of these settings and rules, or nothing where they are not fit
abbrev pub Poses : Lasts → List Standing → Option Problem → Type 0
Poses l ss (Some p) = (p.lasts.now ≡ l) × (p.rules.now ≡ ss)
Poses l ss None = FitToPose l ss → ⊥

-- what stands for the rule: just the profiles that break it, fit to stand
abbrev pub Admits : Lasts → List Standing → List Bound → Result Standing Refusal → Type 0
Admits l ss βs r = Outcome (admit_checks (sheet_of l ss) βs) (λ s. Breakers (last_at l) βs (block_of s) × FitToStand l (block_of s)) r

-- the block of the profiles that break every bound, with no more bounds than these; or nothing where there are none
abbrev pub Breaking : Lasts → List Bound → Option Block → Type 0
Breaking l βs None = Breakable (last_at l) βs → ⊥
Breaking l βs (Some b) = Breakers (last_at l) βs (ranges b) × (sides l (ranges b) ≤ length βs)
