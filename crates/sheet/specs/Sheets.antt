-- What a sheet holds.
use Rattle.std.specs.Prelude.{ℕ, List, take}
use Rattle.rows.specs.Items.{items}
use Rattle.blocks.specs.Sheets.{Sheet}
use Rattle.blocks.specs.RuleSets.{sheet_in}
use Rattle.sheet.specs.declared.name.Name.{Name}
use Rattle.sheet.specs.declared.sheet.Sheet.{Sheet as Page}

-- its settings by their last positions, and the blocks of its rules
abbrev pub sheet_on : {R : Type 0} → Page R → Sheet
sheet_on s = sheet_in s.rules

-- the names of its settings
abbrev pub names_on : {R : Type 0} → Page R → List Name
names_on s = items s.names

-- the last positions of its settings, in order
abbrev pub lasts_on : {R : Type 0} → Page R → List ℕ
lasts_on s = take s.rules.lasts.count s.rules.lasts.last
