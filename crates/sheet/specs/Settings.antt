-- A draft: its settings in the order in which they were declared.
use Rattle.std.specs.Prelude.{◌≡◌, ℕ, ◌<◌, List, [], ◌∷◌, ◌++◌, length, take, Ok, Err, Result}
use Rattle.rows.specs.Items.{items}
use Rattle.scales.specs.declared.refusal.Refusal.{Refusal}
use Rattle.scales.specs.declared.refusal.Stop.TheVariants.{SettingsFull}
use Rattle.scales.specs.Stops.{no_place}
use Rattle.sheet.specs.declared.draft.Draft.{Draft}
use Rattle.sheet.specs.declared.name.Name.{Name}

-- their last positions, and their names
abbrev pub lasts_of : Draft → List ℕ
lasts_of d = take d.lasts.count d.lasts.last

abbrev pub names_of : Draft → List Name
names_of d = items d.names

-- one setting more, behind the others, with the last position of its scale and its name; a thirteenth is refused, and then
-- nothing changes
abbrev pub Declares : ℕ → Name → Draft → Result ℕ Refusal → Draft → Type 0
Declares top name before (Ok n) after =
    (n < 12) × (n ≡ length (lasts_of before)) × (lasts_of after ≡ lasts_of before ++ top ∷ []) × (names_of after ≡ names_of before ++ name ∷ [])
Declares top name before (Err e) after = (length (lasts_of before) ≡ 12) × (e ≡ no_place SettingsFull) × (lasts_of after ≡ lasts_of before) × (names_of after ≡ names_of before)
