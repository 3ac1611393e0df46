use Rattle.std.proofs.Common.{◌≡◌, ℕ, ◌<◌, length, ◌≢◌, slice_index, sym, rules}
use Rattle.std.proofs.iter.runs.Made.{chains}
use Rattle.rows.specs.Items.{items}
use Rattle.scales.specs.Listed.{first_is}
use Rattle.scales.proofs.grade.GradeScale.place.Goals as goal

pub returns-in-Some : goal.returns-in-Some
returns-in-Some c =
    let xs = items c.args.self.now.list in
    let i = c.in-Some.i in
    let here : (i < length xs) × (slice_index xs i ≡ c.args.v) × ((k : ℕ) → k < i → slice_index xs k ≢ c.args.v) = search (rules, chains) in
    (((i, here.0, here.1), tt), sym (first_is xs c.args.v i here.0 here.1 here.2))
