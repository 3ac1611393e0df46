-- How many items a row holds, and a push that finds room.
use Rattle.std.proofs.Common.{◌≡◌, ℕ, ◌<◌, ◌≤◌, ◌++◌, [], ◌∷◌, length, Ok, Err, Result, IsOk, refl, arith}
use Rattle.std.proofs.lemmas.List.{length-take-le}
use Rattle.rows.specs.declared.row.Row.{Row}
use Rattle.rows.specs.declared.row.Full.{Full}
use Rattle.rows.specs.Items.{items, Pushed}

pub item_count : {T : Type 0} {N : ℕ} (r : Row T N) → length (items r) ≡ r.len
item_count r = length-take-le r.len r.room (omega (arith, r.whole, r.few))

pub within_room : {T : Type 0} {N : ℕ} (r : Row T N) → length (items r) ≤ N
within_room r = omega (arith, item_count r, r.few)

pub pushed_ok : {T : Type 0} {N : ℕ} (x : T) (before after : Row T N) (r : Result (Unit {0}) Full) → Pushed x before after r → length (items before) < N → IsOk r
pushed_ok x before after (Ok u) p room = refl
pushed_ok x before after (Err e) p room = absurd (omega (arith, p.0))

pub pushed_behind : {T : Type 0} {N : ℕ} (x : T) (before after : Row T N) (r : Result (Unit {0}) Full) → Pushed x before after r → length (items before) < N
    → items after ≡ items before ++ x ∷ []
pushed_behind x before after (Ok u) p room = p.1
pushed_behind x before after (Err e) p room = absurd (omega (arith, p.0))
