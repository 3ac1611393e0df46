-- What a row holds.
use Rattle.std.specs.Prelude.{◌≡◌, ℕ, ◌<◌, ◌≤◌, ◌++◌, List, [], ◌∷◌, length, take, Ok, Err, Result, Some, None, Option}
use Rattle.rows.specs.declared.row.Row.{Row}
use Rattle.rows.specs.declared.row.Full.{Full}

-- the items, in order
abbrev pub items : {T : Type 0} {N : ℕ} → Row T N → List T
items r = take r.len r.room

-- one item more, behind the others; a row that is full stays as it is
abbrev pub Pushed : {T : Type 0} {N : ℕ} → T → Row T N → Row T N → Result (Unit {0}) Full → Type 0
Pushed {T} {N} x before after (Ok u) = (length (items before) < N) × (items after ≡ items before ++ x ∷ [])
Pushed {T} {N} x before after (Err e) = (N ≤ length (items before)) × (after ≡ before)

-- the last item is taken out; a row with none stays as it is
abbrev pub Popped : {T : Type 0} {N : ℕ} → Row T N → Row T N → Option T → Type 0
Popped {T} {N} before after None = (items before ≡ []) × (after ≡ before)
Popped {T} {N} before after (Some x) = items before ≡ items after ++ x ∷ []
