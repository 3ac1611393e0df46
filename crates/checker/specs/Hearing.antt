-- What comes of a line: what is asked of it, in order, and what it does.
use Rattle.std.specs.Prelude.{◌≡◌, ℕ, suc, ◌+◌, ◌<◌, ◌≤◌, min, true, List, [], ◌∷◌, length, Some, Ok, Err, Option, Result, slice_set}
use Rattle.scales.specs.declared.refusal.Refusal.{Refusal}
use Rattle.scales.specs.declared.refusal.Stop.TheVariants.{NotAllowed, UnknownBlock, Undeclared, NotResolvable, NotEverything}
use Rattle.scales.specs.Stops.{number}
use Rattle.scales.specs.Checks.{Check, Passes, Refuses}
use Rattle.blocks.specs.declared.line.Line.{Line}
use Rattle.blocks.specs.declared.line.Line.TheVariants.{Take, Resolve, Keep, End}
use Rattle.blocks.specs.Ranges.{Ranges, everything, Inside, resolve, Resolvable}
use Rattle.checker.specs.Table.{allows, letter_of}
use Rattle.checker.specs.Courts.{Phase, idle, working, ended, Court, block_in, stage, asks}

-- the line may come at this stage
abbrev pub Allowed : Court → Line → Type 0
Allowed c l = allows (stage c.phase) (letter_of l) ≡ true

-- t and r name a block that is there, k a slot of the area
abbrev pub Known : Court → Line → Type 0
Known c (Take k) = (b : Ranges) × (block_in c k.number ≡ Some b)
Known c (Resolve k s) = (b : Ranges) × (block_in c k.number ≡ Some b)
Known c (Keep k) = (100 ≤ k.number) × (k.number < 100 + length c.slots)
Known c End = Unit {0}

-- r names a setting that is declared
abbrev pub Declared : Court → Line → Type 0
Declared c (Take k) = Unit {0}
Declared c (Resolve k s) = s.number < c.sheet.count
Declared c (Keep k) = Unit {0}
Declared c End = Unit {0}

-- r may resolve its block into the work block
abbrev pub Joins : Court → Line → Type 0
Joins c (Take k) = Unit {0}
Joins c (Resolve k s) = (w b : Ranges) → c.phase ≡ working w → block_in c k.number ≡ Some b → Resolvable s.number w b
Joins c (Keep k) = Unit {0}
Joins c End = Unit {0}

-- at e the work block is everything
abbrev pub Whole : Court → Line → Type 0
Whole c (Take k) = Unit {0}
Whole c (Resolve k s) = Unit {0}
Whole c (Keep k) = Unit {0}
Whole c End = (w : Ranges) → c.phase ≡ working w → Inside (everything c.sheet.last) w

-- what is asked of a line that may come, in order
abbrev pub further_checks : Court → Line → List Check
further_checks c l =
    asks c UnknownBlock (Known c l)
    ∷ asks c Undeclared (Declared c l)
    ∷ asks c NotResolvable (Joins c l)
    ∷ asks c NotEverything (Whole c l)
    ∷ []

-- what is asked of a line, in order
abbrev pub line_checks : Court → Line → List Check
line_checks c l = asks c NotAllowed (Allowed c l) ∷ further_checks c l

-- the state one line on
abbrev pub onward : Court → Phase → List (Option Ranges) → Court
onward c p ss = record { sheet = c.sheet; phase = p; slots = ss; line = min (suc c.line) 99999 }

-- what a line does: t takes a block as the work block, r resolves one into it, k keeps it in a slot, e ends the grounds
abbrev pub Leads : Court → Line → Court → Type 0
Leads c (Take k) d = (b : Ranges) × (block_in c k.number ≡ Some b) × (d ≡ onward c (working b) c.slots)
Leads c (Resolve k s) d = (w : Ranges) × (b : Ranges) × (c.phase ≡ working w) × (block_in c k.number ≡ Some b) × (d ≡ onward c (working (resolve s.number w b)) c.slots)
Leads c (Keep k) d = (w : Ranges) × (j : ℕ) × (c.phase ≡ working w) × (k.number ≡ 100 + j) × (d ≡ onward c idle (slice_set c.slots j (Some w)))
Leads c End d = d ≡ onward c ended c.slots

-- a line is refused by the first check that fails, and then nothing changes; else it is taken
abbrev pub Hears : Court → Line → Result (Unit {0}) Refusal → Court → Type 0
Hears c l (Ok u) d = Passes (line_checks c l) × Leads c l d
Hears c l (Err e) d = Refuses (line_checks c l) e × (d ≡ c)

-- the same where a refusal is told by its number alone
abbrev pub Takes : Court → Line → Result (Unit {0}) ℕ → Court → Type 0
Takes c l (Ok u) d = Hears c l (Ok u) d
Takes c l (Err n) d = (e : Refusal) × (n ≡ number e.stop) × Hears c l (Err e) d

-- that outcome, and no other
pub record JustTakes (c : Court) (l : Line) (r : Result (Unit {0}) ℕ) (d : Court) : Type 0 where
  pub takes : Takes c l r d
  pub only : (s : Result (Unit {0}) ℕ) (e : Court) → Takes c l s e → (s ≡ r) × (e ≡ d)
