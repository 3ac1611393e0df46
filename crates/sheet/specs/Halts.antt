-- A judge's halt, told in full.
use Rattle.std.specs.Prelude.{◌≡◌}
use Rattle.scales.specs.declared.refusal.Refusal.{Refusal}
use Rattle.scales.specs.declared.refusal.Stop.{Stop}
use Rattle.scales.specs.Stops.{number, line_place}
use Rattle.record.specs.declared.halt.Halt.{Halt}
use Rattle.record.specs.Halts.{cause_number}

-- its number is some reason's
abbrev pub Known : Halt → Type 0
Known h = (s : Stop) × (number s ≡ cause_number h.cause)

-- the refusal for that reason, at the halt's line
abbrev pub ToldInFull : Halt → Refusal → Type 0
ToldInFull h e = (s : Stop) × (number s ≡ cause_number h.cause) × (e ≡ line_place s h.line)
