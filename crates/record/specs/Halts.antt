-- One line of a record, read into a sink.
use Rattle.std.specs.Prelude.{◌≡◌, ℕ, min, List, Ok, Err, Result, ◌≢◌}
use Rattle.scales.specs.declared.refusal.Stop.TheVariants.{BadShape}
use Rattle.scales.specs.Stops.{number}
use Rattle.blocks.specs.declared.line.Line.{Line}
use Rattle.blocks.specs.Sinks.{Step, taken, refused}
use Rattle.record.specs.declared.halt.Cause.{Cause}
use Rattle.record.specs.declared.halt.Cause.TheVariants.{Shape, Sink}
use Rattle.record.specs.declared.halt.Halt.{Halt}
use Rattle.record.specs.LineBytes.{line_bytes}

-- the number by which users know a cause
abbrev pub cause_number : Cause → ℕ
cause_number Shape = number BadShape
cause_number (Sink n) = n

-- a halt at the n-th line, from 1; the number of a line stops at 99,999
abbrev pub halt_at : Cause → ℕ → Halt
halt_at c n = record { cause = c; line = min n 99999 }

-- why a sink in state s does not take these bytes: they are no line's, or it refuses their line
abbrev pub Refused : {M : Type 0} → (M → Line → Step M) → M → List ℕ → Cause → Type 0
Refused step s bytes Shape = (l : Line) → bytes ≢ line_bytes l
Refused step s bytes (Sink e) = (l : Line) × (bytes ≡ line_bytes l) × (step s l ≡ refused e)

-- the bytes of one line, the n-th of a record, come to a sink in state s, which is in state t then
abbrev pub Fed : {M : Type 0} → (M → Line → Step M) → M → ℕ → List ℕ → Result (Unit {0}) Halt → M → Type 0
Fed step s n bytes (Ok u) t = (l : Line) × (bytes ≡ line_bytes l) × (step s l ≡ taken t)
Fed step s n bytes (Err h) t = Refused step s bytes h.cause × (h ≡ halt_at h.cause n) × (t ≡ s)
