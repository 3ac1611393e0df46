-- A record: lines in a lent buffer, ten bytes each, from the front.
use Rattle.std.specs.Prelude.{ℕ, ◌+◌, ◌/◌, Bool, cond, List, ◌++◌, length, take, drop, Some, None, Option, nat_le}
use Rattle.scales.specs.declared.refusal.Refusal.{Refusal}
use Rattle.scales.specs.declared.refusal.Stop.TheVariants.{RecordFull}
use Rattle.scales.specs.Stops.{number, line_place}
use Rattle.blocks.specs.declared.line.Line.{Line}
use Rattle.blocks.specs.Sinks.{Step, taken, refused}
use Rattle.record.specs.declared.sink.Record.{Record}
use Rattle.record.specs.LineBytes.{line_bytes}

-- all bytes of the buffer, and how many of them, from the front, are written
pub record Page : Type 0 where
  pub bytes : List ℕ
  pub written : ℕ

abbrev pub page : List ℕ → ℕ → Page
page bs n = record { bytes = bs; written = n }

-- what a record holds
abbrev pub page_of : Record → Page
page_of r = page r.buffer.now r.end

-- the number of the line to come, from 1: the lines that are written, ten bytes each, and one
abbrev pub next_line : Page → ℕ
next_line p = p.written / 10 + 1

-- ten bytes are free
abbrev pub has_room : Page → Bool
has_room p = nat_le (p.written + 10) (length p.bytes)

-- ten bytes in place of those at a place; all others are as they were
abbrev pub put : ℕ → List ℕ → List ℕ → List ℕ
put at ten xs = take at xs ++ (ten ++ drop (at + 10) xs)

-- while ten bytes are free, a line's bytes are written behind what is written
abbrev pub writes : Page → Line → Step Page
writes p l = cond (has_room p) (taken (page (put p.written (line_bytes l) p.bytes) (p.written + 10))) (refused (number RecordFull))

-- the refusal of the line to come, at its number; none while ten bytes are free
abbrev pub full : Page → Option Refusal
full p = cond (has_room p) None (Some (line_place RecordFull (next_line p)))
