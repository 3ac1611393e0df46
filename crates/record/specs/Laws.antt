-- What holds of every line, every record and every reading.
use Rattle.std.specs.Prelude.{◌≡◌, ℕ, ◌+◌, ◌-◌, ◌*◌, ◌<◌, ◌≤◌, ◌⊎◌, ◌↔◌, List, [], ◌++◌, length, drop, Ok, Result, ◌≢◌, slice_index}
use Rattle.std.specs.List.{flat_map}
use Rattle.blocks.specs.declared.line.Line.{Line}
use Rattle.blocks.specs.Sinks.{Step, state_after}
use Rattle.record.specs.declared.halt.Halt.{Halt}
use Rattle.record.specs.LineBytes.{line_bytes}
use Rattle.record.specs.Pages.{page, next_line, writes}
use Rattle.record.specs.Readings.{TakesAll, Reads}

-- a text begins with a piece: up to its first byte 10, which the piece has too, or to its end where there is none
pub record FirstPiece (text piece rest : List ℕ) : Type 0 where
  pub joins : text ≡ piece ++ rest
  pub no_other : (k : ℕ) → k + 1 < length piece → slice_index piece k ≢ 10
  pub ended : (slice_index piece (length piece - 1) ≡ 10) ⊎ (rest ≡ [])

pub record LinesStand : Type 0 where
  -- a line has ten bytes
  pub ten : (l : Line) → length (line_bytes l) ≡ 10
  -- different lines have different bytes
  pub apart : (l m : Line) → line_bytes l ≡ line_bytes m → l ≡ m
  -- a text begins with a line where its first piece is that line: so a record can be read ten bytes at a time, or up to byte 10 each time
  pub by_piece : (text piece rest : List ℕ) → FirstPiece text piece rest → (l : Line) → (piece ≡ line_bytes l) ↔ ((behind : List ℕ) × (text ≡ line_bytes l ++ behind))

-- a record over a buffer, from its first line on
pub record RecordStands : Type 0 where
  -- it takes just the lines that fit
  pub takes : (buffer : List ℕ) (ls : List Line) → TakesAll writes (page buffer 0) ls ↔ (10 * length ls ≤ length buffer)
  -- then it holds their bytes, one after the other, and behind them what the buffer held
  pub holds : (buffer : List ℕ) (ls : List Line) → 10 * length ls ≤ length buffer
      → state_after writes (page buffer 0) ls ≡ page (flat_map line_bytes ls ++ drop (10 * length ls) buffer) (10 * length ls)
  -- the line to come counts one more than these
  pub counts : (bytes : List ℕ) (ls : List Line) → next_line (page bytes (10 * length ls)) ≡ length ls + 1

-- reading a record into a sink
pub record ReadingStands {M : Type 0} (step : M → Line → Step M) : Type 0 where
  -- ends in one way only
  pub one_end : (s : M) (text : List ℕ) (q r : Result ℕ Halt) (t u : M) → Reads step s text q t → Reads step s text r u → (q ≡ r) × (t ≡ u)
  -- reads every line that was written, where the sink takes them all
  pub whole : (s : M) (ls : List Line) → TakesAll step s ls → Reads step s (flat_map line_bytes ls) (Ok (length ls)) (state_after step s ls)
