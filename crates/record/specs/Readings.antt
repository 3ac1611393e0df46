-- A whole record, read into a sink up to the first line that is refused.
use Rattle.std.specs.Prelude.{◌≡◌, ℕ, ◌+◌, ◌<◌, List, [], ◌∷◌, ◌++◌, length, Ok, Err, Result, ◌≢◌}
use Rattle.std.specs.List.{flat_map}
use Rattle.blocks.specs.declared.line.Line.{Line}
use Rattle.blocks.specs.Sinks.{Step, taken, refused, state_after}
use Rattle.record.specs.declared.halt.Cause.{Cause}
use Rattle.record.specs.declared.halt.Cause.TheVariants.{Shape, Sink}
use Rattle.record.specs.declared.halt.Halt.{Halt}
use Rattle.record.specs.LineBytes.{line_bytes}
use Rattle.record.specs.Halts.{halt_at}

-- a sink in state s takes each of these lines, one after the other
abbrev pub TakesAll : {M : Type 0} → (M → Line → Step M) → M → List Line → Type 0
TakesAll step s [] = Unit {0}
TakesAll {M} step s (l ∷ ls) = (t : M) × (step s l ≡ taken t) × TakesAll step t ls

-- why the rest of a record is not read on: it does not begin with a line, or the sink refuses the line that it begins with
abbrev pub StopsAt : {M : Type 0} → (M → Line → Step M) → M → List ℕ → Cause → Type 0
StopsAt step s rest Shape = (0 < length rest) × ((l : Line) (behind : List ℕ) → rest ≢ line_bytes l ++ behind)
StopsAt step s rest (Sink e) = (l : Line) × (behind : List ℕ) × (rest ≡ line_bytes l ++ behind) × (step s l ≡ refused e)

-- behind n lines the record is over, or the line after them is refused
abbrev pub Ends : {M : Type 0} → (M → Line → Step M) → M → List ℕ → ℕ → Result ℕ Halt → Type 0
Ends step s rest n (Ok k) = (rest ≡ []) × (k ≡ n)
Ends step s rest n (Err h) = StopsAt step s rest h.cause × (h ≡ halt_at h.cause (n + 1))

-- a record begins with lines that a sink in state s takes, and that leave it in state t; they are all, or the line after them is refused
pub record Reads {M : Type 0} (step : M → Line → Step M) (s : M) (text : List ℕ) (r : Result ℕ Halt) (t : M) : Type 0 where
  pub lines : List Line
  pub rest : List ℕ
  pub begins : text ≡ flat_map line_bytes lines ++ rest
  pub taken_all : TakesAll step s lines
  pub state : t ≡ state_after step s lines
  pub ends : Ends step t rest (length lines) r
