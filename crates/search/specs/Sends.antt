-- What a sink is sent: the lines in order, up to the first that it refuses.
use Rattle.std.specs.Prelude.{◌≡◌, ℕ, suc, min, List, [], ◌∷◌, ◌++◌, length, Some, None, Option}
use Rattle.blocks.specs.declared.line.Line.{Line}
use Rattle.blocks.specs.Sinks.{Step, taken, refused}
use Rattle.search.specs.declared.verdict.FirstRefusal.{FirstRefusal}

-- a count of lines, stopping at 4,294,967,295
abbrev pub counted : ℕ → ℕ
counted n = min n 4294967295

module _ {M : Type 0} (step : M → Line → Step M) where
  -- the sink takes each of these lines, and comes from one state to another
  pub data Takes : M → List Line → M → Type 0 where
    takes_none : {s : M} → Takes s [] s
    takes_more : {s t u : M} {ls : List Line} {l : Line} → Takes s ls t → step t l ≡ taken u → Takes s (ls ++ l ∷ []) u

  -- Of the lines that are made, the sink takes all, and there is no refusal; or it takes those before l and refuses l by
  -- a number, and is sent no more: the refusal is that number, with the count of lines at l, itself counted.
  pub data Sends (s : M) (lines : List Line) : List Line → Option FirstRefusal → M → Type 0 where
    all_taken : {t : M} → Takes s lines t → Sends s lines lines None t
    refused_at : {ts : List Line} {l : Line} {n : ℕ} {t : M} (us : List Line) → lines ≡ ts ++ l ∷ us → Takes s ts t → step t l ≡ refused n
        → Sends s lines (ts ++ l ∷ []) (Some (record { number = n; line = counted (suc (length ts)) })) t
