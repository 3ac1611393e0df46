-- Lines that are counted, and sent to a sink unless it has refused one.
use Rattle.std.specs.Prelude.{ℕ, ◌+◌, List, [], ◌∷◌, Some, None, Option}
use Rattle.blocks.specs.declared.line.Line.{Line}
use Rattle.blocks.specs.Sinks.{Step, taken, refused}
use Rattle.search.specs.declared.tally.Tally.{Tally}
use Rattle.search.specs.declared.verdict.FirstRefusal.{FirstRefusal}
use Rattle.search.specs.Sends.{counted}

abbrev pub first_refusal : {M : Type 0} → Option FirstRefusal → ℕ → Step M → Option FirstRefusal
first_refusal (Some r) count s = Some r
first_refusal None count (taken t) = None
first_refusal None count (refused n) = Some (record { number = n; line = count })

abbrev pub sink_after : {M : Type 0} → Option FirstRefusal → M → Step M → M
sink_after (Some r) s x = s
sink_after None s (taken t) = t
sink_after None s (refused n) = s

-- no line is made
abbrev pub untold : Tally
untold = record { lines = 0; refused = None }

-- the tally and the sink's state
pub record Feed (M : Type 0) : Type 0 where
  pub tally : Tally
  pub state : M

abbrev pub feed : {M : Type 0} → Tally → M → Feed M
feed t s = record { tally = t; state = s }

module _ {M : Type 0} (step : M → Line → Step M) where
  -- after one line more
  abbrev pub fed : Feed M → Line → Feed M
  fed f l = feed
      (record { lines = counted (f.tally.lines + 1); refused = first_refusal f.tally.refused (counted (f.tally.lines + 1)) (step f.state l) })
      (sink_after f.tally.refused f.state (step f.state l))

  -- after these lines, in order
  abbrev pub fed_all : Feed M → List Line → Feed M
  fed_all f [] = f
  fed_all f (l ∷ ls) = fed_all (fed f l) ls
