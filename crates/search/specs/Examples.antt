-- Worked searches, over the definitions that the calls' contracts cite.
use Rattle.std.specs.Prelude.{◌≡◌, List, [], length, Ok, Err, Result}
use Rattle.scales.specs.declared.refusal.Refusal.{Refusal}
use Rattle.scales.specs.declared.refusal.Stop.TheVariants.{AreaTooSmall}
use Rattle.scales.specs.Stops.{number, no_place}
use Rattle.blocks.specs.declared.line.Line.{Line}
use Rattle.blocks.specs.Meeting.{two_settings, four_rules, four_grounds}
use Rattle.blocks.specs.Ranges.{everything}
use Rattle.blocks.specs.Rules.{with_rules}
use Rattle.blocks.specs.Slots.{Slot}
use Rattle.blocks.specs.Sheets.{Sheet, Proper}
use Rattle.blocks.specs.Sinks.{Step}
use Rattle.search.specs.declared.verdict.Verdict.{Verdict as Answered}
use Rattle.search.specs.Search.{State, cold, found, none, Run}
use Rattle.search.specs.Solve.{Solved}

-- no settings, no rules
abbrev pub nothing : Sheet
nothing = record { count = 0; last = λ _. 0; rules = [] }

pub record WorkedSearches : Type 0 where
  -- the four rules give "none", by these seven lines
  pub four : (end : State) × Run (with_rules two_settings four_rules) 193 cold four_grounds none end
  -- with nothing to meet, everything is found, without a line
  pub empty : (end : State) × Run nothing 193 cold [] (found (everything (λ _. 0))) end

-- 192 slots are too few, which is reason 22; 193 serve
pub record SlotsAsked {M : Type 0} (step : M → Line → Step M) : Type 0 where
  pub too_few : (S : Sheet) (before after : List Slot) (from to : M) (r : Result Answered Refusal)
      → length before ≡ 192 → Solved step S before after from to r → (r ≡ Err (no_place AreaTooSmall)) × (number AreaTooSmall ≡ 22)
  pub enough : (S : Sheet) (before after : List Slot) (from to : M) (r : Result Answered Refusal)
      → Proper S → length before ≡ 193 → Solved step S before after from to r → (v : Answered) × (r ≡ Ok v)
