-- Refusals: what each reason is called by number, which layer it belongs to, and where it points.
use Rattle.std.specs.Prelude.{◌≡◌, ℕ, min, List, ◌++◌, Result, MatchResult, ◌≢◌, codes, decimal}
use Rattle.scales.specs.declared.refusal.Stop.{Stop}
use Rattle.scales.specs.declared.refusal.Stop.TheVariants.{OffScale, BadScale, Undeclared, BoundCount, AlwaysMet, BadShape, OutOfDegrees, TextTooLong, UnknownBlock, NotResolvable, NotEverything, SettingsFull, RulesFull, AreaTooSmall, NotAllowed, NoSlotFree, RecordFull, EndMissing, AfterClosing}
use Rattle.scales.specs.declared.refusal.Layer.{Layer}
use Rattle.scales.specs.declared.refusal.Layer.TheVariants.{Scale, Sheet, Search, Judge, Text}
use Rattle.scales.specs.declared.refusal.Refusal.{Refusal}
use Rattle.scales.specs.declared.refusal.UnknownNumber.{UnknownNumber}

-- 1 to 11 stop a call for what it was given, 20 to 27 for the state that it met
abbrev pub number : Stop → ℕ
number OffScale = 1
number BadScale = 2
number Undeclared = 3
number BoundCount = 4
number AlwaysMet = 5
number BadShape = 6
number OutOfDegrees = 7
number TextTooLong = 8
number UnknownBlock = 9
number NotResolvable = 10
number NotEverything = 11
number SettingsFull = 20
number RulesFull = 21
number AreaTooSmall = 22
number NotAllowed = 23
number NoSlotFree = 24
number RecordFull = 25
number EndMissing = 26
number AfterClosing = 27

-- the answer is the reason with this number, or an error with a number that no reason has
abbrev pub Numbered : ℕ → Result Stop UnknownNumber → Type 0
Numbered n answer = MatchResult answer (λ s. number s ≡ n) (λ e. (e.0 ≡ n) × ((s : Stop) → number s ≢ n))

abbrev pub layer : Stop → Layer
layer OffScale = Scale
layer BadScale = Scale
layer Undeclared = Sheet
layer BoundCount = Sheet
layer AlwaysMet = Sheet
layer SettingsFull = Sheet
layer RulesFull = Sheet
layer AreaTooSmall = Search
layer NoSlotFree = Search
layer UnknownBlock = Judge
layer NotResolvable = Judge
layer NotEverything = Judge
layer NotAllowed = Judge
layer RecordFull = Judge
layer EndMissing = Judge
layer BadShape = Text
layer OutOfDegrees = Text
layer TextTooLong = Text
layer AfterClosing = Text

-- the reason in words
abbrev pub reason : Stop → List ℕ
reason OffScale = codes "value or position not on the scale"
reason BadScale = codes "window end off its scale or ends reversed, or a bad grade list"
reason Undeclared = codes "setting not declared"
reason BoundCount = codes "no bound or over four"
reason AlwaysMet = codes "rule met by every profile"
reason BadShape = codes "line of wrong shape or without byte 10"
reason OutOfDegrees = codes "quarter degrees out of range"
reason TextTooLong = codes "text too long"
reason UnknownBlock = codes "block unknown or slot empty"
reason NotResolvable = codes "resolving not allowed"
reason NotEverything = codes "e while the work block is not everything"
reason SettingsFull = codes "twelve settings already"
reason RulesFull = codes "forty-eight rules already"
reason AreaTooSmall = codes "work area under 193 slots"
reason NotAllowed = codes "line not allowed in this state"
reason NoSlotFree = codes "no slot free"
reason RecordFull = codes "record full"
reason EndMissing = codes "record over without e"
reason AfterClosing = codes "setting line after closing"

abbrev pub layer_name : Layer → List ℕ
layer_name Scale = codes "scale"
layer_name Sheet = codes "sheet"
layer_name Search = codes "search"
layer_name Judge = codes "judge"
layer_name Text = codes "text"

-- a refusal at the n-th bound or line, from 1
abbrev pub at_place : Stop → ℕ → Refusal
at_place s n = record { stop = s; place = n }

-- a refusal with nothing to count
abbrev pub no_place : Stop → Refusal
no_place s = at_place s 0

-- a refusal at the n-th line, from 1; the place stops at 99,999
abbrev pub line_place : Stop → ℕ → Refusal
line_place s n = at_place s (min n 99999)

-- a refusal in full, as it is shown
abbrev pub refusal_text : Refusal → List ℕ
refusal_text r = codes "refused, number " ++ (decimal (number r.stop) ++ (codes ", layer " ++ (layer_name (layer r.stop) ++ (codes ", place " ++ (decimal r.place ++ (codes ": " ++ reason r.stop))))))

abbrev pub unknown_text : UnknownNumber → List ℕ
unknown_text e = codes "no reason has the number " ++ decimal e.0
