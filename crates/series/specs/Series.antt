-- A series of calls on one sheet, and the rules that stand after it.
use Rattle.std.specs.Prelude.{ℕ, cond, ◌&&◌, List, [], ◌∷◌, ◌++◌, length, slice_index}
use Rattle.blocks.specs.Sheets.{Sheet}
use Rattle.series.specs.Calls.{Rule, Call, post, try, solve, judge, Reply, Answer, is_posted, is_found, Does}

-- the calls since the sheet was closed, each with its answer, in call order
pub data History : Type 0 where
  closed : History
  and : History → Call → Answer → History

-- the newly closed sheet: settings by their last positions, 0 for one that is not declared, and no rule
abbrev pub newly_closed : List ℕ → Sheet
newly_closed lasts = record { count = length lasts; last = λ i. slice_index lasts i; rules = [] }

-- Each call was made on the sheet that the one before it left, the first on the newly closed sheet.
pub data Series (lasts : List ℕ) : History → Sheet → Type 0 where
  newly : Series lasts closed (newly_closed lasts)
  next : {h : History} {S T : Sheet} {c : Call} {a : Answer} → Series lasts h S → Does S c a T → Series lasts (and h c a) T

-- what a call adds to the standing rules: post the rule that it took, try one that it was told to keep and found a profile
-- with
abbrev pub adds : Call → Reply → List Rule
adds (post r) a = cond (is_posted a) (r ∷ []) []
adds (try r keep area k) a = cond (keep && is_found a) (r ∷ []) []
adds (solve area k) a = []
adds (judge area bytes) a = []

-- the rules that stand, said of calls and replies alone
abbrev pub standing : History → List Rule
standing closed = []
standing (and h c a) = standing h ++ adds c a.reply
