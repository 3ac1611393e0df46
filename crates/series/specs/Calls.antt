-- The calls on a closed sheet, what they answer, and what one call does.
use Rattle.std.specs.Prelude.{ℕ, Bool, true, false, cond, ◌&&◌, List, [], length, Ok, Err, Result}
use Rattle.scales.specs.declared.refusal.Refusal.{Refusal}
use Rattle.scales.specs.Checks.{Passes, Refuses}
use Rattle.blocks.specs.declared.bound.Bound.{Bound}
use Rattle.blocks.specs.declared.line.Line.{Line}
use Rattle.blocks.specs.Rules.{admit_checks, with_rule}
use Rattle.blocks.specs.Sheets.{Sheet}
use Rattle.search.specs.Search.{Verdict, found, none, no_slot}
use Rattle.series.specs.Hearers.{Hearer}
use Rattle.series.specs.Judging.{Judged}
use Rattle.series.specs.Solving.{Area, Told, Solves}

-- a rule: its bounds
abbrev pub Rule : Type 0
Rule = List Bound

-- Each call brings what it is handed: a rule, a mark to keep it, a work area, a sink, the bytes of a record.
pub data Call : Type 0 where
  post : Rule → Call
  try : Rule → (keep : Bool) → Area → Hearer → Call
  solve : Area → Hearer → Call
  judge : Area → (bytes : List ℕ) → Call

pub data Reply : Type 0 where
  refused : Refusal → Reply
  posted : Reply
  verdict : Told → Reply
  accepted : Reply

-- the reply, the lines that the call's sink was sent, and what its work area holds then; no line and no slot where the call
-- brought none
pub record Answer : Type 0 where
  pub reply : Reply
  pub sent : List Line
  pub left : Area

abbrev pub answer : Reply → List Line → Area → Answer
answer r sent left = record { reply = r; sent = sent; left = left }

-- the replies of post, of solve and try, and of judge
abbrev pub of_post : Result (Unit {0}) Refusal → Reply
of_post (Ok u) = posted
of_post (Err e) = refused e

abbrev pub of_solve : Result Told Refusal → Reply
of_solve (Ok t) = verdict t
of_solve (Err e) = refused e

abbrev pub of_judge : Result (Unit {0}) Refusal → Reply
of_judge (Ok u) = accepted
of_judge (Err e) = refused e

abbrev pub is_posted : Reply → Bool
is_posted (refused e) = false
is_posted posted = true
is_posted (verdict t) = false
is_posted accepted = false

abbrev pub says_found : Verdict → Bool
says_found (found b) = true
says_found none = false
says_found no_slot = false

abbrev pub is_found : Reply → Bool
is_found (refused e) = false
is_found posted = false
is_found (verdict t) = says_found t.says
is_found accepted = false

-- What a call on the sheet S answers, and the sheet that it leaves.
pub data Does (S : Sheet) : Call → Answer → Sheet → Type 0 where
  -- a rule is taken, and stands behind the others
  posts : {r : Rule} → Passes (admit_checks S r) → Does S (post r) (answer posted [] []) (with_rule S r)
  post_refused : {r : Rule} {e : Refusal} → Refuses (admit_checks S r) e → Does S (post r) (answer (refused e) [] []) S
  -- a rule is tried: the search goes over the sheet with the rule, which stays where it is to be kept and a profile is found
  tries : {r : Rule} {keep : Bool} {area left : Area} {k : Hearer} {x : Result Told Refusal} {sent : List Line} → Passes (admit_checks S r) → Solves (with_rule S r) area k x sent left
      → Does S (try r keep area k) (answer (of_solve x) sent left) (cond (keep && is_found (of_solve x)) (with_rule S r) S)
  try_refused : {r : Rule} {keep : Bool} {area : Area} {k : Hearer} {e : Refusal} → Refuses (admit_checks S r) e → Does S (try r keep area k) (answer (refused e) [] area) S
  -- the search goes over the sheet as it stands
  solves : {area left : Area} {k : Hearer} {x : Result Told Refusal} {sent : List Line} → Solves S area k x sent left → Does S (solve area k) (answer (of_solve x) sent left) S
  -- a record is judged over the sheet as it stands
  judges : {area left : Area} {bytes : List ℕ} {x : Result (Unit {0}) Refusal} → Judged S (length area) bytes x left → Does S (judge area bytes) (answer (of_judge x) [] left) S

-- A call with its reply, where its sink was sent lines of which this holds.
pub record Done (S : Sheet) (c : Call) (r : Reply) (left : Area) (T : Sheet) (heard : List Line → Type 0) : Type 0 where
  pub sent : List Line
  pub hears : heard sent
  pub does : Does S c (answer r sent left) T
