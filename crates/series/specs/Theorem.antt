-- What holds of every series of calls on a sheet.
use Rattle.std.specs.Prelude.{◌≡◌, ℕ, ◌≤◌, ◌⊎◌, ◌↔◌, List, [], ◌∷◌, ◌++◌, length, Some, Err}
use Rattle.std.specs.List.{flat_map, AllByRecursion as Each, slice_get}
use Rattle.scales.specs.declared.refusal.Refusal.{Refusal}
use Rattle.scales.specs.declared.refusal.Stop.TheVariants.{AreaTooSmall}
use Rattle.scales.specs.Checks.{Check, check, Passes, Refuses}
use Rattle.scales.specs.Models.{ScaleModel}
use Rattle.scales.specs.Choices.{AllKeep, Choice, OnScales, lasts}
use Rattle.blocks.specs.declared.line.Line.{Line}
use Rattle.blocks.specs.Ranges.{Ranges, In}
use Rattle.blocks.specs.Rules.{admit_checks, rules_checks}
use Rattle.blocks.specs.Sheets.{Sheet}
use Rattle.record.specs.LineBytes.{line_bytes}
use Rattle.search.specs.Search.{found, none}
use Rattle.checker.specs.Courts.{ended}
use Rattle.checker.specs.Findings.{after, JudgesRightly}
use Rattle.series.specs.Hearers.{Hearer}
use Rattle.series.specs.Judging.{Judged}
use Rattle.series.specs.Accepting.{Accepts, AcceptsBytes}
use Rattle.series.specs.Solving.{Area, Told, Searches}
use Rattle.series.specs.Calls.{Rule, Call, post, try, solve, judge, Reply, refused, posted, verdict, accepted, Answer, answer, Does}
use Rattle.series.specs.Series.{History, and, newly_closed, Series, standing}
use Rattle.series.specs.Standing.{sheet_with}
use Rattle.series.specs.Choices.{ChoiceMeetsRule, NoChoice, AllMeet, positions, AllMade}

-- A search that a call carried out: the rules that stood at it, the area and the sink that it was handed, what it told, what
-- its sink was sent, and what it left.
pub record Search : Type 0 where
  pub rules : List Rule
  pub area : Area
  pub sink : Hearer
  pub tells : Told
  pub sent : List Line
  pub left : Area

abbrev pub searched : List Rule → Area → Hearer → Answer → Reply → List Search
searched rs area k a (refused e) = []
searched rs area k a posted = []
searched rs area k a (verdict t) = record { rules = rs; area = area; sink = k; tells = t; sent = a.sent; left = a.left } ∷ []
searched rs area k a accepted = []

-- the searches that a call carried out, where the rules rs stood before it; inside a try its own rule stands last
abbrev pub searches_of : List Rule → Call → Answer → List Search
searches_of rs (post r) a = []
searches_of rs (try r keep area k) a = searched (rs ++ r ∷ []) area k a a.reply
searches_of rs (solve area k) a = searched rs area k a a.reply
searches_of rs (judge area bytes) a = []

-- A search is right.
pub record SearchRight (ms : List ScaleModel) (s : Search) : Type 0 where
  -- it is the one run of the search over the rules; its sink was sent the complete lines in order, up to the first refused
  pub by_search : Searches (sheet_with (lasts ms) s.rules) s.area s.sink s.tells s.sent s.left
  -- it says "none" or "found"
  pub says : (s.tells.says ≡ none) ⊎ ((b : Ranges) × (s.tells.says ≡ found b))
  -- "none" exactly when no choice meets every rule
  pub none_exactly : AllMade ms s.rules → (s.tells.says ≡ none) ↔ NoChoice ms s.rules
  -- "found" with a region in which every choice meets every rule
  pub found_rightly : AllMade ms s.rules → (b : Ranges) → s.tells.says ≡ found b → AllMeet ms s.rules b
  -- the judge with as many slots accepts the complete lines of a "none", and their bytes
  pub accepted_lines : s.tells.says ≡ none → Accepts (sheet_with (lasts ms) s.rules) (length s.area) by_search.lines
  pub accepted_bytes : s.tells.says ≡ none → AcceptsBytes (sheet_with (lasts ms) s.rules) (length s.area) (flat_map line_bytes by_search.lines)

-- A record that was judged over these rules, with m slots.
pub record JudgedRight (ms : List ScaleModel) (rs : List Rule) (m : ℕ) (bytes : List ℕ) (r : Reply) : Type 0 where
  -- it is accepted exactly when it is the bytes of lines that are accepted
  pub accepts : (r ≡ accepted) ↔ ((ls : List Line) × (bytes ≡ flat_map line_bytes ls) × Accepts (sheet_with (lasts ms) rs) m ls)
  -- and never while some choice meets every rule
  pub never : r ≡ accepted → AllMade ms rs → NoChoice ms rs

-- a solve asks for 193 slots
abbrev pub area_checks : Area → List Check
area_checks area = check AreaTooSmall (193 ≤ length area) ∷ []

-- With what a call on a sheet is refused.
abbrev pub RefusedWith : Sheet → Call → Refusal → Type 0
RefusedWith S (post r) e = Refuses (admit_checks S r) e
RefusedWith S (try r keep area k) e = Refuses (admit_checks S r ++ area_checks area) e
RefusedWith S (solve area k) e = Refuses (area_checks area) e
RefusedWith S (judge area bytes) e = (left : Area) × Judged S (length area) bytes (Err e) left

-- what else a reply says
abbrev pub RepliesRightly : List ScaleModel → List Rule → Call → Reply → Type 0
RepliesRightly ms rs (post r) a = (a ≡ posted) ↔ Passes (admit_checks (sheet_with (lasts ms) rs) r)
RepliesRightly ms rs (try r keep area k) a = Unit {0}
RepliesRightly ms rs (solve area k) a = Unit {0}
RepliesRightly ms rs (judge area bytes) a = JudgedRight ms rs (length area) bytes a

-- The call c with the answer a, where the rules rs stood before it.
pub record Right (ms : List ScaleModel) (rs : List Rule) (c : Call) (a : Answer) : Type 0 where
  -- it is refused in just these cases
  pub refuses : (e : Refusal) → (a.reply ≡ refused e) ↔ RefusedWith (sheet_with (lasts ms) rs) c e
  -- each search that it carried out is right
  pub searches : Each (SearchRight ms) (searches_of rs c a)
  pub replies : RepliesRightly ms rs c a.reply

-- The sheet S holds exactly the rules rs, in order.
pub record Held (ms : List ScaleModel) (rs : List Rule) (S : Sheet) : Type 0 where
  pub exactly : S ≡ sheet_with (lasts ms) rs
  pub few : length rs ≤ 48
  -- each by its block: just the choices that break the rule
  pub breaks : (i : ℕ) (r : Rule) (b : Ranges) → slice_get rs i ≡ Some r → slice_get S.rules i ≡ Some b
      → (c : Choice ms) → OnScales ms c → In b (positions ms c) ↔ (¬ ChoiceMeetsRule ms c r)
  -- each bound was made on its setting's scale
  pub made : AllMade ms rs

-- the call c with the answer a was made after the calls `before`, as part of a history
pub data Made (before : History) (c : Call) (a : Answer) : History → Type 0 where
  last_made : Made before c a (and before c a)
  made_earlier : {h : History} {d : Call} {b : Answer} → Made before c a h → Made before c a (and h d b)

-- Settings on any scales that keep the laws, and any series of calls from the newly closed sheet.
pub record SeriesStand (ms : List ScaleModel) : Type 0 where
  -- after every series the sheet holds exactly the standing rules
  pub held : (h : History) (S : Sheet) → Series (lasts ms) h S → Held ms (standing h) S
  -- each call in it was right
  pub right : (h : History) (S : Sheet) → Series (lasts ms) h S → (before : History) (c : Call) (a : Answer) → Made before c a h → Right ms (standing before) c a
  -- each call has an answer, and only one, and leaves one sheet
  pub answered : (h : History) (S : Sheet) → Series (lasts ms) h S → (c : Call) → (a : Answer) × (T : Sheet) × Does S c a T
  pub alike : (h : History) (S : Sheet) → Series (lasts ms) h S → (c : Call) (a b : Answer) (T U : Sheet) → Does S c a T → Does S c b U → (a ≡ b) × (T ≡ U)
  -- opened on any rules that a sheet takes, and whatever lines it is sent, the judge takes or refuses each by its table and
  -- stops alone
  pub by_table : (rs : List Rule) → Passes (rules_checks (newly_closed (lasts ms)) rs) → (m : ℕ) (ls : List Line) → JudgesRightly (sheet_with (lasts ms) rs) m ls
  -- and has never ended while some choice meets the rules
  pub never : (rs : List Rule) → Passes (rules_checks (newly_closed (lasts ms)) rs) → (m : ℕ) (ls : List Line) → (after (sheet_with (lasts ms) rs) m ls).phase ≡ ended → AllMade ms rs → NoChoice ms rs

-- Any series that led to the sheet S goes on by this call to the sheet T, the call is right, and T holds what stands then.
abbrev pub GoesOn : List ScaleModel → Sheet → Call → Answer → Sheet → Type 0
GoesOn ms S c a T = (h : History) → Series (lasts ms) h S → Series (lasts ms) (and h c a) T × Right ms (standing h) c a × Held ms (standing (and h c a)) T

-- What a call promises: the reply r to the call c leaves the area and the sheet T so, its sink was sent these lines, and any
-- series that led to S goes on.
pub record Called {V : Type 0} (models : V → List ScaleModel) (S : Sheet) (c : Call) (r : Reply) (left : Area) (T : Sheet) (heard : List Line → Type 0) : Type 0 where
  pub sent : List Line
  pub hears : heard sent
  pub does : Does S c (answer r sent left) T
  pub series : (s : V) → AllKeep (models s) → GoesOn (models s) S c (answer r sent left) T
