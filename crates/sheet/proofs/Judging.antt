-- A record that is judged: what the reading and the finding say, as one judgement. What the area holds at the end is what the
-- judge left in it.
use Rattle.std.proofs.Common.{◌≡◌, ℕ, ◌+◌, min, List, [], ◌∷◌, length, Ok, Err, Option, Result, sym, refl, ap, ap₂, ◌∙◌, subst, inl, inr, arith}
use lib.ListN.{length-map}
use Rattle.scales.specs.declared.refusal.Refusal.{Refusal}
use Rattle.scales.specs.declared.refusal.Stop.{Stop}
use Rattle.scales.specs.declared.refusal.Stop.TheVariants.{BadShape}
use Rattle.scales.specs.Stops.{number, line_place}
use Rattle.scales.specs.Checks.{Refuses, Outcome}
use Rattle.blocks.specs.declared.line.Line.{Line}
use Rattle.blocks.specs.Ranges.{Ranges}
use Rattle.blocks.specs.Sheets.{Sheet}
use Rattle.blocks.specs.Slots.{Slot, slot_holds, holdings}
use Rattle.blocks.specs.Sinks.{refused, result_of, next_of}
use Rattle.record.specs.declared.halt.Cause.{Cause}
use Rattle.record.specs.declared.halt.Cause.TheVariants.{Shape, Sink}
use Rattle.record.specs.declared.halt.Halt.{Halt}
use Rattle.record.specs.Halts.{cause_number, halt_at}
use Rattle.record.specs.Readings.{TakesAll, StopsAt, Reads}
use Rattle.checker.specs.Courts.{Court, opened, finding_checks}
use Rattle.checker.specs.Findings.{after, one_if_taken, lines_taken, JudgesRightly}
use Rattle.checker.specs.Hearing.{line_checks, Takes}
use Rattle.checker.specs.Steps.{step}
use Rattle.series.specs.Calls.{judge, answer, of_judge, Does, judges}
use Rattle.series.specs.Judging.{Judgement, accepted, over, no_line, line_refused}
use Rattle.sheet.specs.Halts.{Known, ToldInFull}
use Rattle.scales.proofs.Numbering.{same_stop}

-- lines that are all taken are counted
taken_counted : (c : Court) (ls : List Line) → TakesAll step c ls → lines_taken c ls ≡ length ls
taken_counted c [] t = refl
taken_counted c (l ∷ ls) t =
    let one : one_if_taken (step c l) ≡ 1 = ap one_if_taken t.1 in
    let on : next_of c (step c l) ≡ t.0 = ap (next_of c) t.1 in
    let rest = ap (λ (d : Court). lines_taken d ls) on ∙ taken_counted t.0 ls t.2 in
    omega arith

-- a refusal of a line is at the judge's next line
at_its_line : (c : Court) (l : Line) (e : Refusal) → Refuses (line_checks c l) e → e ≡ line_place e.stop c.line
at_its_line c l e (inl r) = rw r.1 refl
at_its_line c l e (inr (_, inl r)) = rw r.1 refl
at_its_line c l e (inr (_, inr (_, inl r))) = rw r.1 refl
at_its_line c l e (inr (_, inr (_, inr (_, inl r)))) = rw r.1 refl
at_its_line c l e (inr (_, inr (_, inr (_, inr (_, inl r))))) = rw r.1 refl
at_its_line c l e (inr (_, inr (_, inr (_, inr (_, inr r))))) = absurd r.1

-- a judge opened on T, which is the sheet S, with these slots
module _ {S T : Sheet} (same_sheet : T ≡ S) (slots : List Slot) (bytes : List ℕ) (opening : (ls : List Line) → JudgesRightly T (length slots) ls) {c : Court} (opened_so : c ≡ opened T (length slots)) where
  abbrev area : List (Option Ranges)
  area = holdings slots

  size : length area ≡ length slots
  size = length-map slots slot_holds

  rightly : (ls : List Line) → JudgesRightly S (length area) ls
  rightly ls = rw size (subst (λ (R : Sheet). JudgesRightly R (length slots) ls) same_sheet (opening ls))

  abbrev first : Court
  first = opened S (length area)

  -- what a judge that was sent these lines makes of a line that it refuses
  refuses : (ls : List Line) (l : Line) (n : ℕ) → step (after S (length area) ls) l ≡ refused n → (e : Refusal) × (n ≡ number e.stop) × Refuses (line_checks (after S (length area) ls) l) e
  refuses ls l n is =
      let c = after S (length area) ls in
      let t = subst (λ s. Takes c l (result_of s) (next_of c s)) is ((rightly ls).lawful l).takes in
      (t.0, t.1, t.2.0)

  -- a reason by its number is the one that the refusal has
  known_by : (cause : Cause) (ls : List Line) (rest : List ℕ) → StopsAt step (after S (length area) ls) rest cause → (s : Stop) × (number s ≡ cause_number cause)
  known_by Shape ls rest h = (BadShape, refl)
  known_by (Sink n) ls rest h = let r = refuses ls h.0 n h.3 in (r.0.stop, sym r.1)

  -- the reading began with the judge just opened, and ended so
  begun : {d : Court} {x y : Result ℕ Halt} → x ≡ y → Reads step c bytes x d → Reads step first bytes y d
  begun {d} {x} is r =
      let o : c ≡ first = opened_so ∙ ap₂ opened same_sheet (sym size) in
      subst (λ (y : Result ℕ Halt). Reads step first bytes y d) is (subst (λ (b : Court). Reads step b bytes x d) o r)

  pub halts_known : (d : Court) (x : Result ℕ Halt) (h : Halt) → Reads step c bytes x d → x ≡ Err h → Known h
  halts_known d x h r is =
      let q = begun is r in
      known_by h.cause q.lines q.rest (subst (λ (b : Court). StopsAt step b q.rest h.cause) q.state q.ends.0)

  finding : (b : Court) (rest : List ℕ) (f : Result (Unit {0}) Refusal) → rest ≡ [] → Outcome (finding_checks b.phase b.line) (λ _. Unit {0}) f → Judgement b rest f
  finding b rest (Ok u) nil o = accepted nil o.0.0
  finding b rest (Err e) nil (inl o) = rw o.1 (over nil o.0)
  finding b rest (Err e) nil (inr o) = absurd o.1

  pub found_judged : (d : Court) (x : Result ℕ Halt) (k : ℕ) (f : Result (Unit {0}) Refusal) (left end : List Slot) → Reads step c bytes x d → x ≡ Ok k
      → Outcome (finding_checks d.phase d.line) (λ _. Unit {0}) f → left ≡ end → holdings end ≡ d.slots → Does S (judge area bytes) (answer (of_judge f) [] (holdings left)) S
  found_judged d x k f left end r is found same e =
      let q = begun is r in
      judges (record {
        lines = q.lines;
        rest = q.rest;
        begins = q.begins;
        takes = q.taken_all;
        finds = finding (after S (length area) q.lines) q.rest f q.ends.0 (subst (λ (b : Court). Outcome (finding_checks b.phase b.line) (λ _. Unit {0}) f) q.state found);
        left_in = ap holdings same ∙ e ∙ ap (λ (b : Court). b.slots) q.state;
      })

  -- the line that is refused is the judge's next
  same_line : (ls : List Line) (h : Halt) → TakesAll step first ls → h ≡ halt_at h.cause (length ls + 1) → h.line ≡ (after S (length area) ls).line
  same_line ls h t is =
      let line : h.line ≡ min (length ls + 1) 99999 = ap (λ (g : Halt). g.line) is in
      let numbered = (rightly ls).numbered in
      let counted = taken_counted first ls t in
      omega arith

  halting : (cause : Cause) (ls : List Line) (rest : List ℕ) (line : ℕ) (s : Stop) (e : Refusal) → line ≡ (after S (length area) ls).line → StopsAt step (after S (length area) ls) rest cause
      → number s ≡ cause_number cause → e ≡ line_place s line → Judgement (after S (length area) ls) rest (Err e)
  halting Shape ls rest line s e at h is told = rw (told, same_stop s BadShape is, at) (no_line h.0 h.1)
  halting (Sink n) ls rest line s e at h is told =
      let b = after S (length area) ls in
      let r = refuses ls h.0 n h.3 in
      let same : e ≡ r.0 = told ∙ ap (λ (t : Stop). line_place t line) (same_stop s r.0.stop (is ∙ r.1)) ∙ ap (line_place r.0.stop) at ∙ sym (at_its_line b h.0 r.0 r.2) in
      line_refused h.0 h.1 h.2 (subst (Refuses (line_checks b h.0)) (sym same) r.2)

  pub halted_judged : (d : Court) (x : Result ℕ Halt) (h : Halt) (e : Refusal) (left end : List Slot) → Reads step c bytes x d → x ≡ Err h
      → ToldInFull h e → left ≡ end → holdings end ≡ d.slots → Does S (judge area bytes) (answer (of_judge (Err e)) [] (holdings left)) S
  halted_judged d x h e left end r is told same l =
      let q = begun is r in
      judges (record {
        lines = q.lines;
        rest = q.rest;
        begins = q.begins;
        takes = q.taken_all;
        finds = halting h.cause q.lines q.rest h.line told.0 e (same_line q.lines h q.taken_all q.ends.1) (subst (λ (b : Court). StopsAt step b q.rest h.cause) q.state q.ends.0) told.1 told.2;
        left_in = ap holdings same ∙ l ∙ ap (λ (b : Court). b.slots) q.state;
      })
