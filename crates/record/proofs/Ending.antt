-- A record is read in one way only.
use Rattle.std.proofs.Common.{◌≡◌, ℕ, suc, ◌+◌, List, [], ◌∷◌, ◌++◌, length, take, drop, Ok, Err, Result, sym, refl, ap, ◌∙◌, subst, arith}
use Rattle.std.specs.List.{flat_map}
use Rattle.std.proofs.lemmas.List.{append_assoc, append-nil, length-append, take_at, drop_at}
use Rattle.blocks.specs.declared.line.Line.{Line}
use Rattle.blocks.specs.Sinks.{Step, taken, refused, next_of, state_after}
use Rattle.record.specs.declared.halt.Cause.{Cause}
use Rattle.record.specs.declared.halt.Cause.TheVariants.{Shape, Sink}
use Rattle.record.specs.declared.halt.Halt.{Halt}
use Rattle.record.specs.LineBytes.{line_bytes}
use Rattle.record.specs.Halts.{halt_at}
use Rattle.record.specs.Readings.{TakesAll, StopsAt, Ends, Reads}
use Rattle.record.specs.Laws.{ReadingStands}
use Rattle.record.proofs.Lettered.{line_length, same_line}

-- a text begins with one line at most
pub one_first : (l m : Line) (xs ys : List ℕ) → line_bytes l ++ xs ≡ line_bytes m ++ ys → (l ≡ m) × (xs ≡ ys)
one_first l m xs ys e = (
  same_line l m (sym (take_at (line_bytes l) xs 10 (line_length l)) ∙ ap (take 10) e ∙ take_at (line_bytes m) ys 10 (line_length m)),
  sym (drop_at (line_bytes l) xs 10 (line_length l)) ∙ ap (drop 10) e ∙ drop_at (line_bytes m) ys 10 (line_length m),
)

-- nothing is over, and nothing refused, where a line comes that the sink takes
goes_on : {M : Type 0} (step : M → Line → Step M) (s t : M) (l : Line) (rest behind : List ℕ) (n : ℕ) (r : Result ℕ Halt) → rest ≡ line_bytes l ++ behind → step s l ≡ taken t → Ends step s rest n r → ⊥
goes_on step s t l rest behind n (Ok k) e f end =
    let a = ap length (sym end.0 ∙ e) in
    let b = length-append (line_bytes l) behind in
    let d = line_length l in
    omega arith
goes_on step s t l rest behind n (Err h) e f end = stop h.cause end.0
  where
    stop : (c : Cause) → StopsAt step s rest c → ⊥
    stop Shape w = w.1 l behind e
    stop (Sink k) w =
        let same = (one_first w.0 l w.1 behind (sym w.2 ∙ e)).0 in
        let both : taken t ≡ refused k = sym f ∙ ap (step s) (sym same) ∙ w.3 in
        cc

one_cause : {M : Type 0} (step : M → Line → Step M) (s : M) (rest : List ℕ) (c d : Cause) → StopsAt step s rest c → StopsAt step s rest d → c ≡ d
one_cause step s rest Shape Shape v w = refl
one_cause step s rest Shape (Sink k) v w = absurd (v.1 w.0 w.1 w.2)
one_cause step s rest (Sink k) Shape v w = absurd (w.1 v.0 v.1 v.2)
one_cause step s rest (Sink k) (Sink j) v w =
    let same = (one_first v.0 w.0 v.1 w.1 (sym v.2 ∙ w.2)).0 in
    let both : refused k ≡ refused j = sym v.3 ∙ ap (step s) same ∙ w.3 in
    cc

over_or_stops : {M : Type 0} (step : M → Line → Step M) (s : M) (rest : List ℕ) (c : Cause) → rest ≡ [] → StopsAt step s rest c → ⊥
over_or_stops step s rest Shape e w = let z = ap length e in omega (arith, w.0)
over_or_stops step s rest (Sink k) e w =
    let a = ap length (sym e ∙ w.2) in
    let b = length-append (line_bytes w.0) w.1 in
    let d = line_length w.0 in
    omega arith

one_end_here : {M : Type 0} (step : M → Line → Step M) (s : M) (rest : List ℕ) (n : ℕ) (q r : Result ℕ Halt) → Ends step s rest n q → Ends step s rest n r → q ≡ r
one_end_here step s rest n (Ok j) (Ok k) v w = ap Ok (v.1 ∙ sym w.1)
one_end_here step s rest n (Ok j) (Err h) v w = absurd (over_or_stops step s rest h.cause v.0 w.0)
one_end_here step s rest n (Err h) (Ok k) v w = absurd (over_or_stops step s rest h.cause w.0 v.0)
one_end_here step s rest n (Err h) (Err g) v w =
    ap Err (v.1 ∙ ap (λ c. halt_at c (n + 1)) (one_cause step s rest h.cause g.cause v.0 w.0) ∙ sym w.1)

takes_rest : {M : Type 0} (step : M → Line → Step M) (s : M) (l : Line) (ls : List Line) → TakesAll step s (l ∷ ls) → TakesAll step (next_of s (step s l)) ls
takes_rest step s l ls a = subst (λ t. TakesAll step t ls) (sym (ap (next_of s) a.1)) a.2

ends : {M : Type 0} (step : M → Line → Step M) (s : M) (text : List ℕ) (r : Result ℕ Halt) (t : M) (v : Reads step s text r t)
    → Ends step (state_after step s v.lines) v.rest (0 + length v.lines) r
ends step s text r t v =
    let n : length v.lines ≡ 0 + length v.lines = omega arith in
    subst (λ k. Ends step (state_after step s v.lines) v.rest k r) n (subst (λ u. Ends step u v.rest (length v.lines) r) v.state v.ends)

-- the same of what stands behind two lists of lines that a text begins with
one_end_behind : {M : Type 0} (step : M → Line → Step M) (s : M) (ls ms : List Line) (xs ys : List ℕ) (n : ℕ) (q r : Result ℕ Halt)
    → flat_map line_bytes ls ++ xs ≡ flat_map line_bytes ms ++ ys → TakesAll step s ls → TakesAll step s ms
    → Ends step (state_after step s ls) xs (n + length ls) q → Ends step (state_after step s ms) ys (n + length ms) r
    → (q ≡ r) × (state_after step s ls ≡ state_after step s ms)
one_end_behind step s [] [] xs ys n q r e a b v w = (one_end_here step s ys (n + 0) q r (subst (λ zs. Ends step s zs (n + 0) q) e v) w, refl)
one_end_behind step s [] (m ∷ ms) xs ys n q r e a b v w =
    absurd (goes_on step s b.0 m xs (flat_map line_bytes ms ++ ys) (n + 0) q (e ∙ append_assoc (line_bytes m) (flat_map line_bytes ms) ys) b.1 v)
one_end_behind step s (l ∷ ls) [] xs ys n q r e a b v w =
    absurd (goes_on step s a.0 l ys (flat_map line_bytes ls ++ xs) (n + 0) r (sym e ∙ append_assoc (line_bytes l) (flat_map line_bytes ls) xs) a.1 w)
one_end_behind step s (l ∷ ls) (m ∷ ms) xs ys n q r e a b v w =
    let first = one_first l m (flat_map line_bytes ls ++ xs) (flat_map line_bytes ms ++ ys)
    (sym (append_assoc (line_bytes l) (flat_map line_bytes ls) xs) ∙ e ∙ append_assoc (line_bytes m) (flat_map line_bytes ms) ys) in
    let back = sym first.0 in
    let c : n + length (l ∷ ls) ≡ suc n + length ls = omega arith in
    let d : n + length (m ∷ ms) ≡ suc n + length ms = omega arith in
    let t = next_of s (step s l) in
    let next = one_end_behind step t ls ms xs ys (suc n) q r first.1 (takes_rest step s l ls a) (takes_rest step s l ms (subst (λ k. TakesAll step s (k ∷ ms)) back b))
    (subst (λ k. Ends step (state_after step t ls) xs k q) c v)
    (subst (λ k. Ends step (state_after step s (k ∷ ms)) ys (suc n + length ms) r) back (subst (λ k. Ends step (state_after step s (m ∷ ms)) ys k r) d w)) in
    (next.0, next.1 ∙ ap (λ k. state_after step s (k ∷ ms)) first.0)

pub reading_stands : {M : Type 0} (step : M → Line → Step M) → ReadingStands step
reading_stands step = record {
  one_end = λ s text q r t u v w.
      let same = one_end_behind step s v.lines w.lines v.rest w.rest 0 q r (sym v.begins ∙ w.begins) v.taken_all w.taken_all (ends step s text q t v) (ends step s text r u w) in
      (same.0, v.state ∙ same.1 ∙ sym w.state);
  whole = λ s ls a. record { lines = ls; rest = []; begins = sym (append-nil (flat_map line_bytes ls)); taken_all = a; state = refl; ends = (refl, refl) };
}
