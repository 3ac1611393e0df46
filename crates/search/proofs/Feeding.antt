-- What a sink is sent, line by line.
use Rattle.std.proofs.Common.{◌≡◌, ℕ, suc, ◌+◌, List, [], ◌∷◌, ◌++◌, length, Some, None, Option, sym, refl, ap, ◌∙◌, subst, append_assoc, append-nil, arith, length-append}
use Rattle.blocks.specs.declared.line.Line.{Line}
use Rattle.blocks.specs.Sinks.{Step, taken, refused}
use Rattle.search.specs.declared.verdict.FirstRefusal.{FirstRefusal}
use Rattle.search.specs.Sends.{counted, takes_none, takes_more, Sends, all_taken, refused_at}
use Rattle.search.specs.Tallies.{first_refusal, sink_after, Feed, feed, fed, fed_all}

module _ {M : Type 0} (step : M → Line → Step M) where
  pub fed_more : (f : Feed M) (ls ks : List Line) → fed_all step f (ls ++ ks) ≡ fed_all step (fed_all step f ls) ks
  fed_more f [] ks = refl
  fed_more f (l ∷ ls) ks = fed_more (fed step f l) ls ks

  -- a feed that has been sent these lines
  pub record Told (s : M) (lines : List Line) (f : Feed M) : Type 0 where
    pub count : f.tally.lines ≡ counted (length lines)
    pub sent : List Line
    pub sends : Sends step s lines sent f.tally.refused f.state

  pub told_none : (s : M) → Told s [] (feed (record { lines = 0; refused = None }) s)
  told_none s = record { count = refl; sent = []; sends = all_taken takes_none }

  one_longer : (ls : List Line) (l : Line) → counted (counted (length ls) + 1) ≡ counted (length (ls ++ l ∷ []))
  one_longer ls l = omega (arith, length-append ls (l ∷ []))

  -- the next line, by what was refused before and by the sink's answer
  next : (s : M) (lines : List Line) (l : Line) (count : ℕ) (r : Option FirstRefusal) (t : M) (sent : List Line) → count ≡ counted (length lines) → Sends step s lines sent r t
      → (x : Step M) → step t l ≡ x → (ss : List Line) × Sends step s (lines ++ l ∷ []) ss (first_refusal r (counted (count + 1)) x) (sink_after r t x)
  next s lines l count r t sent c (all_taken k) (taken u) e = (lines ++ l ∷ [], all_taken (takes_more k e))
  next s lines l count r t sent c (all_taken k) (refused n) e =
      let q : counted (count + 1) ≡ counted (suc (length lines)) = omega arith in
      (lines ++ l ∷ [], subst (λ (m : ℕ). Sends step s (lines ++ l ∷ []) (lines ++ l ∷ []) (Some (record { number = n; line = m })) t) (sym q) (refused_at [] refl k e))
  next s lines l count r t sent c (refused_at {ts = ts} {l = j} us is k e) x d =
      (ts ++ j ∷ [], refused_at (us ++ l ∷ []) (ap (λ (ys : List Line). ys ++ l ∷ []) is ∙ append_assoc ts (j ∷ us) (l ∷ [])) k e)

  pub told_more : (s : M) (lines : List Line) (f : Feed M) (l : Line) → Told s lines f → Told s (lines ++ l ∷ []) (fed step f l)
  told_more s lines f l t =
      let n = next s lines l f.tally.lines f.tally.refused f.state t.sent t.count t.sends (step f.state l) refl in
      record { count = ap (λ (m : ℕ). counted (m + 1)) t.count ∙ one_longer lines l; sent = n.0; sends = n.1 }

  pub told_all : (s : M) (lines ls : List Line) (f : Feed M) → Told s lines f → Told s (lines ++ ls) (fed_all step f ls)
  told_all s lines [] f t = subst (λ (ys : List Line). Told s ys f) (sym (append-nil lines)) t
  told_all s lines (l ∷ ls) f t =
      subst (λ (ys : List Line). Told s ys (fed_all step (fed step f l) ls)) (append_assoc lines (l ∷ []) ls) (told_all s (lines ++ l ∷ []) ls (fed step f l) (told_more s lines f l t))
