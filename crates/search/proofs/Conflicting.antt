-- A conflict of the program: from a broken block to the end of its analysis.
use Rattle.std.proofs.Common.{◌≡◌, ℕ, suc, ◌+◌, ◌<◌, ◌≤◌, eqb, List, [], ◌∷◌, ◌++◌, length, take, Some, None, Option, sym, refl, ap, ◌∙◌, subst, subst₂, inl, inr, arith}
use Rattle.std.specs.Map.{update}
use Rattle.std.proofs.lemmas.Bool.{cases_lt}
use Rattle.std.proofs.lemmas.List.{length-take-le}
use Rattle.std.proofs.lemmas.Option.{none-some}
use Rattle.rows.specs.Items.{items}
use Rattle.blocks.specs.declared.line.Line.{Line}
use Rattle.blocks.specs.Lines.{t_line, k_line}
use Rattle.blocks.specs.Ranges.{Ranges, Stands}
use Rattle.blocks.specs.Sheets.{Sheet, Proper, block_at}
use Rattle.blocks.specs.Sinks.{Step as SinkStep}
use Rattle.blocks.specs.Slots.{Slot, slot_at}
use Rattle.blocks.specs.Status.{Broken, Forces}
use Rattle.blocks.specs.Views.{ranges}
use Rattle.blocks.proofs.Numbers.{block_at_slot}
use Rattle.blocks.proofs.Ranging.{covers_forces}
use Rattle.search.specs.declared.course.Course.{Course}
use Rattle.search.specs.declared.moves.Ended.{Ended}
use Rattle.search.specs.declared.moves.Ended.TheVariants.{Nothing}
use Rattle.search.specs.Search.{Entry, decided, forced, region, IsReason, FreeSlot, State, learnt, blocks_of, Conflict, Step, learn, run_out, full}
use Rattle.search.specs.Tallies.{Feed, fed, fed_all}
use Rattle.search.specs.Trails.{trail_below, trail_of, KeepsEnds}
use Rattle.search.specs.Courses.{state_of}
use Rattle.search.specs.Analyses.{Ready, Analysed, outcome_of}
use Rattle.search.specs.Moves.{Going, Goes, Stops, Moved, BreaksFirst, Learnt, Keeps, KeepsIn, KeepsNone}
use Rattle.search.proofs.Feeding.{fed_more}
use Rattle.search.proofs.Sound.{Sound, Good, Came, region_stands, steps_good, good_start, conflict_sound}
use Rattle.search.proofs.Slots.{slot_take_past}
use Rattle.search.proofs.Listing.{trail_192}
use Rattle.search.proofs.Trailing.{below_take, keeps_take, length_below}

-- a reason is a block
reason_known : (last : ℕ → ℕ) (blocks : ℕ → Option Ranges) (t : List Entry) (k : ℕ) → Sound last blocks t → IsReason t k → (b : Ranges) × (blocks k ≡ Some b)
reason_known last blocks [] k s r = absurd r
reason_known last blocks (decided β ∷ t) k s r = reason_known last blocks t k s.1 r
reason_known last blocks (forced β j ∷ t) k s (inl e) = (s.2.0, ap blocks (sym e) ∙ s.2.1)
reason_known last blocks (forced β j ∷ t) k s (inr r) = reason_known last blocks t k s.1 r

module _ {M : Type 0} (step : M → Line → SinkStep M) (S : Sheet) (pr : Proper S) (c : Course) (area : List Slot) (going : Going S c area) (k : ℕ) (breaks : BreaksFirst S c area k) where
  m : ℕ
  m = length area

  st : State
  st = state_of c area

  good : Good S (state_of c area)
  good = steps_good S (length area) going.steps (good_start S pr)

  module _ (w : Ranges) (is : Some w ≡ block_at S.rules (slot_at (take c.filled area)) k) where
    pub ready : Ready S (slot_at (take c.filled area)) c.trail (ranges c.region) w
    ready = record {
      room = length area;
      next = c.next;
      lines = going.lines;
      steps = going.steps;
      ends = going.kept.ends;
      left = going.kept.left;
      number = k;
      there = sym is;
      broken = subst (Broken S.last (ranges c.region)) (same breaks.1.1 is) breaks.1.2;
    }
      where
        same : {a b : Ranges} → block_at S.rules (slot_at (take c.filled area)) k ≡ Some a → Some b ≡ block_at S.rules (slot_at (take c.filled area)) k → a ≡ b
        same p q = cc

    module _ (f f₂ : Feed M) (g' w' : Ranges) where
      conflict : (r : Option ℕ) (a : Analysed step S (slot_at (take c.filled area)) c.trail w (fed step f (t_line k)) r g' w' f₂) → Conflict S (length area) (state_of c area) k a.lines (outcome_of c.trail w' r)
      conflict r a = record { first = breaks.0; block = w; there = sym is; broken = subst (λ (g : Ranges). Broken S.last g w) going.kept.left ready.broken; analysed = a.analysis }

      pub stops_over : Analysed step S (slot_at (take c.filled area)) c.trail w (fed step f (t_line k)) None g' w' f₂ → (c₃ : Course) → Stops step S c area f Nothing c₃ area f₂
      stops_over a c₃ = record { lines = t_line k ∷ a.lines; ends = run_out (conflict None a); told = a.told; same = refl }

      module _ (n : ℕ) (a : Analysed step S (slot_at (take c.filled area)) c.trail w (fed step f (t_line k)) (Some n) g' w' f₂) where
        came : Came S (blocks_of S (length area) (state_of c area)) (learnt w' (trail_below (items c.trail.entries) n))
        came = conflict_sound S (length area) (state_of c area) good k a.lines (learnt w' (trail_below (items c.trail.entries) n)) (conflict (Some n) a)

        there : Stands S.last (region S.last (trail_below (items c.trail.entries) n))
        there = region_stands S.last (blocks_of S (length area) (state_of c area)) (trail_below (items c.trail.entries) n) came.2

        filled_reason : (j : ℕ) → IsReason (trail_below (items c.trail.entries) n) (100 + j) → j < c.filled
        filled_reason j r =
            let b = reason_known S.last (blocks_of S (length area) (state_of c area)) (trail_below (items c.trail.entries) n) (100 + j) came.2 r in
            elim (cases_lt j c.filled) [
              | inl l ↦ l
              | inr l ↦ absurd (none-some _ (sym (slot_take_past area c.filled j l) ∙ sym (block_at_slot S.rules (slot_at (take c.filled area)) j) ∙ b.1))
            ]

        -- the course, cut
        module _ (c₂ : Course) (entries : (items c₂.trail.entries) ≡ take n (items c.trail.entries)) (reg : ranges c₂.region ≡ g') (fil : c₂.filled ≡ c.filled) (nex : c₂.next ≡ c.next) where
          inside : n ≤ length (items c.trail.entries)
          inside = let q = a.left.0 in omega arith

          len : length (take n (items c.trail.entries)) ≡ n
          len = length-take-le n (items c.trail.entries) inside

          cut : trail_of c₂.trail ≡ trail_below (items c.trail.entries) n
          cut = (λ i. trail_below (entries i) (length (entries i))) ∙ ap (trail_below (take n (items c.trail.entries))) len ∙ below_take (items c.trail.entries) n n (omega arith) inside

          left : ranges c₂.region ≡ region S.last (trail_of c₂.trail)
          left = reg ∙ a.left.1 ∙ sym (ap (region S.last) cut)

          pub learnt_here : Learnt S w' c₂ area
          learnt_here =
              let kp = going.kept in
              let here = reg ∙ a.left.1 in
              record {
                kept = record {
                  ends = subst (KeepsEnds S.last) (sym entries) (keeps_take S.last (items c.trail.entries) n inside kp.ends);
                  left = left;
                  room = kp.room;
                  filled = subst (λ (x : ℕ). x ≤ length area) (sym fil) kp.filled;
                  next = let q = kp.next in omega arith;
                  full = λ j l. kp.full j (omega arith);
                };
                forces = (came.3.0, subst (λ (g : Ranges). Forces S.last g w' came.3.0) (sym here) (covers_forces S.last (region S.last (trail_below (items c.trail.entries) n)) there w' came.3.0 came.3.1 came.3.2));
                stands = (came.0, subst (Stands S.last) (sym here) there);
                short = let q = a.left.0 in omega (arith, trail_192 S pr (length area) going.steps, length_below (items c.trail.entries) (length (items c.trail.entries)), ap length entries, len);
                reasons = λ j r. let h = filled_reason j (subst (λ (t : List Entry). IsReason t (100 + j)) cut r) in omega arith;
              }

          -- what keeping the work block makes of it
          moved : (c₃ : Course) (area₃ : List Slot) (f₃ : Feed M) (kin : KeepsIn step S w' c₂ area f₂ c₃ area₃ f₃) → ◌≡◌ {A = State} (record { trail = forced kin.bound (100 + kin.slot) ∷ trail_below (items c.trail.entries) n; slots = update eqb (slot_at (take c.filled area)) kin.slot (Some w'); next = suc kin.slot }) (state_of c₃ area₃)
          moved c₃ area₃ f₃ kin =
              let e = kin.trail ∙ ap (λ (t : List Entry). forced kin.bound (100 + kin.slot) ∷ t) cut in
              let d = kin.slots ∙ ap (λ (x : ℕ). update eqb (slot_at (take x area)) kin.slot (Some w')) fil in
              sym (λ i. record { trail = e i; slots = d i; next = kin.next i })

          lines_told : (j : ℕ) (f₃ : Feed M) → f₃ ≡ fed step f₂ (k_line (100 + j)) → f₃ ≡ fed_all step f (t_line k ∷ (a.lines ++ k_line (100 + j) ∷ []))
          lines_told j f₃ e = e ∙ ap (λ (x : Feed M). fed step x (k_line (100 + j))) a.told ∙ sym (fed_more step (fed step f (t_line k)) a.lines (k_line (100 + j) ∷ []))

          goes_learn : (c₃ : Course) (area₃ : List Slot) (f₃ : Feed M) → KeepsIn step S w' c₂ area f₂ c₃ area₃ f₃ → Goes step S c area f c₃ area₃ f₃
          goes_learn c₃ area₃ f₃ kin = record {
            kept = kin.kept;
            lines = t_line k ∷ (a.lines ++ k_line (100 + kin.slot) ∷ []);
            moves = subst (Step S (length area) (state_of c area) (t_line k ∷ (a.lines ++ k_line (100 + kin.slot) ∷ []))) (moved c₃ area₃ f₃ kin)
                (learn (conflict (Some n) a) (subst₂ (λ (x : ℕ) (t : List Entry). FreeSlot (length area) x t kin.slot) nex cut kin.free) (subst (λ (g : Ranges). Forces S.last g w' kin.bound) (reg ∙ a.left.1) kin.forces));
            told = lines_told kin.slot f₃ kin.told;
            whole = kin.whole;
            more = let q = kin.more in omega arith;
            untouched = kin.untouched;
          }

          stops_full : (e : Ended) (c₃ : Course) (area₃ : List Slot) (f₃ : Feed M) → KeepsNone c₂ area f₂ e area₃ f₃ → Stops step S c area f e c₃ area₃ f₃
          stops_full e c₃ area₃ f₃ none = subst (λ (x : Ended). Stops step S c area f x c₃ area₃ f₃) (sym none.is) (record {
            lines = t_line k ∷ a.lines;
            ends = full (conflict (Some n) a) (λ j l. subst (λ (t : List Entry). IsReason t (100 + j)) cut (none.reasons j l));
            told = none.told ∙ a.told;
            same = none.same;
          })

          -- so, whichever came of keeping it
          pub moved_by : (r : Option Ended) (c₃ : Course) (area₃ : List Slot) (f₃ : Feed M) → Keeps step S w' c₂ area f₂ r c₃ area₃ f₃ → Moved step S c area f r c₃ area₃ f₃
          moved_by None c₃ area₃ f₃ k = goes_learn c₃ area₃ f₃ k
          moved_by (Some e) c₃ area₃ f₃ k = stops_full e c₃ area₃ f₃ k
