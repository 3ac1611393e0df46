-- A search of the program, from a cold start to its end.
use Rattle.std.proofs.Common.{◌≡◌, ℕ, ◌<◌, ◌≤◌, List, [], ◌++◌, length, take, Some, None, Option, sym, refl, ap, ◌∙◌, subst, inl, inr, arith, MatchOption}
use Rattle.std.specs.List.{slice_get}
use Rattle.std.proofs.lemmas.Bool.{cases_lt}
use Rattle.rows.specs.Items.{items}
use Rattle.blocks.specs.declared.line.Line.{Line}
use Rattle.blocks.specs.Ranges.{Ranges, everything}
use Rattle.blocks.specs.Sheets.{Sheet, Proper}
use Rattle.blocks.specs.Sinks.{Step as SinkStep}
use Rattle.blocks.specs.Slots.{Slot, slot_at}
use Rattle.blocks.specs.Views.{ranges}
use Rattle.search.specs.declared.course.Course.{Course}
use Rattle.search.specs.declared.moves.Ended.{Ended}
use Rattle.search.specs.declared.trail.TrailEntry.{TrailEntry}
use Rattle.search.specs.Search.{cold, region, Steps, here, on, Run}
use Rattle.search.specs.Tallies.{Feed, fed_all}
use Rattle.search.specs.Trails.{trail_below}
use Rattle.search.specs.Courses.{state_of}
use Rattle.search.specs.Moves.{Going, Goes, Stops, verdict_at}
use Rattle.search.specs.Solve.{Ran}
use Rattle.search.proofs.Ends.{left}
use Rattle.search.proofs.Feeding.{fed_more}
use Rattle.search.proofs.Slots.{slot_take, slot_take_past}
use Rattle.search.proofs.Listing.{falls_192}

module _ {M : Type 0} (step : M → Line → SinkStep M) (S : Sheet) (pr : Proper S) (area₀ : List Slot) (f₀ : Feed M) where
  -- the search has come here, and its lines are told
  pub record UnderWay (c : Course) (area : List Slot) (f : Feed M) : Type 0 where
    pub going : Going S c area
    pub told : f ≡ fed_all step f₀ going.lines
    pub whole : length area ≡ length area₀
    pub untouched : (j : ℕ) → c.filled ≤ j → slice_get area j ≡ slice_get area₀ j

  pub starts : (c : Course) → (items c.trail.entries) ≡ [] → ranges c.region ≡ everything S.last → c.filled ≡ 0 → c.next ≡ 0 → length area₀ ≤ 4096 → UnderWay c area₀ f₀
  starts c none reg fil nex room = record {
    going = record {
      kept = record {
        ends = λ k l. absurd (omega (arith, ap length none));
        left = reg ∙ sym (ap (λ (xs : List TrailEntry). region S.last (trail_below xs (length xs))) none);
        room = room;
        filled = omega arith;
        next = omega arith;
        full = λ j l. absurd (omega arith);
      };
      lines = [];
      steps = subst (Steps S (length area₀) cold []) (sym (λ i. record { trail = trail_below (none i) (length (none i)); slots = slots i; next = nex i })) here;
    };
    told = refl;
    whole = refl;
    untouched = λ j l. refl;
  }
    where
      slots : ◌≡◌ {A = ℕ → Option Ranges} (slot_at (take c.filled area₀)) (λ _. None)
      slots = λ i j. slot_take_past area₀ c.filled j (omega arith) i

  module _ (c : Course) (area : List Slot) (f : Feed M) (u : UnderWay c area f) where
    pub goes_further : (c' : Course) (area' : List Slot) (f' : Feed M) → Goes step S c area f c' area' f' → UnderWay c' area' f'
    goes_further c' area' f' g = record {
      going = record {
        kept = g.kept;
        lines = u.going.lines ++ g.lines;
        steps = subst (λ (n : ℕ). Steps S n cold (u.going.lines ++ g.lines) (state_of c' area')) (sym g.whole) (on u.going.steps g.moves);
      };
      told = g.told ∙ ap (λ (x : Feed M). fed_all step x g.lines) u.told ∙ sym (fed_more step f₀ u.going.lines g.lines);
      whole = g.whole ∙ u.whole;
      untouched = λ j l. g.untouched j l ∙ u.untouched j (let q = g.more in omega arith);
    }

    -- every step leaves less to do
    pub less : (c' : Course) (area' : List Slot) (f' : Feed M) → Goes step S c area f c' area' f' → left 192 (state_of c' area') < left 192 (state_of c area)
    less c' area' f' g = falls_192 S pr (length area) u.going.steps g.moves

    abbrev slots : ℕ → Option Ranges
    slots = slot_at (take c.filled area)

    by_slot : (P : ℕ → Type 0) (Q : ℕ → Ranges → Type 0) → ((j : ℕ) → c.filled ≤ j → P j) → ((j : ℕ) (b : Ranges) → j < c.filled → slots j ≡ Some b → Q j b) → (j : ℕ) → MatchOption (slots j) (P j) (Q j)
    by_slot P Q none some j = elim (cases_lt j c.filled) [
      | inl l ↦ let b = u.going.kept.full j l in
          let is = slot_take area c.filled j l ∙ b.1 in
          subst (λ (o : Option Ranges). MatchOption o (P j) (Q j)) (sym is) (some j b.0 l is)
      | inr l ↦ subst (λ (o : Option Ranges). MatchOption o (P j) (Q j)) (sym (slot_take_past area c.filled j l)) (none j l)
    ]

    pub comes_to : (e : Ended) (c' : Course) (area' : List Slot) (f' : Feed M) → Stops step S c area f e c' area' f' → Ran step S area₀ area' f₀ f' (verdict_at e)
    comes_to e c' area' f' s = record {
      lines = u.going.lines ++ s.lines;
      end = state_of c area;
      run = subst (λ (n : ℕ). Run S n cold (u.going.lines ++ s.lines) (verdict_at e) (state_of c area)) u.whole
          (record { before = u.going.lines; after = s.lines; steps = u.going.steps; ends = s.ends; lines = refl });
      told = s.told ∙ ap (λ (x : Feed M). fed_all step x s.lines) u.told ∙ sym (fed_more step f₀ u.going.lines s.lines);
      first = (c.filled, by_slot (λ j. c.filled ≤ j) (λ j b. j < c.filled) (λ j l. l) (λ j b l e. l));
      left = by_slot (λ j. slice_get area' j ≡ slice_get area₀ j) (λ j b. slot_at area' j ≡ Some b)
          (λ j l. ap (λ (xs : List Slot). slice_get xs j) s.same ∙ u.untouched j l)
          (λ j b l is. ap (λ (xs : List Slot). slot_at xs j) s.same ∙ sym (slot_take area c.filled j l) ∙ is);
      whole = ap length s.same ∙ u.whole;
    }
