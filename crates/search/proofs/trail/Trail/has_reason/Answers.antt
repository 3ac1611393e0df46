use Rattle.std.proofs.Common.{◌≡◌, ℕ, ◌<◌, true, false, Bool, List, length, MatchBool, Some, ◌∙◌, arith, rules, tests}
use Rattle.std.specs.List.{HoldsAt, AllWithin}
use Rattle.std.proofs.lemmas.Iterator.{cases_from_any, YieldsList-from_slice}
use Rattle.rows.specs.Items.{items}
use Rattle.search.specs.declared.trail.TrailEntry.{TrailEntry}
use Rattle.search.specs.Search.{IsReason}
use Rattle.search.specs.Trails.{no_entry, trail_below}
use Rattle.search.proofs.Trailing.{reason_at, no_reason}
use Rattle.search.proofs.trail.Trail.has_reason.Goals as goal

-- what the call answers, as a fact of the trail
told : (r : Bool) (xs : List TrailEntry) (k : ℕ) → MatchBool r ((i : ℕ) × (i < length xs) × HoldsAt (λ (e : TrailEntry). e.reason ≡ Some k) xs i) (AllWithin (λ (e : TrailEntry). e.reason ≡ Some k → ⊥) xs 0 (length xs))
    → MatchBool r (IsReason (trail_below xs (length xs)) k) (IsReason (trail_below xs (length xs)) k → ⊥)
told true xs k h = reason_at xs k h.0 (length xs) h.1 (h.2 no_entry)
told false xs k h = no_reason xs k (length xs) (λ i l. h i no_entry (omega arith) l)

pub returns : goal.returns
returns c =
    told c.any.result (items c.args.self.now.entries) c.args.block
    (cases_from_any _ _ _ (λ (e : TrailEntry). e.reason ≡ Some c.args.block) (λ (e : TrailEntry). e.reason ≡ Some c.args.block → ⊥) c.any.ensures.ran (YieldsList-from_slice (items c.args.self.now.entries) (c.iter.ensures.rest ∙ c.as_slice.ensures)) (λ x q k. search (rules, tests)) (λ x q k. search (rules, tests)))
