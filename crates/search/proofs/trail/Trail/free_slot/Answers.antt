use Rattle.std.proofs.Common.{rules, ℕ, ◌≡◌, ◌<◌, ◌≤◌, ◌+◌, List, Some, None, Option, MatchOption}
use Rattle.search.specs.Search.{Entry, IsReason, FreeSlot}
use Rattle.search.specs.Trails.{trail_of, FirstFree}
use Rattle.search.proofs.trail.Trail.free_slot.Goals as goal

-- the first free slot from next on, or else from the start
round : (t : List Entry) (m next : ℕ) → next ≤ m → (a r : Option ℕ) {P : Type 0}
    → MatchOption a ((j : ℕ) → next ≤ j → j < m → IsReason t (100 + j)) (λ j. FirstFree t next m j)
    → (P → MatchOption r ((j : ℕ) → 0 ≤ j → j < next → IsReason t (100 + j)) (λ j. FirstFree t 0 next j)) → MatchOption a P (λ j. r ≡ Some j)
    → MatchOption r ((j : ℕ) → j < m → IsReason t (100 + j)) (λ j. FreeSlot m next t j)
round t m next p None None f h s = let k = h s in search rules
round t m next p None (Some j) f h s = let k = h s in search rules
round t m next p (Some x) r f h s = search rules

pub returns : goal.returns
returns c = round (trail_of c.args.self.now) c.args.slots c.args.next c.requires.0 c.first_free.result c.or_else.result c.first_free.ensures (λ e. search rules) c.or_else.ensures
