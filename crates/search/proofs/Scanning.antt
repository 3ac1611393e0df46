-- A scan, place by place.
use Rattle.std.proofs.Common.{◌≡◌, ℕ, ◌+◌, ◌<◌, List, map, length, get_or, Some, None, Option, sym, refl, ap, ◌∙◌, subst, inl, inr, arith, below_more}
use lib.ListN.{length-map}
use Rattle.std.proofs.lemmas.Option.{slice_get-get_or, none-some}
use Rattle.std.proofs.lemmas.List.{get_or-map}
use Rattle.std.specs.Option.{option_or}
use Rattle.blocks.specs.declared.status.Status.{Status}
use Rattle.blocks.specs.declared.status.Status.TheVariants.{Dead as dead, Broken as broken, Forcing as forcing, Open as undecided}
use Rattle.blocks.specs.Ranges.{Ranges}
use Rattle.blocks.specs.Status.{Tells}
use Rattle.search.specs.declared.scan.Scan.TheVariants.{Quiet}
use Rattle.blocks.specs.Slots.{joined}
use Rattle.blocks.proofs.Numbers.{some_same}
use Rattle.search.specs.Scans.{holding, Calm, Buried, FirstAlive, Scanned}

-- what is read at i stands at i
pub place_at : {P : Type 0} (holds : P → Option Ranges) (ps : List P) (i : ℕ) (p : P) → i < length ps → p ≡ get_or ps i p → holding holds ps i ≡ holds p
place_at holds ps i p h e = ap joined (slice_get-get_or (map holds ps) i (holds p) (rw length-map h) ∙ ap Some (get_or-map holds ps i p (holds p) h ∙ ap holds (sym e)))

module _ (g : Ranges) (blocks : ℕ → Option Ranges) where
  -- the first i are passed
  pub record Passed (i : ℕ) (a : Option ℕ) : Type 0 where
    pub calm : (k : ℕ) → k < i → Calm g blocks k
    pub alive : FirstAlive g blocks a i

  pub passed_none : Passed 0 None
  passed_none = record { calm = λ k l. absurd (omega arith); alive = λ k l. absurd (omega arith) }

  alive_more : (a : Option ℕ) (i : ℕ) → FirstAlive g blocks a i → Buried g blocks i → FirstAlive g blocks a (i + 1)
  alive_more None i h d = below_more (Buried g blocks) i h d
  alive_more (Some j) i h d = (omega arith, h.1, h.2)

  passed_buried : (i : ℕ) (a : Option ℕ) → Buried g blocks i → Passed i a → Passed (i + 1) a
  passed_buried i a d p = record { calm = below_more (Calm g blocks) i p.calm (λ b f. inl (d b f)); alive = alive_more a i p.alive d }

  pub passed_empty : (i : ℕ) (a : Option ℕ) → blocks i ≡ None → Passed i a → Passed (i + 1) a
  passed_empty i a e = passed_buried i a (λ b f. absurd (none-some _ (sym e ∙ f)))

  module _ (i : ℕ) (b : Ranges) (is : blocks i ≡ Some b) where
    pub passed_dead : (a : Option ℕ) → Tells g b dead → Passed i a → Passed (i + 1) a
    passed_dead a d = passed_buried i a (λ c f. subst (λ (x : Ranges). Tells g x dead) (some_same is f) d)

    calm_here : Tells g b undecided → Calm g blocks i
    calm_here o c f = inr (subst (λ (x : Ranges). Tells g x undecided) (some_same is f) o)

    pub passed_open : (a : Option ℕ) → Tells g b undecided → Passed i a → Passed (i + 1) (option_or a (Some i))
    passed_open None o p = record { calm = below_more (Calm g blocks) i p.calm (calm_here o); alive = (omega arith, (b, is, o), p.alive) }
    passed_open (Some j) o p = record { calm = below_more (Calm g blocks) i p.calm (calm_here o); alive = let a = p.alive in (omega arith, a.1, a.2) }

  pub passed_all : (n : ℕ) (a : Option ℕ) → Passed n a → Scanned g blocks n (Quiet a)
  passed_all n a p = (p.calm, p.alive)

-- a status that is none of the others is open
pub only_open : (s : Status) → (s ≡ dead → ⊥) → (s ≡ broken → ⊥) → ((t : ℕ × ℕ × ℕ) → s ≡ forcing t → ⊥) → s ≡ undecided
only_open dead d b f = absurd (d refl)
only_open broken d b f = absurd (b refl)
only_open (forcing t) d b f = absurd (f t refl)
only_open undecided d b f = refl
