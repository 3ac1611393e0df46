-- A bound joins the trail.
use Rattle.std.proofs.Common.{◌≡◌, ℕ, suc, ◌<◌, List, [], ◌∷◌, ◌++◌, length, get_or, Some, None, IsSome, Option, sym, refl, ap, ◌∙◌, subst, ⊎_elim, arith, below_more, length-append}
use Rattle.std.proofs.lemmas.List.{get_or_append_left, get_or_push}
use Rattle.rows.specs.Items.{items}
use Rattle.blocks.specs.declared.bound.Bound.{Bound}
use Rattle.blocks.specs.declared.bound.Bound.TheVariants.{AtMost, AtLeast}
use Rattle.blocks.specs.declared.status.Status.{Status}
use Rattle.blocks.specs.declared.status.Status.TheVariants.{Dead as dead, Broken as broken, Forcing as forcing, Open as undecided}
use Rattle.blocks.specs.Bounds.{Profile, Meets}
use Rattle.blocks.specs.Ranges.{Ranges, Stands, In, end, narrow}
use Rattle.blocks.specs.Status.{True, Open, Dead, Forces, Tells, TellsFirst}
use Rattle.blocks.specs.Views.{ranges}
use Rattle.blocks.proofs.Ranging.{open_at}
use Rattle.search.specs.declared.course.Course.{Course}
use Rattle.search.specs.declared.trail.TrailEntry.{TrailEntry}
use Rattle.search.specs.Search.{region}
use Rattle.search.specs.Trails.{Reason, reasoned, entry_of, no_entry, trail_below, trail_of, KeepsEnds}
use Rattle.search.specs.Courses.{Joined}
use Rattle.search.proofs.Least.{three}
use Rattle.search.proofs.Trailing.{reasoned_bound, below_front}

-- some profile of a region meets an open bound
pub open_profile : (last : ℕ → ℕ) (g : Ranges) (β : Bound) → Stands last g → Open g β → (x : Profile) × In g x × Meets x β
open_profile last g (AtMost s p) st o = let k = (open_at last g st (AtMost s p)).0 o in (g.low, (λ i. let j = st i in (omega arith, omega arith)), omega arith)
open_profile last g (AtLeast s p) st o = let k = (open_at last g st (AtLeast s p)).0 o in (g.high, (λ i. let j = st i in (omega arith, omega arith)), omega arith)

-- a block that is neither dead nor broken has an open bound
pub undecided_open : (last : ℕ → ℕ) (g b : Ranges) → Stands last g → Stands last b → Tells g b undecided → (r : Option (ℕ × ℕ × ℕ)) → TellsFirst g b r → IsSome r
undecided_open last g b sg sb t (Some u) first = refl
undecided_open last g b sg sb t None none =
    let u = t last sg sb in
    absurd (u.1 (λ β k. ⊎_elim (λ h. absurd (u.0 (β, k, h))) (⊎_elim (λ f. f) (λ o. absurd (none last sg sb β k o))) (three last g sg β)))

-- a block that forces is told as forcing
pub forces_told : (last : ℕ → ℕ) (g b : Ranges) (β : Bound) → Stands last g → Stands last b → Forces last g b β → (s : Status) → Tells g b s → ((t : ℕ × ℕ × ℕ) → s ≡ forcing t → ⊥) → ⊥
forces_told last g b β sg sb f dead t n = let d = t last sg sb in not_both d
  where
    not_both : Dead last g b → ⊥
    not_both (γ, k, tr) = f.others γ k (λ e. f.open'.0 (subst (True g) e tr)) g.low (λ i. let s = sg i in (omega arith, omega arith)) (tr g.low (λ i. let s = sg i in (omega arith, omega arith)))
forces_told last g b β sg sb f broken t n = f.open'.1 (t last sg sb β f.bound)
forces_told last g b β sg sb f (forcing u) t n = n u refl
forces_told last g b β sg sb f undecided t n = (t last sg sb).2 (β, f)

-- the trail with one entry more
module _ (last : ℕ → ℕ) (c c' : Course) (β : Bound) (r : Reason) (j : Joined c β r c') (left : ranges c.region ≡ region last (trail_of c.trail)) where
  abbrev new : TrailEntry
  new = record { bound = β; end = end β (ranges c.region); reason = r }

  longer : length ((items c.trail.entries) ++ new ∷ []) ≡ suc (length (items c.trail.entries))
  longer = omega (arith, length-append (items c.trail.entries) (new ∷ []))

  here : get_or ((items c.trail.entries) ++ new ∷ []) (length (items c.trail.entries)) no_entry ≡ new
  here = get_or_push (items c.trail.entries) new no_entry (length (items c.trail.entries)) refl

  pub joined_trail : trail_of c'.trail ≡ reasoned β r ∷ trail_of c.trail
  joined_trail =
      ap (λ (ys : List TrailEntry). trail_below ys (length ys)) j.entries
      ∙ ap (trail_below ((items c.trail.entries) ++ new ∷ [])) longer
      ∙ (λ i. entry_of (here i) ∷ below_front (items c.trail.entries) (new ∷ []) (length (items c.trail.entries)) (omega arith) i)

  pub joined_left : ranges c'.region ≡ region last (trail_of c'.trail)
  joined_left =
      j.region ∙ ap (narrow β) left
      ∙ sym (ap (region last) joined_trail ∙ ap (λ (γ : Bound). narrow γ (region last (trail_of c.trail))) (reasoned_bound β r))

  pub joined_ends : KeepsEnds last (items c.trail.entries) → KeepsEnds last (items c'.trail.entries)
  joined_ends ends = subst (KeepsEnds last) (sym j.entries) (λ k l. below_more KeptAt (length (items c.trail.entries)) old now' k (omega (arith, longer)))
    where
      KeptAt : ℕ → Type 0
      KeptAt k = (get_or ((items c.trail.entries) ++ new ∷ []) k no_entry).end ≡ end (get_or ((items c.trail.entries) ++ new ∷ []) k no_entry).bound (region last (trail_below ((items c.trail.entries) ++ new ∷ []) k))

      old : (k : ℕ) → k < length (items c.trail.entries) → KeptAt k
      old k l =
          let a = get_or_append_left (items c.trail.entries) (new ∷ []) no_entry k l in
          let b = below_front (items c.trail.entries) (new ∷ []) k (omega arith) in
          ap (λ (e : TrailEntry). e.end) a ∙ ends k l ∙ sym (λ i. end (a i).bound (region last (b i)))

      now' : KeptAt (length (items c.trail.entries))
      now' =
          let b = below_front (items c.trail.entries) (new ∷ []) (length (items c.trail.entries)) (omega arith) in
          ap (λ (e : TrailEntry). e.end) here ∙ ap (end β) left ∙ sym (λ i. end (here i).bound (region last (b i)))
