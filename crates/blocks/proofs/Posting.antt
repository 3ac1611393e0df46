-- One rule more behind the others.
use Rattle.std.proofs.Common.{◌≡◌, ℕ, ◌<◌, List, [], ◌∷◌, ◌++◌, length, get_or, replicate, Bool, true, false, Some, None, Ok, Err, Option, Result, IsSome, MatchBool, sym, refl, ap, ◌∙◌, subst, ap₂, arith, below_more}
use Rattle.std.specs.List.{AllWithin, HoldsAt}
use Rattle.std.proofs.lemmas.List.{length-map, get_or-map, length-append, get_or_append_left, map-append}
use Rattle.std.proofs.Math.Seq.{get_or-append_seam}
use Rattle.rows.specs.declared.row.Row.{Row}
use Rattle.rows.specs.declared.row.Full.{Full}
use Rattle.rows.specs.Items.{items, Pushed}
use Rattle.scales.specs.declared.refusal.Refusal.{Refusal}
use Rattle.scales.specs.Checks.{Passes}
use Rattle.scales.proofs.Checking.{pass_behind}
use Rattle.blocks.specs.declared.bound.Bound.{Bound}
use Rattle.blocks.specs.declared.lasts.Lasts.{Lasts}
use Rattle.blocks.specs.declared.standing.Standing.{Standing}
use Rattle.blocks.specs.Ranges.{Ranges}
use Rattle.blocks.specs.Rules.{Breakers, bound_checks, admit_checks, with_rule}
use Rattle.blocks.specs.Views.{nought, last_at, block_of, blocks, nowhere, FitToStand, FitToPose}
use Rattle.blocks.specs.declared.problem.Problem.{Problem}
use Rattle.blocks.specs.declared.ruleset.RuleSet.{RuleSet}
use Rattle.blocks.specs.Problems.{posed, sheet_of, Poses, Admits}
use Rattle.blocks.specs.RuleSets.{sheet_in, PosesSet}
use Rattle.blocks.proofs.Breaking.{breakers_only}

-- an admitted rule finds room
pub admitted_room : (l : Lasts) (ss : List Standing) (βs : List Bound) → Passes (admit_checks (sheet_of l ss) βs) → length ss < 48
admitted_room l ss βs p = omega (arith, (pass_behind (bound_checks (sheet_of l ss) 1 βs) _ p.1).1.0, length-map ss block_of)

-- what holds of the rules that stand and of the new one holds of each
pub posted_each : (P : Ranges → Type 0) (ss : List Standing) (s : Standing)
    → ((i : ℕ) → i < length ss → P (get_or (blocks ss) i nowhere)) → P (block_of s) → (i : ℕ) → i < length (ss ++ s ∷ []) → P (get_or (blocks (ss ++ s ∷ [])) i nowhere)
posted_each P ss s old new i h =
    let at = map-append block_of ss (s ∷ []) in
    let n = length-map ss block_of in
    let one = below_more (λ k. P (get_or (blocks ss ++ block_of s ∷ []) k nowhere)) (length ss)
    (λ k l. subst P (sym (get_or_append_left (blocks ss) (block_of s ∷ []) nowhere k (omega (arith, n)))) (old k l))
    (subst (λ (k : ℕ). P (get_or (blocks ss ++ block_of s ∷ []) k nowhere)) n (subst P (sym (get_or-append_seam (blocks ss) (block_of s) [] nowhere)) new)) in
    subst (λ (bs : List Ranges). P (get_or bs i nowhere)) (sym at) (one i (omega (arith, h, length-append ss (s ∷ []))))

-- a row of what stands, after a push, whatever came of it
pub pushed_each : (P : Ranges → Type 0) (before after : Row Standing 48) (s : Standing) (r : Result (Unit {0}) Full) → Pushed s before after r
    → ((i : ℕ) → i < length (items before) → P (get_or (blocks (items before)) i nowhere)) → P (block_of s)
    → (i : ℕ) → i < length (items after) → P (get_or (blocks (items after)) i nowhere)
pushed_each P before after s (Ok u) h old new =
    subst (λ (ss : List Standing). (i : ℕ) → i < length ss → P (get_or (blocks ss) i nowhere)) (sym h.1) (posted_each P (items before) s old new)
pushed_each P before after s (Err e) h old new =
    subst (λ (w : Row Standing 48). (i : ℕ) → i < length (items w) → P (get_or (blocks (items w)) i nowhere)) (sym h.1) old

pub posted_sheet : (l : Lasts) (ss : List Standing) (s : Standing) (βs : List Bound) → Breakers (last_at l) βs (block_of s)
    → sheet_of l (ss ++ s ∷ []) ≡ with_rule (sheet_of l ss) βs
posted_sheet l ss s βs b =
    ap (λ (rules : List Ranges). record { count = l.count; last = last_at l; rules = rules })
    (map-append block_of ss (s ∷ []) ∙ ap (λ (r : Ranges). blocks ss ++ r ∷ []) (breakers_only (last_at l) βs (block_of s) b))

-- what is admitted over a problem is admitted over what the problem was posed of
pub admitted_at : {l k : Lasts} {ss ts : List Standing} → l ≡ k → ss ≡ ts → (βs : List Bound) (r : Result Standing Refusal) → Admits l ss βs r → Admits k ts βs r
admitted_at {l} {k} {ss} {ts} e d βs r a = subst (λ (x : Lasts). Admits x ts βs r) e (subst (λ (xs : List Standing). Admits l xs βs r) d a)

-- the problem of a rule set means the same sheet
pub same_sheet : (s : RuleSet) (p : Problem) → PosesSet s p → posed p ≡ sheet_in s
same_sheet s p h = ap₂ sheet_of h.lasts h.rules

-- what is fit is posed
pub posed_some : {l : Lasts} {ss : List Standing} → FitToPose l ss → (r : Option Problem) → Poses l ss r → IsSome r
posed_some fit None p = absurd (p fit)
posed_some fit (Some x) p = refl

-- whether all are fit, one by one
module _ (l : Lasts) (ss : List Standing) where
  abbrev pub Fit : Standing → Type 0
  Fit s = FitToStand l (block_of s)

  -- read where nothing stands
  abbrev nothing : Standing
  nothing = record { block = record { intervals = replicate 12 nought; twelve = refl } }

  standing_at : (i : ℕ) → i < length ss → get_or (blocks ss) i nowhere ≡ block_of (get_or ss i nothing)
  standing_at i h = get_or-map block_of ss i nothing nowhere h

  pub all_fit : (r : Bool) → MatchBool r (AllWithin Fit ss 0 (length ss)) ((k : ℕ) × (k < length ss) × HoldsAt (λ s. Fit s → ⊥) ss k)
      → MatchBool r ((i : ℕ) → i < length ss → FitToStand l (get_or (blocks ss) i nowhere)) (FitToPose l ss → ⊥)
  all_fit true h = λ i k. subst (FitToStand l) (sym (standing_at i k)) (h i nothing (omega arith) k)
  all_fit false h = λ fit. h.2 nothing (subst (FitToStand l) (standing_at h.0 h.1) (fit.each h.0 h.1))
