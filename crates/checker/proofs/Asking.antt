-- What is asked of a line, by the work block and the block that it names.
use Rattle.std.proofs.Common.{◌≡◌, ℕ, ◌+◌, ◌<◌, Bool, true, false, [], ◌∷◌, set, Some, Ok, Err, IsOkAnd, MatchBool, MatchResult, Result, sym, ap, ◌∙◌, subst, inl, inr}
use Rattle.std.proofs.lemmas.Option.{same_Some}
use Rattle.scales.specs.declared.refusal.Refusal.{Refusal}
use Rattle.scales.specs.declared.refusal.Stop.TheVariants.{NotResolvable}
use Rattle.scales.specs.Checks.{Passes, Refuses, Outcome}
use Rattle.blocks.specs.declared.block.Block.{Block}
use Rattle.blocks.specs.Lines.{BlockNumber, SettingNumber}
use Rattle.blocks.specs.declared.line.Line.{Line}
use Rattle.blocks.specs.declared.line.Line.TheVariants.{Resolve, Keep, End}
use Rattle.blocks.specs.Ranges.{Ranges, everything, Inside, resolve, Resolvable}
use Rattle.blocks.specs.Views.{ranges}
use Rattle.checker.specs.Courts.{idle, working, Court, block_in, asks}
use Rattle.checker.specs.Hearing.{Allowed, Whole, further_checks, line_checks, onward, Leads, Hears}

-- there is one work block
pub same_work : {w v : Ranges} → working w ≡ working v → w ≡ v
same_work e = cc

pub whole_when : (c : Court) {w g : Ranges} → c.phase ≡ working w → g ≡ everything c.sheet.last → (r : Bool) → MatchBool r (Inside g w) (Inside g w → ⊥) → MatchBool r (Whole c End) (Whole c End → ⊥)
whole_when c {w} {g} h e true k = λ v p. subst (λ (b : Ranges). Inside (everything c.sheet.last) b) (same_work (sym h ∙ p)) (subst (λ (a : Ranges). Inside a w) e k)
whole_when c {w} {g} h e false k = λ all. k (subst (λ (a : Ranges). Inside a w) (sym e) (all w h))

-- line r, by the block that it names and its setting
pub joined_outcome : (c : Court) (k : BlockNumber) (s : SettingNumber) {w b : Ranges} {t : ℕ} → c.phase ≡ working w → block_in c k.number ≡ Some b → s.number < c.sheet.count → t ≡ s.number
    → (r : Result Block Refusal) → Outcome (asks c NotResolvable (Resolvable t w b) ∷ []) (λ d. ranges d ≡ resolve t w b) r
    → Outcome (further_checks c (Resolve k s)) (λ d. Leads c (Resolve k s) (onward c (working (ranges d)) c.slots)) r
joined_outcome c k s {w} {b} {t} h e l u (Ok d) o = (
  ((b, e), (l, ((λ v a p q. subst (λ (x : Ranges). Resolvable s.number x a) (same_work (sym h ∙ p)) (subst (λ (x : Ranges). Resolvable s.number w x) (same_Some _ _ (sym e ∙ q)) (subst (λ (n : ℕ). Resolvable n w b) u o.0.0))), (tt, tt)))),
  (w, b, h, e, ap (λ (g : Ranges). onward c (working g) c.slots) (o.1 ∙ ap (λ (n : ℕ). resolve n w b) u)),
)
joined_outcome c k s {w} {b} {t} h e l u (Err f) (inl o) = inr ((b, e), inr (l, inl (λ all. o.0 (subst (λ (n : ℕ). Resolvable n w b) (sym u) (all w b h e)), o.1)))
joined_outcome c k s h e l u (Err f) (inr o) = absurd o.1

-- a line that may come is refused by what else is asked of it
pub further_refused : (c : Court) {l m : Line} → l ≡ m → Allowed c l → {e : Refusal} → Refuses (further_checks c m) e → Refuses (line_checks c l) e
further_refused c {l} {m} is a {e} r = inr (a, subst (λ (k : Line). Refuses (further_checks c k) e) (sym is) r)

-- a line that may come, told without what its further checks answer
pub told_bare : (c : Court) {l m : Line} {R : Type 0} (A : R → Type 0) (Q : R → Unit {0} → Type 0) (s : Result R Refusal) (r : Result (Unit {0}) Refusal) → l ≡ m → Allowed c l → Outcome (further_checks c m) A s
    → MatchResult s (λ x. IsOkAnd r (Q x)) (λ e. r ≡ Err e) → Outcome (line_checks c l) (λ _. Unit {0}) r
told_bare c {l} {m} A Q (Ok x) (Ok u) is a o q = ((a, subst (λ (k : Line). Passes (further_checks c k)) (sym is) o.0), tt)
told_bare c A Q (Ok x) (Err e) is a o q = absurd q
told_bare c A Q (Err e) r is a o q = rw q (further_refused c is a o)

-- line k with a slot of the area
pub kept_heard : (c : Court) {l : Line} (k : BlockNumber) (j : ℕ) {w : Ranges} {d : Court} → l ≡ Keep k → Allowed c l → c.phase ≡ working w → Passes (further_checks c (Keep k)) → k.number ≡ 100 + j
    → d ≡ onward c idle (set c.slots j (Some w)) → Hears c l (Ok tt) d
kept_heard c {l} k j {w} {d} is a h p e q =
    subst (λ (m : Line). Allowed c m → Hears c m (Ok tt) d) (sym is) (λ b. ((b, p), (w, j, h, e, q))) a
