-- What stands, by induction over the calls.
use Rattle.std.proofs.Common.{◌≡◌, ℕ, ◌+◌, ◌<◌, ◌≤◌, Bool, true, false, cond, ◌&&◌, List, [], ◌∷◌, ◌++◌, length, sym, refl, ap, ◌∙◌, subst, arith}
use Rattle.std.proofs.lemmas.List.{append-nil, length-append}
use Rattle.scales.specs.Checks.{Passes}
use Rattle.scales.proofs.Checking.{pass_behind}
use Rattle.blocks.specs.Rules.{bound_checks, admit_checks, with_rule, with_rules}
use Rattle.blocks.specs.Sheets.{Sheet}
use Rattle.series.specs.Calls.{Rule, Call, Answer, Does, posts, post_refused, tries, try_refused, solves, judges, of_solve, is_found}
use Rattle.series.specs.Series.{History, closed, and, newly_closed, newly, next, standing}
use Rattle.series.specs.Standing.{sheet_with, Exact, SheetExact}

-- one more behind some is one more on their sheet
behind : (N : Sheet) (rs : List Rule) (r : Rule) → with_rules N (rs ++ r ∷ []) ≡ with_rule (with_rules N rs) r
behind N [] r = refl
behind N (s ∷ rs) r = behind (with_rule N s) rs r

-- as many rules stand as are listed
counted : (N : Sheet) (rs : List Rule) → length (with_rules N rs).rules ≡ length N.rules + length rs
counted N [] = omega arith
counted N (r ∷ rs) = omega (arith, counted (with_rule N r) rs, length-append N.rules)

-- a rule that is admitted finds room
room : (lasts : List ℕ) (rs : List Rule) (S : Sheet) (r : Rule) → S ≡ sheet_with lasts rs → Passes (admit_checks S r) → length rs < 48
room lasts rs S r e p =
    let short : length S.rules < 48 = (pass_behind (bound_checks S 1 r) _ p.1).1.0 in
    let same : length S.rules ≡ length (sheet_with lasts rs).rules = ap (λ (T : Sheet). length T.rules) e in
    omega (arith, counted (newly_closed lasts) rs)

-- a rule that stays, or does not
module _ (lasts : List ℕ) (rs : List Rule) (S : Sheet) (r : Rule) (e : S ≡ sheet_with lasts rs) where
  stays : (b : Bool) → cond b (with_rule S r) S ≡ sheet_with lasts (rs ++ cond b (r ∷ []) [])
  stays true = ap (λ (T : Sheet). with_rule T r) e ∙ sym (behind (newly_closed lasts) rs r)
  stays false = e ∙ ap (sheet_with lasts) (sym (append-nil rs))

  fits : length rs < 48 → (b : Bool) → length (rs ++ cond b (r ∷ []) []) ≤ 48
  fits h true = omega (arith, length-append rs (r ∷ []))
  fits h false = omega (arith, length-append rs [])

-- nothing more stands
module _ {lasts : List ℕ} {h : History} {S : Sheet} (x : Exact lasts h S) where
  same : S ≡ sheet_with lasts (standing h ++ [])
  same = x.exactly ∙ ap (sheet_with lasts) (sym (append-nil (standing h)))

  no_longer : length (standing h ++ []) ≤ 48
  no_longer = omega (arith, x.few, length-append (standing h) [])

-- what is not found is not kept
unkept : (keep : Bool) (r : Rule) → cond (keep && false) (r ∷ []) [] ≡ []
unkept true r = refl
unkept false r = refl

after_call : {lasts : List ℕ} {h : History} {S T : Sheet} {c : Call} {a : Answer} → Exact lasts h S → Does S c a T → Exact lasts (and h c a) T
after_call {lasts} {h} {S} x (posts {r = r} p) =
    record { exactly = stays lasts (standing h) S r x.exactly true; few = fits lasts (standing h) S r x.exactly (room lasts (standing h) S r x.exactly p) true }
after_call x (post_refused p) = record { exactly = same x; few = no_longer x }
after_call {lasts} {h} {S} x (tries {r = r} {keep = keep} {x = y} p q) =
    let b = keep && is_found (of_solve y) in
    record { exactly = stays lasts (standing h) S r x.exactly b; few = fits lasts (standing h) S r x.exactly (room lasts (standing h) S r x.exactly p) b }
after_call {lasts} {h} {S} x (try_refused {r = r} {keep = keep} p) =
    let none = unkept keep r in
    record {
      exactly = subst (λ (rs : List Rule). S ≡ sheet_with lasts (standing h ++ rs)) (sym none) (same x);
      few = subst (λ (rs : List Rule). length (standing h ++ rs) ≤ 48) (sym none) (no_longer x);
    }
after_call x (solves p) = record { exactly = same x; few = no_longer x }
after_call x (judges p) = record { exactly = same x; few = no_longer x }

pub sheet_exact : SheetExact
sheet_exact lasts closed S newly = record { exactly = refl; few = omega arith }
sheet_exact lasts (and h c a) T (next {S = S} s d) = after_call (sheet_exact lasts h S s) d
