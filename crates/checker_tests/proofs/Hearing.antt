-- Lines to a judge, one more at a time; and rules opened, posed and judged.
use Rattle.std.proofs.Common.{◌≡◌, ℕ, ◌+◌, ◌<◌, true, List, ◌∷◌, length, get_or, drop, is_ok, Ok, Err, Result, sym, refl, ap, ◌∙◌}
use Rattle.std.proofs.lemmas.List.{drop_more}
use Rattle.std.proofs.lemmas.Bool.{false≢true}
use Rattle.scales.specs.declared.refusal.Refusal.{Refusal}
use Rattle.blocks.specs.declared.line.Line.{Line}
use Rattle.blocks.specs.Sheets.{Sheet}
use Rattle.blocks.specs.Sinks.{next_of, state_after}
use Rattle.checker.specs.Courts.{Court, ended, opened}
use Rattle.checker.specs.Findings.{after}
use Rattle.checker.specs.Steps.{step}
use Rattle.checker_tests.specs.Firsts.{first_refusal}

pub one_more : (lines : List Line) (i : ℕ) (l : Line) (c d end : Court) → i < length lines → l ≡ get_or lines i l → d ≡ next_of c (step c l)
    → state_after step c (drop i lines) ≡ end → state_after step d (drop (i + 1) lines) ≡ end
one_more lines i l c d end h is e so_far =
    let next : l ∷ drop (i + 1) lines ≡ drop i lines = ap (λ (k : Line). k ∷ drop (i + 1) lines) is ∙ sym (drop_more lines i l h) in
    ap (λ (x : Court). state_after step x (drop (i + 1) lines)) e ∙ ap (state_after step c) next ∙ so_far

-- the state after these lines, of a judge that was opened so
pub since_opening : {S T : Sheet} {c d : Court} (m : ℕ) (lines : List Line) → S ≡ T → c ≡ opened S m → d ≡ state_after step c lines → d ≡ after T m lines
since_opening {S} {T} m lines same first sent = sent ∙ ap (λ (c : Court). state_after step c lines) first ∙ ap (λ (R : Sheet). after R m lines) same

pub ends_too : {c d : Court} → d ≡ c → d.phase ≡ ended → c.phase ≡ ended
ends_too is e = ap (λ (x : Court). x.phase) (sym is) ∙ e

-- no refusal is first where there is none
pub both_ok : (a b : Result (Unit {0}) Refusal) → is_ok (first_refusal a b) ≡ true → (is_ok a ≡ true) × (is_ok b ≡ true)
both_ok (Ok u) b e = (refl, e)
both_ok (Err f) b e = absurd (false≢true e)
