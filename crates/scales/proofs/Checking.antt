-- A list of checks has exactly one outcome, and how the outcomes of two lists join.
use Rattle.std.proofs.Common.{◌≡◌, ◌⊎◌, List, [], ◌∷◌, ◌++◌, inl, inr, rules}
use Rattle.scales.specs.declared.refusal.Refusal.{Refusal}
use Rattle.scales.specs.Checks.{Check, Passes, Refuses, Decided, OneOutcome}

pub both_pass : (a b : List Check) → Passes a → Passes b → Passes (a ++ b)
both_pass [] b p q = q
both_pass (c ∷ a) b p q = search (rules, both_pass a b)

pub pass_behind : (a b : List Check) → Passes (a ++ b) → Passes b
pass_behind [] b p = p
pass_behind (c ∷ a) b p = pass_behind a b p.1

pub first_refuses : (a b : List Check) (e : Refusal) → Refuses a e → Refuses (a ++ b) e
first_refuses [] b e r = absurd r
first_refuses (c ∷ a) b e r = grind (rules, first_refuses a b e)

pub second_refuses : (a b : List Check) (e : Refusal) → Passes a → Refuses b e → Refuses (a ++ b) e
second_refuses [] b e p r = r
second_refuses (c ∷ a) b e p r = search (rules, second_refuses a b e)

pub not_both : (cs : List Check) (e : Refusal) → Passes cs → Refuses cs e → ⊥
not_both [] e p r = r
not_both (c ∷ cs) e p r = grind (rules, not_both cs e)

pub one_refusal : (cs : List Check) (e f : Refusal) → Refuses cs e → Refuses cs f → e ≡ f
one_refusal [] e f r s = absurd r
one_refusal (c ∷ cs) e f r s = grind (rules, one_refusal cs e f)

some_outcome : (cs : List Check) → Decided cs → Passes cs ⊎ ((e : Refusal) × Refuses cs e)
some_outcome [] d = inl tt
some_outcome (c ∷ cs) d = here d.0 (some_outcome cs d.1)
  where
    here : c.holds ⊎ (c.holds → ⊥) → Passes cs ⊎ ((e : Refusal) × Refuses cs e) → Passes (c ∷ cs) ⊎ ((e : Refusal) × Refuses (c ∷ cs) e)
    here (inl h) (inl p) = inl (h, p)
    here (inl h) (inr r) = inr (r.0, inr (h, r.1))
    here (inr n) rest = inr (c.refusal, inl (n, λ _. c.refusal))

pub one_outcome : (cs : List Check) → OneOutcome cs
one_outcome cs = record { some_outcome = some_outcome cs; not_both = not_both cs; one_refusal = one_refusal cs }
