-- Rules, which of them are admitted, and the block of a rule.
use Rattle.std.specs.Prelude.{ℕ, zero, suc, ◌<◌, ◌≤◌, ◌⊎◌, ◌↔◌, List, [], ◌∷◌, ◌++◌, length}
use Rattle.scales.specs.declared.refusal.Stop.TheVariants.{OffScale, Undeclared, BoundCount, AlwaysMet, RulesFull}
use Rattle.scales.specs.Checks.{Check, check, check_at}
use Rattle.blocks.specs.declared.bound.Bound.{Bound}
use Rattle.blocks.specs.declared.bound.Bound.TheVariants.{AtMost, AtLeast}
use Rattle.blocks.specs.Bounds.{Profile, setting, position, Meets}
use Rattle.blocks.specs.Ranges.{Ranges, Stands, everything, In, narrow}
use Rattle.blocks.specs.Sheets.{Sheet}

-- a rule is met when one of its bounds is
abbrev pub MeetsRule : Profile → List Bound → Type 0
MeetsRule x [] = ⊥
MeetsRule x (β ∷ βs) = Meets x β ⊎ MeetsRule x βs

-- some profile breaks the rule
abbrev pub Breakable : (ℕ → ℕ) → List Bound → Type 0
Breakable last βs = (x : Profile) × In (everything last) x × (¬ MeetsRule x βs)

-- the block holds just the profiles that break the rule
pub record Breakers (last : ℕ → ℕ) (βs : List Bound) (b : Ranges) : Type 0 where
  pub stands : Stands last b
  pub breaks : (x : Profile) → In (everything last) x → In b x ↔ (¬ MeetsRule x βs)

-- what a sheet asks of a rule's n-th bound: its setting is declared, its position on that setting's scale
abbrev pub bound_check : Sheet → ℕ → Bound → List Check
bound_check S n β = check_at Undeclared n (setting β < S.count) ∷ check_at OffScale n (position β ≤ S.last (setting β)) ∷ []

-- bound by bound, from the n-th on
abbrev pub bound_checks : Sheet → ℕ → List Bound → List Check
bound_checks S n [] = []
bound_checks S n (β ∷ βs) = bound_check S n β ++ bound_checks S (suc n) βs

abbrev pub OneToFour : List Bound → Type 0
OneToFour βs = (1 ≤ length βs) × (length βs ≤ 4)

-- what a sheet asks of a rule, in order
abbrev pub admit_checks : Sheet → List Bound → List Check
admit_checks S βs =
    check BoundCount (OneToFour βs) ∷ []
    ++ bound_checks S 1 βs
    ++ check AlwaysMet (Breakable S.last βs) ∷ check RulesFull (length S.rules < 48) ∷ []

-- the profiles that break "at most p" are those at least p + 1; those that break "at least p" are at most p - 1, and none breaks "at least 0"
abbrev pub against : (ℕ → ℕ) → Bound → Bound
against last (AtMost s p) = AtLeast s (suc p)
against last (AtLeast s zero) = AtLeast s (suc (last s))
against last (AtLeast s (suc p)) = AtMost s p

-- the block of a rule, bound by bound; it holds the breakers, and no other block does
abbrev pub rule_block : (ℕ → ℕ) → List Bound → Ranges
rule_block last [] = everything last
rule_block last (β ∷ βs) = narrow (against last β) (rule_block last βs)

-- the sheet with one rule more, behind the others
abbrev pub with_rule : Sheet → List Bound → Sheet
with_rule S βs = record { count = S.count; last = S.last; rules = S.rules ++ rule_block S.last βs ∷ [] }

-- and with these rules more, in order
abbrev pub with_rules : Sheet → List (List Bound) → Sheet
with_rules S [] = S
with_rules S (r ∷ rs) = with_rules (with_rule S r) rs

-- what is asked of several rules, one after the other
abbrev pub rules_checks : Sheet → List (List Bound) → List Check
rules_checks S [] = []
rules_checks S (r ∷ rs) = admit_checks S r ++ rules_checks (with_rule S r) rs
