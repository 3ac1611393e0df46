-- Rules, one after the other: their checks, the sheet that they make, and the profiles that meet them all.
use Rattle.std.proofs.Common.{◌≡◌, ℕ, zero, suc, ◌<◌, ◌≤◌, ◌⊎◌, List, [], ◌∷◌, ◌++◌, length, get_or, drop, Some, sym, refl, ap, ◌∙◌, subst, inl, inr, drop-cons}
use Rattle.std.specs.List.{slice_get}
use Rattle.std.proofs.lemmas.List.{drop_all}
use Rattle.std.proofs.lemmas.Option.{none-some, same_Some}
use Rattle.scales.specs.declared.refusal.Refusal.{Refusal}
use Rattle.scales.specs.Checks.{Check, Passes, Refuses}
use Rattle.scales.proofs.Checking.{both_pass, first_refuses, second_refuses}
use Rattle.blocks.specs.declared.bound.Bound.{Bound}
use Rattle.blocks.specs.declared.lasts.Lasts.{Lasts}
use Rattle.blocks.specs.declared.ruleset.RuleSet.{RuleSet}
use Rattle.blocks.specs.Bounds.{Profile}
use Rattle.blocks.specs.Ranges.{Ranges, everything, In}
use Rattle.blocks.specs.Rules.{rule_block, admit_checks, with_rule, with_rules, rules_checks}
use Rattle.blocks.specs.Problems.{sheet_of}
use Rattle.blocks.specs.RuleSets.{sheet_in}
use Rattle.blocks.specs.Sheets.{Sheet, Breaks}
use Rattle.blocks.specs.Views.{last_at}
use Rattle.blocks.proofs.Breaking.{block_breaks}
use Rattle.checker.specs.Openings.{MeetsAll, NeverAccepts, Gathered}
use Rattle.blocks.proofs.Properness.{set_proper}
use Rattle.checker.proofs.Soundness.{judges_rightly}

-- the rules from the i-th on, over the sheet T, come to what all of them come to over S
pub record GoingOn (S : Sheet) (rules : List (List Bound)) (i : ℕ) (T : Sheet) : Type 0 where
  pub refuses : (e : Refusal) → Refuses (rules_checks T (drop i rules)) e → Refuses (rules_checks S rules) e
  pub passes : Passes (rules_checks T (drop i rules)) → Passes (rules_checks S rules)
  pub same : with_rules T (drop i rules) ≡ with_rules S rules

pub going_first : (S : Sheet) (rules : List (List Bound)) → GoingOn S rules 0 S
going_first S rules = record { refuses = λ e h. h; passes = λ h. h; same = refl }

module _ (S : Sheet) (rules : List (List Bound)) (i : ℕ) (T : Sheet) (on : GoingOn S rules i T) where
  module _ (lt : i < length rules) (here : List Bound) (is : get_or rules i [] ≡ here) where
    abbrev later : List Check
    later = rules_checks (with_rule T here) (drop (suc i) rules)

    next : drop i rules ≡ here ∷ drop (suc i) rules
    next = drop-cons rules i [] lt ∙ ap (λ (r : List Bound). r ∷ drop (suc i) rules) is

    pub going_fails : (e : Refusal) → Refuses (admit_checks T here) e → Refuses (rules_checks S rules) e
    going_fails e r = on.refuses e (subst (λ (rs : List (List Bound)). Refuses (rules_checks T rs) e) (sym next) (first_refuses (admit_checks T here) later e r))

    pub going_more : (U : Sheet) → U ≡ with_rule T here → Passes (admit_checks T here) → GoingOn S rules (suc i) U
    going_more U made p = subst (GoingOn S rules (suc i)) (sym made) (record {
      refuses = λ e r. on.refuses e (subst (λ (rs : List (List Bound)). Refuses (rules_checks T rs) e) (sym next) (second_refuses (admit_checks T here) later e p r));
      passes = λ q. on.passes (subst (λ (rs : List (List Bound)). Passes (rules_checks T rs)) (sym next) (both_pass (admit_checks T here) later p q));
      same = ap (with_rules T) (sym next) ∙ on.same;
    })

  module _ (all : length rules ≤ i) where
    none_left : drop i rules ≡ []
    none_left = drop_all i rules all

    pub going_passes : Passes (rules_checks S rules)
    going_passes = on.passes (subst (λ (rs : List (List Bound)). Passes (rules_checks T rs)) (sym none_left) tt)

    pub going_same : T ≡ with_rules S rules
    going_same = ap (with_rules T) (sym none_left) ∙ on.same

-- a profile that meets these rules breaks none of them
behind_or_last : (bs : List Ranges) (a : Ranges) (i : ℕ) (b : Ranges) → slice_get (bs ++ a ∷ []) i ≡ Some b → (slice_get bs i ≡ Some b) ⊎ (a ≡ b)
behind_or_last [] a zero b e = inr (same_Some _ _ e)
behind_or_last [] a (suc i) b e = inl e
behind_or_last (c ∷ bs) a zero b e = inl e
behind_or_last (c ∷ bs) a (suc i) b e = behind_or_last bs a i b e

breaks_earlier : (rules : List (List Bound)) (S : Sheet) (x : Profile) → In (everything S.last) x → MeetsAll x rules → Breaks (with_rules S rules) x → Breaks S x
breaks_earlier [] S x w m k = k
breaks_earlier (r ∷ rules) S x w m k = one (breaks_earlier rules (with_rule S r) x w m.1 k)
  where
    one : Breaks (with_rule S r) x → Breaks S x
    one (i, b, e, h) = elim (behind_or_last S.rules (rule_block S.last r) i b e) [
      | inl q ↦ (i, b, q, h)
      | inr q ↦ absurd ((block_breaks S.last r x w).0 (subst (λ (a : Ranges). In a x) (sym q) h) m.0)
    ]

same_last : (rules : List (List Bound)) (S : Sheet) → (with_rules S rules).last ≡ S.last
same_last [] S = refl
same_last (r ∷ rules) S = same_last rules (with_rule S r)

pub gathered : (l : Lasts) (rules : List (List Bound)) (place : RuleSet) → sheet_in place ≡ with_rules (sheet_of l []) rules → Gathered l rules place
gathered l rules place is = record { stand = is; never_accepts = never }
  where
    last : (sheet_in place).last ≡ last_at l
    last = ap (λ (S : Sheet). S.last) is ∙ same_last rules (sheet_of l [])

    never : NeverAccepts (sheet_in place) (last_at l) rules
    never (x, w, m) slots ls ends =
        let k = (judges_rightly (sheet_in place) (set_proper place) slots ls).never_wrong ends x (subst (λ (f : ℕ → ℕ). In (everything f) x) (sym last) w) in
        let b = breaks_earlier rules (sheet_of l []) x w m (subst (λ (S : Sheet). Breaks S x) is k) in
        none-some b.1 b.2
