-- A rule's bounds, one by one: the checks, and the profiles that break them all.
use Rattle.std.proofs.Common.{◌≡◌, ℕ, zero, suc, ◌+◌, ◌<◌, ◌≤◌, ◌↔◌, List, [], ◌∷◌, length, get_or, drop, sym, subst, inl, inr, arith, drop-cons, below_more}
use Rattle.std.proofs.lemmas.List.{drop_all}
use Rattle.scales.specs.declared.refusal.Refusal.{Refusal}
use Rattle.scales.specs.declared.refusal.Stop.TheVariants.{AlwaysMet, RulesFull}
use Rattle.scales.specs.Stops.{no_place}
use Rattle.scales.specs.Checks.{Check, check, Passes, Refuses}
use Rattle.scales.proofs.Checking.{both_pass, first_refuses, second_refuses}
use Rattle.blocks.specs.declared.bound.Bound.{Bound}
use Rattle.blocks.specs.declared.bound.Bound.TheVariants.{AtMost}
use Rattle.blocks.specs.Bounds.{Profile, Meets}
use Rattle.blocks.specs.Sheets.{Sheet}
use Rattle.blocks.specs.Ranges.{Ranges, Stands, everything, In, narrow}
use Rattle.blocks.specs.Counts.{bounds_below}
use Rattle.blocks.specs.Rules.{MeetsRule, Breakable, Breakers, bound_check, bound_checks, OneToFour, admit_checks}
use Rattle.blocks.proofs.Ranging.{narrow_inside}
use Rattle.blocks.proofs.Counting.{everything_none, one_more}

-- what the checks from the i-th bound on say, the checks of the whole rule say
pub record GoingOn (S : Sheet) (βs : List Bound) (i : ℕ) : Type 0 where
  pub refuses : (e : Refusal) → Refuses (bound_checks S (suc i) (drop i βs)) e → Refuses (bound_checks S 1 βs) e
  pub passes : Passes (bound_checks S (suc i) (drop i βs)) → Passes (bound_checks S 1 βs)

pub going_first : (S : Sheet) (βs : List Bound) → GoingOn S βs 0
going_first S βs = record { refuses = λ e h. h; passes = λ h. h }

-- read where a rule has no bound
abbrev pub no_bound : Bound
no_bound = AtMost 0 0

module _ (S : Sheet) (βs : List Bound) (i : ℕ) (lt : i < length βs) (on : GoingOn S βs i) where
  abbrev here : List Check
  here = bound_check S (suc i) (get_or βs i no_bound)

  next : drop i βs ≡ get_or βs i no_bound ∷ drop (suc i) βs
  next = drop-cons βs i no_bound lt

  abbrev later : List Check
  later = bound_checks S (suc (suc i)) (drop (suc i) βs)

  pub going_fails : (e : Refusal) → Refuses (bound_check S (suc i) (get_or βs i no_bound)) e → Refuses (bound_checks S 1 βs) e
  going_fails e r = on.refuses e (subst (λ (γs : List Bound). Refuses (bound_checks S (suc i) γs) e) (sym next) (first_refuses here later e r))

  pub going_more : Passes (bound_check S (suc i) (get_or βs i no_bound)) → GoingOn S βs (suc i)
  going_more p = record {
    refuses = λ e r. on.refuses e (subst (λ (γs : List Bound). Refuses (bound_checks S (suc i) γs) e) (sym next) (second_refuses here later e p r));
    passes = λ q. on.passes (subst (λ (γs : List Bound). Passes (bound_checks S (suc i) γs)) (sym next) (both_pass here later p q));
  }

pub going_all : (S : Sheet) (βs : List Bound) (i : ℕ) → length βs ≤ i → GoingOn S βs i → Passes (bound_checks S 1 βs)
going_all S βs i l on = on.passes (subst (λ (γs : List Bound). Passes (bound_checks S (suc i) γs)) (sym (drop_all i βs l)) tt)

-- a rule is broken where each of its bounds is
abbrev pub BreaksFirst : List Bound → ℕ → Profile → Type 0
BreaksFirst βs n x = (k : ℕ) → k < n → ¬ Meets x (get_or βs k no_bound)

pub one_met : (x : Profile) (βs : List Bound) (k : ℕ) → k < length βs → Meets x (get_or βs k no_bound) → MeetsRule x βs
one_met x [] k l m = absurd (omega arith)
one_met x (β ∷ βs) zero l m = inl m
one_met x (β ∷ βs) (suc k) l m = inr (one_met x βs k (omega arith) m)

pub none_met : (x : Profile) (βs : List Bound) → BreaksFirst βs (length βs) x → ¬ MeetsRule x βs
none_met x [] h m = m
none_met x (β ∷ βs) h (inl m) = h 0 (omega arith) m
none_met x (β ∷ βs) h (inr m) = none_met x βs (λ k l. h (suc k) (omega arith)) m

-- the region holds just the profiles that break the first i bounds, and has no more bounds than these
pub record BreakingFirst (last : ℕ → ℕ) (βs : List Bound) (i : ℕ) (g : Ranges) : Type 0 where
  pub stands : Stands last g
  pub holds : (x : Profile) → In (everything last) x → In g x ↔ BreaksFirst βs i x
  pub few : length (bounds_below last g 12) ≤ i

pub breaking_none : (last : ℕ → ℕ) (βs : List Bound) → BreakingFirst last βs 0 (everything last)
breaking_none last βs = record {
  stands = λ i. (omega arith, omega arith);
  holds = λ x h. ((λ _ k l. absurd (omega arith)), (λ _. h));
  few = omega (arith, everything_none last 12);
}

module _ (last : ℕ → ℕ) (βs : List Bound) (i : ℕ) (g : Ranges) (inv : BreakingFirst last βs i g) (lt : i < length βs) where
  -- every profile meets the next bound
  pub breaking_fails : ((x : Profile) → In (everything last) x → Meets x (get_or βs i no_bound)) → Breakable last βs → ⊥
  breaking_fails all b = b.2 (one_met b.0 βs i lt (all b.0 b.1))

  module _ (γ : Bound) (opposite : (x : Profile) → Meets x γ ↔ (¬ Meets x (get_or βs i no_bound))) where
    -- no profile of the region breaks the next bound
    pub breaking_stops : ((x : Profile) → In g x → Meets x γ → ⊥) → Breakable last βs → ⊥
    breaking_stops none b =
        let x = b.0 in
        let broken : BreaksFirst βs (length βs) x = λ k l m. b.2 (one_met x βs k l m) in
        none x ((inv.holds x b.1).1 (λ k l. broken k (omega arith))) ((opposite x).1 (broken i lt))

    pub breaking_more : (h : Ranges) → ((j : ℕ) → h.low j ≤ h.high j) → h ≡ narrow γ g → ((x : Profile) → In h x ↔ (In g x × Meets x γ)) → BreakingFirst last βs (i + 1) h
    breaking_more h ordered e both = record {
      stands = λ j.
          let k : h.high j ≤ g.high j = subst (λ (r : Ranges). r.high j ≤ g.high j) (sym e) (narrow_inside g γ j).1 in
          let s = inv.stands j in
          (ordered j, omega arith);
      holds = λ x w. (
        (λ m. below_more (λ k. ¬ Meets x (get_or βs k no_bound)) i ((inv.holds x w).0 ((both x).0 m).0) ((opposite x).0 ((both x).0 m).1)),
        (λ b. (both x).1 ((inv.holds x w).1 (λ k l. b k (omega arith)), (opposite x).1 (b i (omega arith)))),
      );
      few = let n = one_more last g γ 12 in let f = inv.few in subst (λ (r : Ranges). length (bounds_below last r 12) ≤ i + 1) (sym e) (omega arith);
    }

pub breaking_all : (last : ℕ → ℕ) (βs : List Bound) (g : Ranges) → BreakingFirst last βs (length βs) g → Breakers last βs g
breaking_all last βs g inv = record {
  stands = inv.stands;
  breaks = λ x w. ((λ m. none_met x βs ((inv.holds x w).0 m)), (λ n. (inv.holds x w).1 (λ k l m. n (one_met x βs k l m))));
}

-- a block that holds the breakers has one
pub breakers_some : (last : ℕ → ℕ) (βs : List Bound) (g : Ranges) → Breakers last βs g → Breakable last βs
breakers_some last βs g b =
    let whole : In (everything last) g.low = λ i. let s = b.stands i in (omega arith, omega arith) in
    (g.low, whole, (b.breaks g.low whole).0 (λ i. let s = b.stands i in (omega arith, omega arith)))

-- the outcomes of admitting, in the order of the checks
module _ (S : Sheet) (βs : List Bound) (count : OneToFour βs) where
  abbrev behind : List Check
  behind = check AlwaysMet (Breakable S.last βs) ∷ check RulesFull (length S.rules < 48) ∷ []

  pub bound_refused : (e : Refusal) → Refuses (bound_checks S 1 βs) e → Refuses (admit_checks S βs) e
  bound_refused e r = inr (count, first_refuses (bound_checks S 1 βs) behind e r)

  module _ (on : Passes (bound_checks S 1 βs)) where
    pub always_met : (e : Refusal) → e ≡ no_place AlwaysMet → (Breakable S.last βs → ⊥) → Refuses (admit_checks S βs) e
    always_met e is n = inr (count, second_refuses (bound_checks S 1 βs) behind e on (inl (n, is)))

    module _ (some : Breakable S.last βs) where
      pub rules_full : (e : Refusal) → e ≡ no_place RulesFull → 48 ≤ length S.rules → Refuses (admit_checks S βs) e
      rules_full e is n = inr (count, second_refuses (bound_checks S 1 βs) behind e on (inr (some, inl ((λ h. omega arith), is))))

      pub admitted : length S.rules < 48 → Passes (admit_checks S βs)
      admitted room = (count, both_pass (bound_checks S 1 βs) behind on (some, (room, tt)))
