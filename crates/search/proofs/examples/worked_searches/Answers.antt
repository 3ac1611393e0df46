use Rattle.std.proofs.Common.{◌≡◌, ℕ, zero, suc, ◌≤◌, List, [], ◌∷◌, length, Some, refl, subst, arith}
use Rattle.std.specs.List.{slice_get}
use Rattle.std.proofs.lemmas.Bool.Decides.{nat_tests}
use Rattle.std.proofs.lemmas.Option.{none-some}
use Rattle.blocks.specs.declared.bound.Bound.TheVariants.{AtMost, AtLeast}
use Rattle.blocks.specs.Counts.{bounds_below}
use Rattle.blocks.specs.Ranges.{Ranges, Stands}
use Rattle.blocks.specs.Rules.{rule_block, with_rules}
use Rattle.blocks.specs.Sheets.{Sheet, Proper}
use Rattle.blocks.proofs.Numbers.{some_same}
use Rattle.blocks.specs.Meeting.{two_settings, four_rules}
use Rattle.search.specs.Examples.{nothing}
use Rattle.search.proofs.Listing.{always_ends}
use Rattle.search.proofs.examples.worked_searches.Goals as goal

beyond : (i : ℕ) → 2 ≤ i → two_settings.last i ≡ 0
beyond zero l = absurd (omega arith)
beyond (suc zero) l = absurd (omega arith)
beyond (suc (suc i)) l = refl

abbrev Every : (Ranges → Type 0) → List Ranges → Type 0
Every P [] = Unit {0}
Every P (b ∷ bs) = P b × Every P bs

-- what holds of each of these blocks holds of each that is there
each : (P : Ranges → Type 0) (bs : List Ranges) → Every P bs → (i : ℕ) (b : Ranges) → slice_get bs i ≡ Some b → P b
each P [] h i b e = absurd (none-some _ e)
each P (a ∷ bs) h zero b e = subst P (some_same refl e) h.0
each P (a ∷ bs) h (suc i) b e = each P bs h.1 i b e

abbrev S : Sheet
S = with_rules two_settings four_rules

-- a block over the two settings stands
stands : (b : Ranges) → (b.low 0 ≤ b.high 0) × (b.high 0 ≤ 1) → (b.low 1 ≤ b.high 1) × (b.high 1 ≤ 1) → ((i : ℕ) → (b.low (suc (suc i)) ≡ 0) × (b.high (suc (suc i)) ≡ 0)) → Stands two_settings.last b
stands b h k r zero = h
stands b h k r (suc zero) = k
stands b h k r (suc (suc i)) = let q = r i in (omega arith, omega arith)

four_proper : Proper S
four_proper = record {
  twelve = omega arith;
  beyond = beyond;
  few = omega arith;
  stand = each (Stands two_settings.last) S.rules (stands (rule_block two_settings.last (AtMost 0 0 ∷ AtMost 1 0 ∷ [])) (omega arith, omega arith) (omega arith, omega arith) (λ i. (grind (arith, nat_tests), grind (arith, nat_tests))), (stands (rule_block two_settings.last (AtMost 0 0 ∷ AtLeast 1 1 ∷ [])) (omega arith, omega arith) (omega arith, omega arith) (λ i. (grind (arith, nat_tests), grind (arith, nat_tests))), (stands (rule_block two_settings.last (AtLeast 0 1 ∷ AtMost 1 0 ∷ [])) (omega arith, omega arith) (omega arith, omega arith) (λ i. (grind (arith, nat_tests), grind (arith, nat_tests))), (stands (rule_block two_settings.last (AtLeast 0 1 ∷ AtLeast 1 1 ∷ [])) (omega arith, omega arith) (omega arith, omega arith) (λ i. (grind (arith, nat_tests), grind (arith, nat_tests))), tt))));
  four = each (λ b. length (bounds_below two_settings.last b 12) ≤ 4) S.rules (omega arith, (omega arith, (omega arith, (omega arith, tt))));
}

empty_proper : Proper nothing
empty_proper = record { twelve = omega arith; beyond = λ i l. refl; few = omega arith; stand = λ i b e. absurd (none-some _ e); four = λ i b e. absurd (none-some _ e) }

pub returns : goal.returns
returns c = record {
  four = ((always_ends S four_proper 193).2, (always_ends S four_proper 193).3);
  empty = ((always_ends nothing empty_proper 193).2, (always_ends nothing empty_proper 193).3);
}
