use Rattle.std.proofs.Common.{◌≡◌, ℕ, zero, suc, ◌≢◌, [], ◌∷◌, refl, inl, inr, arith}
use Rattle.std.proofs.lemmas.Bool.{cases_lt}
use Rattle.blocks.specs.declared.bound.Bound.TheVariants.{AtMost, AtLeast}
use Rattle.blocks.specs.Bounds.{Profile}
use Rattle.blocks.specs.Ranges.{everything, In, Overlap}
use Rattle.blocks.specs.Rules.{MeetsRule}
use Rattle.blocks.specs.Examples.{one_setting, span}
use Rattle.blocks.proofs.examples.worked_blocks.Goals as goal

abbrev four : Profile
four zero = 4
four (suc i) = 0

four_in : In (everything (one_setting 9).last) four
four_in zero = (omega arith, omega arith)
four_in (suc i) = (omega arith, omega arith)

breaks : (x : Profile) → x 0 ≡ 4 → ¬ MeetsRule x (AtMost 0 3 ∷ AtLeast 0 5 ∷ [])
breaks x e (inl m) = omega arith
breaks x e (inr (inl m)) = omega arith
breaks x e (inr (inr m)) = m

is_four : (x : Profile) → (¬ MeetsRule x (AtMost 0 3 ∷ AtLeast 0 5 ∷ [])) → x 0 ≡ 4
is_four x n = elim (cases_lt (x 0) 4) [
  | inl l ↦ absurd (n (inl (omega arith)))
  | inr l ↦ elim (cases_lt 4 (x 0)) [ inl k ↦ absurd (n (inr (inl k))) | inr k ↦ omega arith ]
]

meets : (x : Profile) → MeetsRule x (AtMost 0 3 ∷ AtLeast 0 4 ∷ [])
meets x = elim (cases_lt (x 0) 4) [ inl l ↦ inl (omega arith) | inr l ↦ inr (inl l) ]

overlaps : (i : ℕ) → i ≢ 0 → Overlap (span 0 30) (span 31 63) i
overlaps zero n = absurd (n refl)
overlaps (suc i) n = (omega arith, omega arith)

pub returns : goal.returns
returns c = record {
  always = inr ((omega arith, omega arith), inr (omega arith, inr (omega arith, inr (omega arith, inr (omega arith, inl ((λ b. b.2 (meets b.0)), refl))))));
  taken = ((omega arith, omega arith), (omega arith, (omega arith, (omega arith, (omega arith, ((four, four_in, breaks four refl), (omega arith, tt)))))));
  only_four = λ x w. (is_four x, breaks x);
  adjoin = (record { joins = (omega arith, omega arith); others = overlaps }, tt);
  whole = (refl, refl);
  apart = inl ((λ r. let j = r.joins in omega arith), refl);
}
