-- Worked rules and blocks, over the definitions that the calls' contracts cite.
use Rattle.std.specs.Prelude.{◌≡◌, ℕ, ◌↔◌, [], ◌∷◌, slice_index}
use Rattle.scales.specs.declared.refusal.Stop.TheVariants.{AlwaysMet, NotResolvable}
use Rattle.scales.specs.Stops.{no_place}
use Rattle.scales.specs.Checks.{Passes, Refuses}
use Rattle.blocks.specs.declared.bound.Bound.TheVariants.{AtMost, AtLeast}
use Rattle.blocks.specs.Bounds.{Profile}
use Rattle.blocks.specs.Ranges.{Ranges, everything, In, resolve}
use Rattle.blocks.specs.Sheets.{Sheet}
use Rattle.blocks.specs.Rules.{MeetsRule, admit_checks}
use Rattle.blocks.specs.Views.{resolve_checks}

-- one setting of this last position, and no rule
abbrev pub one_setting : ℕ → Sheet
one_setting last = record { count = 1; last = λ i. slice_index (last ∷ []) i; rules = [] }

-- these positions on the one setting
abbrev pub span : ℕ → ℕ → Ranges
span low high = record { low = λ i. slice_index (low ∷ []) i; high = λ i. slice_index (high ∷ []) i }

pub record WorkedBlocks : Type 0 where
  -- at most 3 or at least 4 is met by every profile
  pub always : Refuses (admit_checks (one_setting 9) (AtMost 0 3 ∷ AtLeast 0 4 ∷ [])) (no_place AlwaysMet)
  -- at most 3 or at least 5 is admitted, and forbids only 4
  pub taken : Passes (admit_checks (one_setting 9) (AtMost 0 3 ∷ AtLeast 0 5 ∷ []))
  pub only_four : (x : Profile) → In (everything (one_setting 9).last) x → (¬ MeetsRule x (AtMost 0 3 ∷ AtLeast 0 5 ∷ [])) ↔ (x 0 ≡ 4)
  -- 0 to 30 and 31 to 63 resolve to 0 to 63; 0 to 30 and 32 to 63 do not
  pub adjoin : Passes (resolve_checks 0 (span 0 30) (span 31 63))
  pub whole : ((resolve 0 (span 0 30) (span 31 63)).low 0 ≡ 0) × ((resolve 0 (span 0 30) (span 31 63)).high 0 ≡ 63)
  pub apart : Refuses (resolve_checks 0 (span 0 30) (span 32 63)) (no_place NotResolvable)
