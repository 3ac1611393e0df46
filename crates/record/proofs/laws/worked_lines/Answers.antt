use Rattle.std.proofs.Common.{◌≡◌, ℕ, List, get_or, codes, refl, ap, arith}
use Rattle.std.specs.Fmt.{digits}
use Rattle.blocks.specs.Lines.{block_number}
use Rattle.record.specs.Examples.{ended, WorkedLines}
use Rattle.record.proofs.Deciding.{misspelt}
use Rattle.record.proofs.laws.worked_lines.Goals as goal

-- two texts that differ at one place
differ : (k : ℕ) (xs ys : List ℕ) → (get_or xs k 0 ≡ get_or ys k 0 → ⊥) → xs ≡ ys → ⊥
differ k xs ys n e = n (ap (λ zs. get_or zs k 0) e)

worked : WorkedLines
unfolding digits
worked = record {
  take_3 = refl;
  resolve_2 = refl;
  keep_100 = refl;
  end = refl;
  largest = refl;
  zero_before = misspelt (ended (codes "t   03  0")) (block_number 3) refl refl (differ 4 _ _ (λ e. omega arith));
  minus = misspelt (ended (codes "t   -3  0")) (block_number 3) refl refl (differ 4 _ _ (λ e. omega arith));
  unused = misspelt (ended (codes "t    3  1")) (block_number 3) refl refl (differ 8 _ _ (λ e. omega arith));
}

pub returns : goal.returns
returns c = worked
