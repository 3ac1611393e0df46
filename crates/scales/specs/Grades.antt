-- Grades: 1 to 16 different printing bytes, in the order given.
use Rattle.std.specs.Prelude.{◌≡◌, ℕ, suc, ◌<◌, ◌≤◌, cond, List, [], ◌∷◌, length, ◌==◌, ◌≢◌, slice_index}
use Rattle.scales.specs.declared.refusal.Stop.TheVariants.{BadScale}
use Rattle.scales.specs.Checks.{Check, check}

-- each of the first n is a byte from 33 to 126
abbrev pub Printing : List ℕ → ℕ → Type 0
Printing xs n = (i : ℕ) → i < n → (33 ≤ slice_index xs i) × (slice_index xs i ≤ 126)

-- no two of the first n are equal
abbrev pub Different : List ℕ → ℕ → Type 0
Different xs n = (i j : ℕ) → i < j → j < n → slice_index xs i ≢ slice_index xs j

-- a list that makes a grade
pub record GoodList (xs : List ℕ) : Type 0 where
  pub one : 1 ≤ length xs
  pub few : length xs ≤ 16
  pub printing : Printing xs (length xs)
  pub different : Different xs (length xs)

abbrev pub list_checks : List ℕ → List Check
list_checks xs = check BadScale (GoodList xs) ∷ []

-- b is in the list
abbrev pub Among : List ℕ → ℕ → Type 0
Among xs b = (i : ℕ) × (i < length xs) × (slice_index xs i ≡ b)

-- a comes before b in the list
abbrev pub Before : List ℕ → ℕ → ℕ → Type 0
Before xs a b = (i : ℕ) × (j : ℕ) × (i < j) × (j < length xs) × (slice_index xs i ≡ a) × (slice_index xs j ≡ b)

-- where b comes first in the list
abbrev pub first_at : List ℕ → ℕ → ℕ
first_at [] b = 0
first_at (x ∷ xs) b = cond (x == b) 0 (suc (first_at xs b))
