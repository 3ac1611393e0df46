-- A list after one write.
use Rattle.std.proofs.Common.{ℕ, ◌+◌, ◌<◌, ◌≤◌, leb, ◌≢◌, List, length, get_or, set, MatchBool, sym, subst, inl, inr, arith, below_more}
use Rattle.std.proofs.lemmas.List.{get_or-set_same, get_or-set_other}
use Rattle.std.proofs.lemmas.Bool.{cases_eq, cases_lt, le-leb, lt-leb}

-- what holds of the written place and of every other holds of each
pub set_each : (P : ℕ → ℕ → Type 0) (xs : List ℕ) (n v : ℕ) → n < length xs → P n v → ((i : ℕ) → i ≢ n → P i (get_or xs i 0)) → (i : ℕ) → P i (get_or (set xs n v) i 0)
set_each P xs n v h here there i = elim (cases_eq i n) [
  | inl e ↦ subst (λ (k : ℕ). P k (get_or (set xs n v) k 0)) (sym e) (subst (P n) (sym (get_or-set_same xs n v 0 h)) here)
  | inr k ↦ subst (P i) (sym (get_or-set_other xs n i v 0 k)) (there i k)
]

-- what holds of the first n and of all behind them holds of each
pub each_of : (P : ℕ → Type 0) (n : ℕ) → ((k : ℕ) → k < n → P k) → ((k : ℕ) → n ≤ k → P k) → (k : ℕ) → P k
each_of P n first rest k = elim (cases_lt k n) [ inl l ↦ first k l | inr l ↦ rest k l ]

-- an answer by a comparison
pub when_le : (a b : ℕ) (P : Type 0) → (a ≤ b → P) → (P → a ≤ b) → MatchBool (leb a b) P (P → ⊥)
when_le a b P yes' no' = elim (cases_lt b a) [
  | inl l ↦ rw (lt-leb a b l) (λ p. let k = no' p in omega arith)
  | inr l ↦ rw (le-leb a b l) (yes' l)
]

-- what holds of the first n and of what is written behind them holds of each after the write
pub set_more : {X : Type 0} (P : ℕ → X → Type 0) (xs : List X) (n : ℕ) (v d : X) → n < length xs → ((k : ℕ) → k < n → P k (get_or xs k d)) → P n v
    → (k : ℕ) → k < n + 1 → P k (get_or (set xs n v) k d)
set_more P xs n v d h first here = below_more (λ k. P k (get_or (set xs n v) k d)) n
    (λ k l. let ne : k ≢ n = omega arith in subst (P k) (sym (get_or-set_other xs n k v d ne)) (first k l))
    (subst (P n) (sym (get_or-set_same xs n v d h)) here)
