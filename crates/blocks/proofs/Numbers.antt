-- Blocks by their numbers, and what holds of each.
use Rattle.std.proofs.Common.{◌≡◌, ℕ, ◌+◌, ◌-◌, eqb, ◌≢◌, List, Some, None, Option, sym, ap, ◌∙◌, subst, inl, inr, arith}
use Rattle.std.specs.Map.{update}
use Rattle.std.specs.List.{slice_get}
use Rattle.std.proofs.lemmas.Map.{update_here, update_apart}
use Rattle.std.proofs.lemmas.Bool.{cases_eq, cases_lt, lt-ltb, le-ltb}
use Rattle.blocks.specs.Bounds.{Profile}
use Rattle.blocks.specs.Ranges.{Ranges, Stands, In}
use Rattle.blocks.specs.Sheets.{Sheet, Proper, block_at, Breaks}

pub block_at_slot : (rules : List Ranges) (slots : ℕ → Option Ranges) (j : ℕ) → block_at rules slots (100 + j) ≡ slots j
block_at_slot rules slots j = rw (le-ltb (100 + j) 100 (omega arith)) (ap slots (omega arith))

pub put_here : (rules : List Ranges) (slots : ℕ → Option Ranges) (j : ℕ) (o : Option Ranges) → block_at rules (update eqb slots j o) (100 + j) ≡ o
put_here rules slots j o = block_at_slot rules (update eqb slots j o) j ∙ update_here slots j o

pub put_apart : (rules : List Ranges) (slots : ℕ → Option Ranges) (j : ℕ) (o : Option Ranges) (k : ℕ) → k ≢ 100 + j → block_at rules (update eqb slots j o) k ≡ block_at rules slots k
put_apart rules slots j o k n = elim (cases_lt k 100) [
  | inl l ↦ rw (lt-ltb k 100 l)
  | inr l ↦ rw (le-ltb k 100 l) (update_apart slots j o (k - 100) (λ e. n (omega arith)))
]

pub some_same : {o : Option Ranges} {a b : Ranges} → o ≡ Some a → o ≡ Some b → a ≡ b
some_same p q = cc

-- what holds of every block and of the one put in holds of every block after
pub put_all : (P : Ranges → Type 0) (rules : List Ranges) (slots : ℕ → Option Ranges) (j : ℕ) (w : Ranges) → ((k : ℕ) (b : Ranges) → block_at rules slots k ≡ Some b → P b) → P w
    → (k : ℕ) (b : Ranges) → block_at rules (update eqb slots j (Some w)) k ≡ Some b → P b
put_all P rules slots j w all new k b e = elim (cases_eq k (100 + j)) [
  | inl p ↦ subst P (some_same (ap (block_at rules (update eqb slots j (Some w))) p ∙ put_here rules slots j (Some w)) e) new
  | inr n ↦ all k b (sym (put_apart rules slots j (Some w) k n) ∙ e)
]

-- every profile in the block breaks some rule
abbrev pub Implied : Sheet → Ranges → Type 0
Implied S b = (x : Profile) → In b x → Breaks S x

abbrev pub Lawful : Sheet → (ℕ → Option Ranges) → Type 0
Lawful S blocks = (k : ℕ) (b : Ranges) → blocks k ≡ Some b → Stands S.last b × Implied S b

-- at the start the rules are the blocks
pub block_at_start : (S : Sheet) (k : ℕ) (b : Ranges) → block_at S.rules (λ _. None) k ≡ Some b → slice_get S.rules k ≡ Some b
block_at_start S k b e = elim (cases_lt k 100) [
  | inl l ↦ rw (lt-ltb k 100 l) at e
  | inr l ↦ let f : ◌≡◌ {A = Option Ranges} None (Some b) = rw (le-ltb k 100 l) at e in let z : ◌≡◌ {A = ℕ} 0 1 = cc in absurd (omega arith)
]

pub lawful_start : (S : Sheet) → Proper S → Lawful S (block_at S.rules (λ _. None))
lawful_start S pr k b e = let f = block_at_start S k b e in (pr.stand k b f, λ x h. (k, b, f, h))
