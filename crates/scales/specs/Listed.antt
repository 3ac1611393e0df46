-- A list of different bytes keeps the laws of a scale.
use Rattle.std.specs.Prelude.{◌≡◌, ℕ, zero, suc, ◌-◌, ◌<◌, Bool, cond, T, List, [], ◌∷◌, length, ◌==◌, ◌≢◌, slice_index, refl}
use Rattle.std.proofs.Common.{sym, ap, subst, ◌∙◌, arith, eqb→eq}
use Rattle.std.proofs.Math.Dec.{eqb_refl, not_T}
use Rattle.std.specs.Float.Ieee.Bits.{is_true, cond_no}
use Rattle.scales.specs.Laws.{ScaleLaws}
use Rattle.scales.specs.Grades.{Different, GoodList, Among, Before, first_at}
use Rattle.scales.specs.Orders.{laws_by_places}

-- where b stands and does not stand earlier, it comes first
pub first_is : (xs : List ℕ) (b i : ℕ) → i < length xs → slice_index xs i ≡ b → ((k : ℕ) → k < i → slice_index xs k ≢ b) → first_at xs b ≡ i
first_is [] b i h e none = absurd (omega arith)
first_is (x ∷ xs) b zero h e none = ap (λ (t : Bool). cond t 0 (suc (first_at xs b))) (is_true (x == b) (subst (λ (y : ℕ). T (x == y)) e (eqb_refl x)))
first_is (x ∷ xs) b (suc i) h e none =
    cond_no (x == b) 0 (suc (first_at xs b)) (not_T (x == b) (λ t. none 0 (omega arith) (eqb→eq x b t)))
    ∙ ap suc (first_is xs b i (omega arith) e (λ k l. none (suc k) (omega arith)))

module _ (xs : List ℕ) (different : Different xs (length xs)) where
  same_index : (i j : ℕ) → i < length xs → j < length xs → slice_index xs i ≡ slice_index xs j → i ≡ j
  same_index i j a b e = grind (arith, different i j, different j i)

  index_of : (b : ℕ) (a : Among xs b) → first_at xs b ≡ a.0
  index_of b a = first_is xs b a.0 a.1 a.2 (λ k l d. different k a.0 l a.1 (d ∙ sym a.2))

  one_way : (a b : ℕ) → Before xs a b → Before xs b a → ⊥
  one_way a b p q =
      let e : p.0 ≡ q.1 = same_index p.0 q.1 (omega arith) q.3 (p.4 ∙ sym q.5) in
      let d : p.1 ≡ q.0 = same_index p.1 q.0 p.3 (omega arith) (p.5 ∙ sym q.4) in
      omega arith

pub grade_laws : (xs : List ℕ) → GoodList xs → ScaleLaws (Among xs) (Before xs) (first_at xs) (λ p. slice_index xs p) (length xs - 1)
grade_laws xs good =
    let one = good.one in
    let few = good.few in
    laws_by_places (Among xs) (Before xs) (first_at xs) (λ p. slice_index xs p) (length xs - 1) (omega arith)
    (λ v o. omega (arith, index_of xs good.different v o, o.1))
    (λ p h. (p, omega arith, refl))
    (λ p h. index_of xs good.different (slice_index xs p) (p, omega arith, refl))
    (λ v o. ap (λ (i : ℕ). slice_index xs i) (index_of xs good.different v o) ∙ o.2)
    (λ p q h k. (p, q, h, omega arith, refl, refl))
    (one_way xs good.different)
