use Rattle.std.proofs.Common.{ℕ, zero, suc, ◌≤◌, ◌⊎◌, [], ◌∷◌, get_or, refl, inl, inr, arith}
use Rattle.std.proofs.lemmas.Bool.{false≢true}
use Rattle.blocks.specs.Bounds.{Profile}
use Rattle.blocks.specs.Ranges.{everything, In}
use Rattle.blocks.specs.Meeting.{two_settings}
use Rattle.checker.proofs.examples.worked_grounds.Goals as goal

-- x and y at these positions
abbrev at : ℕ → ℕ → Profile
at x y i = get_or (x ∷ y ∷ []) i 0

there : (x y : ℕ) → x ≤ 1 → y ≤ 1 → In (everything two_settings.last) (at x y)
there x y h k zero = (omega arith, h)
there x y h k (suc zero) = (omega arith, k)
there x y h k (suc (suc i)) = (omega arith, omega arith)

neither : {P Q : Type 0} → (P → ⊥) → (Q → ⊥) → P ⊎ (Q ⊎ ⊥) → ⊥
neither p q (inl h) = p h
neither p q (inr (inl h)) = q h
neither p q (inr (inr h)) = h

-- a rule of two bounds is admitted before the others, where some profile breaks both
admitted : {A B C D E F G Rest : Type 0} {P : Profile → Type 0} → A × B → C × D × E × F → (x : Profile) → In (everything two_settings.last) x → P x → G → Rest
    → (A × B) × (C × (D × (E × (F × (((x : Profile) × In (everything two_settings.last) x × P x) × (G × Rest))))))
admitted count (a, b, c, d) x w n room rest = (count, (a, (b, (c, (d, ((x, w, n), (room, rest)))))))

pub returns : goal.returns
returns c = record {
  end_first = λ S m. (refl, inl (false≢true, refl));
  admitted =
      admitted (omega arith, omega arith) (omega arith, omega arith, omega arith, omega arith) (at 1 1) (there 1 1 (omega arith) (omega arith)) (neither (λ h. omega arith) (λ h. omega arith)) (omega arith)
      (admitted (omega arith, omega arith) (omega arith, omega arith, omega arith, omega arith) (at 1 0) (there 1 0 (omega arith) (omega arith)) (neither (λ h. omega arith) (λ h. omega arith)) (omega arith)
      (admitted (omega arith, omega arith) (omega arith, omega arith, omega arith, omega arith) (at 0 1) (there 0 1 (omega arith) (omega arith)) (neither (λ h. omega arith) (λ h. omega arith)) (omega arith)
      (admitted (omega arith, omega arith) (omega arith, omega arith, omega arith, omega arith) (at 0 0) (there 0 0 (omega arith) (omega arith)) (neither (λ h. omega arith) (λ h. omega arith)) (omega arith)
      tt)));
  taken = refl;
  accepted = refl;
}
