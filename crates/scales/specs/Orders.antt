-- The laws of a scale, from the order of its positions.
use Rattle.std.specs.Prelude.{◌≡◌, ℕ, ◌<◌, ◌≤◌}
use Rattle.std.proofs.Common.{sym, ap, subst, ◌∙◌, arith}
use Rattle.scales.specs.Laws.{ScaleLaws}

module _ {V : Type 0} (on : V → Type 0) (earlier : V → V → Type 0) (position : V → ℕ) (standing : ℕ → V) (top : ℕ)
    (small : top ≤ 4294967294)
    (within : (v : V) → on v → position v ≤ top)
    (value_on : (p : ℕ) → p ≤ top → on (standing p))
    (place_value : (p : ℕ) → p ≤ top → position (standing p) ≡ p)
    (value_place : (v : V) → on v → standing (position v) ≡ v)
    (in_order : (p q : ℕ) → p < q → q ≤ top → earlier (standing p) (standing q))
    (asym : (v w : V) → earlier v w → earlier w v → ⊥) where
  by_places : (v w : V) → on v → on w → position v < position w → earlier v w
  by_places v w o q h =
      subst (λ (x : V). earlier x w) (value_place v o) (subst (λ (y : V). earlier (standing (position v)) y) (value_place w q) (in_order (position v) (position w) h (within w q)))

  same_place : (v w : V) → on v → on w → position v ≡ position w → v ≡ w
  same_place v w o q e = sym (value_place v o) ∙ ap standing e ∙ value_place w q

  smaller : (v w : V) → on v → on w → earlier v w → position v < position w
  smaller v w o q e = grind (arith, same_place v w o q, by_places w v q o, asym v w, e)

  pub laws_by_places : ScaleLaws on earlier position standing top
  laws_by_places = record {
    small = small;
    place_within = within;
    value_on = value_on;
    place_value = place_value;
    value_place = value_place;
    earlier_smaller = smaller;
    total = λ v w o q. grind (arith, same_place v w o q, by_places v w o q, by_places w v q o);
    chain = λ u v w a b c d e. let l = smaller u v a b d in let k = smaller v w b c e in by_places u w a c (omega arith);
  }
