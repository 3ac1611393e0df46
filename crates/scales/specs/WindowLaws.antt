-- A window of a scale keeps the laws that the scale keeps.
use Rattle.std.specs.Prelude.{◌≡◌, ℕ, ◌+◌, ◌-◌, ◌≤◌, min}
use Rattle.std.proofs.Common.{ap, ◌∙◌, arith}
use Rattle.scales.specs.Models.{ScaleModel, Keeps}
use Rattle.scales.specs.Windows.{low, cut}

module _ (m : ScaleModel) (k : Keeps m) where
  module _ (first end : ℕ) (ordered : first ≤ end) where
    at_most : (p : ℕ) → p ≤ min end m.top - low m first → p + low m first ≤ m.top
    at_most p h = omega arith

    pub window_laws : Keeps (cut m first end)
    window_laws = record {
      small = let s = k.small in omega arith;
      place_within = λ v o. omega (arith, k.place_within v o.0);
      value_on = λ p h. let e = k.place_value (p + low m first) (at_most p h) in (k.value_on (p + low m first) (at_most p h), omega arith, omega arith);
      place_value = λ p h. omega (arith, k.place_value (p + low m first) (at_most p h));
      value_place = λ v o. let e : m.position v - low m first + low m first ≡ m.position v = omega arith in ap m.standing e ∙ k.value_place v o.0;
      earlier_smaller = λ v w o q e. omega (arith, k.earlier_smaller v w o.0 q.0 e);
      total = λ v w o q. k.total v w o.0 q.0;
      chain = λ u v w a b c. k.chain u v w a.0 b.0 c.0;
    }
