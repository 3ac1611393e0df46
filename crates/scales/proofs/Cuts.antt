-- A window has just the values between its ends, counted from the first.
use Rattle.std.proofs.Common.{◌≡◌, ℕ, ◌≤◌, arith}
use Rattle.scales.specs.Models.{ScaleModel, Keeps}
use Rattle.scales.specs.Windows.{NotAfter, GoodEnds, WindowOf}

module _ (m : ScaleModel) (k : Keeps m) where
  -- the order is that of the positions
  pub not_after→le : (v w : m.Value) → m.On v → m.On w → NotAfter m v w → m.position v ≤ m.position w
  not_after→le v w o q t = grind (arith, k.earlier_smaller v w o q)

  pub le→not_after : (v w : m.Value) → m.On v → m.On w → m.position v ≤ m.position w → NotAfter m v w
  le→not_after v w o q h = grind (arith, k.total v w o q, k.earlier_smaller w v q o)

  pub good_ends : (from to : m.Value) → m.On from → m.On to → m.position from ≤ m.position to → GoodEnds m from to
  good_ends from to a b h = record { from_on = a; to_on = b; in_order = le→not_after from to a b h }

  pub window_of : (from to : m.Value) (first end : ℕ) → m.On from → m.On to → first ≡ m.position from → end ≡ m.position to → first ≤ end → WindowOf m from to first end
  window_of from to first end a b f e h =
      let fw = k.place_within from a in
      let tw = k.place_within to b in
      record {
        first_is = f;
        end_is = e;
        values = λ v. (
          λ o. (o.0, le→not_after from v a o.0 (omega arith), le→not_after v to o.0 b (omega arith)),
          λ o. (o.0, omega (arith, not_after→le from v a o.0 o.1), omega (arith, not_after→le v to o.0 b o.2)),
        );
        counted = λ v o n. omega (arith, not_after→le from v a o n);
        last = omega arith;
      }
