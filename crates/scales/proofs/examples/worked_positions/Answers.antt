use Rattle.std.proofs.Common.{◌≡◌, ℕ, nat_abs, refl, ap, inl, inr, ⊎_elim, arith, rules}
use lib.Ieee.{to_bits}
use Rattle.scales.proofs.examples.worked_positions.Goals as goal

pub returns : goal.returns
unfolding to_bits
returns c = record {
  minus_one = refl;
  minus_zero = refl;
  plus_zero = refl;
  plus_one = refl;
  window_made = record { from_on = search rules; to_on = search rules; in_order = inr (search rules) };
  last_at = (search rules, refl);
  one_past = inl (λ h. omega arith, refl);
  reversed = inl (λ h. ⊎_elim (λ e. let d : ◌≡◌ {A = ℕ} 64 1 = ap nat_abs e in omega arith) (λ l. search rules) h.in_order, refl);
}
