-- A number in a line is determined by itself, whatever the proof is that it is small.
use Rattle.std.proofs.Common.{◌≡◌, ℕ, ◌≤◌, subst}
use native.Mathlib.Bridge.{le_prop}
use Rattle.blocks.specs.declared.line.numbers.Number.{Number}

pub same_number : {max : ℕ} (a b : Number max) → a.number ≡ b.number → a ≡ b
same_number {max} a b e = subst (λ (n : ℕ). (q : n ≤ max) → a ≡ record { number = n; small = q }) e (λ q i. record { number = a.number; small = le_prop a.small q i }) b.small
