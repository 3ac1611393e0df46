-- The first refusal of two answers.
use Rattle.std.specs.Prelude.{Ok, Err, Result}
use Rattle.scales.specs.declared.refusal.Refusal.{Refusal}

abbrev pub first_refusal : Result (Unit {0}) Refusal → Result (Unit {0}) Refusal → Result (Unit {0}) Refusal
first_refusal (Ok u) next = next
first_refusal (Err e) next = Err e
