use Rattle.std.proofs.Common.{◌≡◌, List, length, Ok, Err, Result, refl, ap, inl, inr, arith}
use Rattle.scales.specs.declared.refusal.Refusal.{Refusal}
use Rattle.scales.specs.declared.refusal.Stop.TheVariants.{AreaTooSmall}
use Rattle.scales.specs.Stops.{no_place}
use Rattle.blocks.specs.declared.line.Line.{Line}
use Rattle.blocks.specs.Sinks.{Step}
use Rattle.search.specs.declared.verdict.Verdict.{Verdict as Answered}
use Rattle.search.specs.Solve.{Solved, used}
use Rattle.blocks.specs.Slots.{Slot}
use Rattle.blocks.specs.Sheets.{Sheet, Proper}
use Rattle.search.proofs.Listing.{free_193}
use Rattle.search.proofs.examples.slots_asked.Goals as goal

module _ {M : Type 0} (step : M → Line → Step M) (S : Sheet) (before after : List Slot) (from to : M) where
  small : (r : Result Answered Refusal) → length before ≡ 192 → Solved step S before after from to r → r ≡ Err (no_place AreaTooSmall)
  small (Ok v) e s = let k = s.0 in absurd (omega arith)
  small (Err f) e (inl t) = ap Err t.is
  small (Err f) e (inr t) = let k = t.room in absurd (omega arith)

  serve : (r : Result Answered Refusal) → Proper S → length before ≡ 193 → Solved step S before after from to r → (v : Answered) × (r ≡ Ok v)
  serve (Ok v) pr e s = (v, refl)
  serve (Err f) pr e (inl t) = let k = t.few in absurd (omega arith)
  serve (Err f) pr e (inr t) = absurd (free_193 S pr (used (length before)) (omega arith) t.searched.lines t.searched.end t.searched.run)

pub returns : goal.returns
returns g c = record {
  too_few = λ S before after from to r e s. (small g.K.Sink.step S before after from to r e s, refl);
  enough = λ S before after from to r. serve g.K.Sink.step S before after from to r;
}
