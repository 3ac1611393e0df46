-- Worked positions, over the definitions that the calls' contracts cite.
use Rattle.std.specs.Prelude.{◌≡◌, true, false, ℤ, pos}
use Rattle.std.specs.Float.{fin}
use Rattle.scales.specs.declared.refusal.Stop.TheVariants.{OffScale, BadScale}
use Rattle.scales.specs.contracts.whole.WholeScale.TheImpl.{ghosts as whole_ghosts}
use Rattle.scales.specs.Stops.{no_place}
use Rattle.scales.specs.Checks.{Refuses}
use Rattle.scales.specs.Answers.{on_scale}
use Rattle.scales.specs.Models.{ScaleModel, model_of}
use Rattle.scales.specs.Readings.{place_reading}
use Rattle.scales.specs.Windows.{GoodEnds, end_checks, cut}

-- the whole numbers, and their window from one number to another
abbrev pub whole : ScaleModel
whole = model_of whole_ghosts (record {})

abbrev pub window : ℤ → ℤ → ScaleModel
window from to = cut whole (whole.position from) (whole.position to)

pub record WorkedPositions : Type 0 where
  pub minus_one : place_reading (fin true 1 (pos 0)) ≡ 1073741824
  pub minus_zero : place_reading (fin true 0 (pos 0)) ≡ 2139095040
  pub plus_zero : place_reading (fin false 0 (pos 0)) ≡ 2139095041
  pub plus_one : place_reading (fin false 1 (pos 0)) ≡ 3204448257
  -- in the window 1 to 64, 64 stands at 63 and 65 is refused
  pub window_made : GoodEnds whole (pos 1) (pos 64)
  pub last_at : ((window (pos 1) (pos 64)).On (pos 64)) × ((window (pos 1) (pos 64)).position (pos 64) ≡ 63)
  pub one_past : Refuses (on_scale ((window (pos 1) (pos 64)).On (pos 65))) (no_place OffScale)
  -- the window 64 to 1 is refused
  pub reversed : Refuses (end_checks whole (pos 64) (pos 1)) (no_place BadScale)
