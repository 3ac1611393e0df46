use Rattle.scales.proofs.Choosing.{choices_stand}
use Rattle.scales.proofs.settings.choices_stand.Goals as goal

pub returns : goal.returns
returns g c s = choices_stand (g.R.Settings.models s)
