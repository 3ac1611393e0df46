use Rattle.series.proofs.Exactness.{sheet_exact}
use Rattle.series.proofs.standing.sheet_exact.Goals as goal

pub returns : goal.returns
returns c = sheet_exact
