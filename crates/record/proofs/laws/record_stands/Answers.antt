use Rattle.record.proofs.Filling as filling
use Rattle.record.proofs.laws.record_stands.Goals as goal

pub returns : goal.returns
returns c = filling.record_stands
