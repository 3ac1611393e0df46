use Rattle.record.proofs.Ending as ending
use Rattle.record.proofs.laws.reading_stands.Goals as goal

pub returns : goal.returns
returns g c = ending.reading_stands g.K.Sink.step
