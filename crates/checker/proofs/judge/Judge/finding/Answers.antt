use Rattle.checker.specs.Courts.{court_of}
use Rattle.checker.proofs.Soundness.{found_rightly}
use Rattle.checker.proofs.judge.Judge.finding.Goals as goal

pub returns-clause-rightly : goal.returns-clause-rightly
returns-clause-rightly c = found_rightly (court_of c.args.self) c.found.result c.found.ensures
