use Rattle.std.proofs.Common.{ap}
use Rattle.checker.specs.Courts.{court_of, phase_of}
use Rattle.checker.proofs.Asking.{told_bare}
use Rattle.checker.proofs.judge.Judge.check.Goals as goal

pub returns-in-Working-Resolve : goal.returns-in-Working-Resolve
returns-in-Working-Resolve c =
    told_bare (court_of c.args.self.now) _ _ c.joined.result c.map-in-Working-Resolve.result c.in-Working-Resolve.is-1 c.in_ok-allow.ensures.0.0 (c.joined.ensures (ap phase_of c.in-Working-Resolve.is-0)) c.map-in-Working-Resolve.ensures.cases
