use Rattle.std.proofs.Common.{rules}
use Rattle.checker.specs.Courts.{court_of}
use Rattle.checker.specs.Hearing.{Takes}
use Rattle.checker.proofs.Stepping.{told_by_number, just_takes, is_step}
use Rattle.checker.proofs.Values.{real_court}
use Rattle.checker.proofs.judge.take.JudgeSink.take.Goals as goal

pub returns : goal.returns
returns c =
    let j = c.args.self.now in
    let r = c.map_err.result in
    let after = court_of c.hear.new.self in
    let t : Takes (court_of j) c.args.line r after = told_by_number (court_of j) c.args.line c.hear.result r after c.hear.ensures.outcome (λ e n q. search rules) c.map_err.ensures.cases in
    let s = is_step (court_of j) (real_court j) c.args.line r after t in
    record { answer = s.0; state = s.1; kept = c.hear.ensures.lent; law = just_takes (court_of j) c.args.line r after t }
