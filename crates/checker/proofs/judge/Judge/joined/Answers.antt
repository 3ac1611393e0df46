use Rattle.checker.specs.Courts.{court_of}
use Rattle.checker.proofs.Asking.{joined_outcome}
use Rattle.checker.proofs.judge.Judge.joined.Goals as goal

pub returns : goal.returns
returns c h =
    joined_outcome (court_of c.args.self.now) c.args.number c.args.setting h c.in_ok-block.ensures.1 c.in_ok-setting.ensures.0.0 c.in_ok-setting.ensures.1 c.resolved.result c.resolved.ensures
