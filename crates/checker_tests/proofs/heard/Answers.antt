use Rattle.std.proofs.Common.{sym, ◌∙◌}
use Rattle.std.proofs.lemmas.List.{at_drop_all}
use Rattle.blocks.specs.Sinks.{state_after}
use Rattle.checker.specs.Courts.{court_of}
use Rattle.checker.specs.Steps.{step}
use Rattle.checker_tests.proofs.Hearing.{one_more}
use Rattle.checker_tests.proofs.heard.Goals as goal

pub loop-line-preserved : goal.loop-line-preserved
loop-line-preserved c =
    one_more c.args.lines.now c.loop-line.line-index c.line-item.result (court_of c.loop-line.judge) (court_of c.take.new.self) _ c.loop-line-test.true c.line-item.is c.take.ensures.state c.loop-line.invariant

pub returns : goal.returns
returns c e = sym (at_drop_all (state_after step (court_of c.loop-line.judge)) c.args.lines.now c.loop-line.line-index c.loop-line-test.false) ∙ c.loop-line.invariant
