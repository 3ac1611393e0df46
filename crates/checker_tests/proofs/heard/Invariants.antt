use Rattle.std.proofs.Common.{◌≡◌, drop}
use Rattle.blocks.specs.Sinks.{state_after}
use Rattle.checker.specs.Courts.{court_of}
use Rattle.checker.specs.Steps.{step}
use Rattle.checker_tests.proofs.heard.Given as goal

abbrev pub invariant-loop-line : goal.invariant-loop-line
invariant-loop-line l = state_after step (court_of l.judge) (drop l.line-index l.lines) ≡ state_after step (court_of l.initial.judge) l.lines
