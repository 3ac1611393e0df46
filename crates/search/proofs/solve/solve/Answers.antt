use Rattle.std.proofs.Common.{inr, ap}
use Rattle.blocks.specs.Problems.{posed}
use Rattle.search.specs.Moves.{verdict_at}
use Rattle.search.specs.Tallies.{feed}
use Rattle.search.proofs.Solving.{verdict_over}
use Rattle.search.proofs.solve.solve.Goals as goal

pub returns-in-Full-clause-solved : goal.returns-in-Full-clause-solved
returns-in-Full-clause-solved g c =
    inr (record {
      room = c.if-area-lt193.false;
      is = c.of-in-Full.ensures;
      count = _;
      stop = _;
      searched = verdict_over g.K.Sink.step (posed c.args.problem.now) c.args.area.now c.run-ended.new.area c.min-used.result c.min-used.ensures (g.K.Sink.model c.args.sink.now) (feed c.run-ended.result.1 (g.K.Sink.model c.run-ended.new.sink)) (ap verdict_at c.in-Full.is) c.run-ended.ensures.ran;
    })

pub returns-in-Found-clause-solved : goal.returns-in-Found-clause-solved
returns-in-Found-clause-solved g c = (c.if-area-lt193.false, verdict_over g.K.Sink.step (posed c.args.problem.now) c.args.area.now c.run-ended.new.area c.min-used.result c.min-used.ensures (g.K.Sink.model c.args.sink.now) (feed c.run-ended.result.1 (g.K.Sink.model c.run-ended.new.sink)) (ap verdict_at c.in-Found.is) c.run-ended.ensures.ran)

pub returns-in-Nothing-clause-solved : goal.returns-in-Nothing-clause-solved
returns-in-Nothing-clause-solved g c = (c.if-area-lt193.false, verdict_over g.K.Sink.step (posed c.args.problem.now) c.args.area.now c.run-ended.new.area c.min-used.result c.min-used.ensures (g.K.Sink.model c.args.sink.now) (feed c.run-ended.result.1 (g.K.Sink.model c.run-ended.new.sink)) (ap verdict_at c.in-Nothing.is) c.run-ended.ensures.ran)
