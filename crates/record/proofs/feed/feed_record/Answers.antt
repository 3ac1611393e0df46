use Rattle.std.proofs.Common.{rules, ◌∙◌}
use Rattle.std.specs.Iterator.Adapters.{enumerate_source, enumerate_count}
use Rattle.std.specs.Slice.Iter.{chunks_rest}
use Rattle.std.proofs.lemmas.Result.{err_from_is_err_and}
use Rattle.record.proofs.Feeding.{one_more, all_read, stopped}
use Rattle.record.proofs.feed.feed_record.Goals as goal

pub returns-in_err-feed_line-clause-read : goal.returns-in_err-feed_line-clause-read
returns-in_err-feed_line-clause-read g c =
    let k = g.K.Sink in
    let steps = c.in-Some.ensures.steps in
    let cut = steps.0 in
    let so = c.loop-before.invariant.3 in
    let p = err_from_is_err_and c.from_residual.result c.from_residual.ensures.1 in
    rw (p.1, p.2) (stopped k.step (k.model c.args.sink.now) c.args.bytes.now (chunks_rest (enumerate_source c.loop-before.before-iterator)) c.in-Some.line.now _ c.in-Some.before
    (k.model c.loop-before.sink) (k.model c.feed_line.new.sink) c.in_err-feed_line.field-0.0
    (rw steps.1 so) cut.1.2 cut.1.0 (rw c.loop-before.invariant.2 at cut.1.1) c.in_err-feed_line.ensures.fed)

pub loop-before-preserved : goal.loop-before-preserved
loop-before-preserved g c =
    let k = g.K.Sink in
    let steps = c.in-Some.ensures.steps in
    let cut = steps.0 in
    let fed = c.in_ok-feed_line.ensures in (
      search rules,
      tt,
      cut.0 ∙ c.loop-before.invariant.2,
      rw steps.2 (one_more k.step (k.model c.args.sink.now) c.args.bytes.now (chunks_rest (enumerate_source c.loop-before.before-iterator)) c.in-Some.line.now _ (enumerate_count c.loop-before.before-iterator)
          (k.model c.loop-before.sink) (k.model c.feed_line.new.sink) fed.fed.0
          c.loop-before.invariant.3 cut.1.0 fed.fed.1 fed.fed.2),
      cc fed.kept,
    )

pub returns-clause-read : goal.returns-clause-read
returns-clause-read g c = all_read _ _ _ _ _ _ c.loop-before.invariant.3 c.in-None.ensures.steps.0.1.0
