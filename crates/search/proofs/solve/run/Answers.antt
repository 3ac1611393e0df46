use Rattle.std.proofs.Common.{◌≡◌, List, sym, refl, ap, ◌∙◌, subst, subst₂, arith}
use Rattle.blocks.specs.declared.problem.Problem.{Problem}
use Rattle.blocks.specs.Problems.{posed}
use Rattle.blocks.specs.Ranges.{everything}
use Rattle.blocks.specs.Slots.{Slot}
use Rattle.blocks.specs.Views.{last_at}
use Rattle.blocks.proofs.Properness.{problem_proper}
use Rattle.search.specs.declared.course.Course.{Course}
use Rattle.search.specs.declared.tally.Tally.{Tally}
use Rattle.search.specs.Moves.{Goes, Stops, feed_in, verdict_at}
use Rattle.search.specs.Solve.{Ran}
use Rattle.search.specs.Tallies.{feed, untold}
use Rattle.search.proofs.Running.{UnderWay, starts, goes_further, less, comes_to}
use Rattle.search.proofs.solve.run.Goals as goal

pub loop-ended-init : goal.loop-ended-init
loop-ended-init g c =
    let p = c.args.problem.now in
    let f = feed untold (g.K.Sink.model c.args.sink.now) in
    let course : Course = record { trail = c.new.result; region = c.everything.result; filled = 0; next = 0 } in
    let made : untold ≡ c.default.result = sym (λ i. record { lines = c.default.ensures.0 i; refused = c.default.ensures.1 i }) in (
      subst (λ (t : Tally). UnderWay g.K.Sink.step (posed p) (problem_proper p) c.args.area.now f course c.args.area.now (feed t f.state)) made
          (starts g.K.Sink.step (posed p) (problem_proper p) c.args.area.now f course c.new.ensures (c.everything.ensures ∙ ap (λ l. everything (last_at l)) c.lasts.ensures) refl refl c.requires),
      record { problem = refl; area = refl; sink = refl; lent_too = refl },
    )

-- the search had the area and the sink until here, and so they are as it left them
pub returns-in-Some-clause-ran : goal.returns-in-Some-clause-ran
returns-in-Some-clause-ran g c =
    let p = c.args.problem.now in
    let l = c.loop-ended.search in
    let new = c.step.new.self in
    let inv = c.loop-ended.invariant in
    let model = g.K.Sink.model in
    let area = sym (c.in-Some.ensures.kept.area ∙ inv.1.area) in
    let sink = sym (c.in-Some.ensures.kept.sink ∙ inv.1.sink) in
    subst₂ (λ (xs : List Slot) (k : _). Ran g.K.Sink.step (posed p) c.args.area.now xs (feed untold (model c.args.sink.now)) (feed new.tally (model k)) (verdict_at c.in-Some.ended)) (sym (grind (arith, area))) (sym (grind (arith, sink)))
    (comes_to g.K.Sink.step (posed p) (problem_proper p) c.args.area.now (feed untold (model c.args.sink.now)) l.course l.area.now (feed_in model l) inv.0 c.in-Some.ended new.course new.area.now (feed_in model new)
    (subst (λ (q : Problem). Stops g.K.Sink.step (posed q) l.course l.area.now (feed_in model l) c.in-Some.ended new.course new.area.now (feed_in model new)) inv.1.problem c.in-Some.ensures.moved))

pub loop-ended-smaller : goal.loop-ended-smaller
loop-ended-smaller g c =
    let p = c.args.problem.now in
    let l = c.loop-ended.search in
    let new = c.step.new.self in
    let inv = c.loop-ended.invariant in
    let model = g.K.Sink.model in
    less g.K.Sink.step (posed p) (problem_proper p) c.args.area.now (feed untold (model c.args.sink.now)) l.course l.area.now (feed_in model l) inv.0 new.course new.area.now (feed_in model new)
    (subst (λ (q : Problem). Goes g.K.Sink.step (posed q) l.course l.area.now (feed_in model l) new.course new.area.now (feed_in model new)) inv.1.problem c.in_default.ensures.moved)

pub loop-ended-preserved : goal.loop-ended-preserved
loop-ended-preserved g c =
    let p = c.args.problem.now in
    let l = c.loop-ended.search in
    let new = c.step.new.self in
    let inv = c.loop-ended.invariant in
    let kept = c.in_default.ensures.kept in
    let model = g.K.Sink.model in (
      goes_further g.K.Sink.step (posed p) (problem_proper p) c.args.area.now (feed untold (model c.args.sink.now)) l.course l.area.now (feed_in model l) inv.0 new.course new.area.now (feed_in model new)
          (subst (λ (q : Problem). Goes g.K.Sink.step (posed q) l.course l.area.now (feed_in model l) new.course new.area.now (feed_in model new)) inv.1.problem c.in_default.ensures.moved),
      record { problem = kept.problem ∙ inv.1.problem; area = kept.area ∙ inv.1.area; sink = kept.sink ∙ inv.1.sink; lent_too = kept.lent_too ∙ inv.1.lent_too },
    )
