use Rattle.std.proofs.Common.{length, subst}
use Rattle.blocks.specs.RuleSets.{sheet_in}
use Rattle.blocks.specs.Sheets.{Sheet}
use Rattle.blocks.proofs.Properness.{set_proper}
use Rattle.search.specs.Solve.{Solved}
use Rattle.series.specs.Calls.{solves}
use Rattle.series.proofs.Accepting.{grounds_accepted}
use Rattle.series.proofs.Hearing.{solved_solves}
use Rattle.blocks.proofs.Posting.{same_sheet}
use Rattle.sheet.proofs.sheet.Sheet.solve.Goals as goal

pub returns-clause-done : goal.returns-clause-done
returns-clause-done g c =
    let rules = c.args.self.now.rules in
    let posed_is = same_sheet rules c.problem.result c.problem.ensures in
    let s = subst (λ (S : Sheet). Solved g.K.Sink.step S c.args.area.now c.solve.new.area (g.K.Sink.model c.args.sink.now) (g.K.Sink.model c.solve.new.sink) c.solve.result) posed_is c.solve.ensures.solved in
    let q = solved_solves g.K.Sink.step (sheet_in rules) c.args.area.now c.solve.new.area (g.K.Sink.model c.args.sink.now) (g.K.Sink.model c.solve.new.sink) c.solve.result s in
    record { sent = q.0; hears = q.1; does = solves q.2 }

pub returns-clause-grounds : goal.returns-clause-grounds
returns-clause-grounds g c = grounds_accepted (sheet_in c.args.self.now.rules) (set_proper c.args.self.now.rules) (length c.args.area.now)
