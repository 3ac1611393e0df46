use Rattle.std.proofs.Common.{sym, ◌∙◌, subst}
use Rattle.series.specs.Series.{closed, newly, Series}
use Rattle.sheet.specs.Settings.{lasts_of}
use Rattle.sheet.proofs.Declaring.{newly_of}
use Rattle.sheet.proofs.draft.Draft.close.Goals as goal

pub returns-clause-series : goal.returns-clause-series
returns-clause-series g c =
    let d = c.args.self in
    subst (Series (lasts_of d) closed) (newly_of d.lasts ∙ sym c.new.ensures) newly
