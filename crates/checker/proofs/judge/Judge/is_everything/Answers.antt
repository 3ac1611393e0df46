use Rattle.std.proofs.Common.{ap, ◌∙◌}
use Rattle.blocks.specs.declared.lasts.Lasts.{Lasts}
use Rattle.blocks.specs.Ranges.{everything}
use Rattle.blocks.specs.Views.{last_at}
use Rattle.checker.specs.Courts.{court_of}
use Rattle.checker.proofs.Asking.{whole_when}
use Rattle.checker.proofs.judge.Judge.is_everything.Goals as goal

pub returns : goal.returns
returns c h =
    let e = c.everything.ensures ∙ ap (λ (l : Lasts). everything (last_at l)) c.lasts.ensures in
    whole_when (court_of c.args.self.now) h e c.is_inside.result c.is_inside.ensures.answer
