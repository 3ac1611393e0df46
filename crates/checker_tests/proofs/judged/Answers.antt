use Rattle.std.proofs.Common.{length, is_ok, sym, ap, ◌∙◌}
use Rattle.checker.specs.Courts.{court_of}
use Rattle.checker.proofs.Soundness.{accepts_ended}
use Rattle.blocks.proofs.Posting.{same_sheet}
use Rattle.checker_tests.proofs.Hearing.{since_opening, ends_too, both_ok}
use Rattle.checker_tests.proofs.judged.Goals as goal

pub returns : goal.returns
returns c ok possible =
    let place = c.open.new.place in
    let m = length c.args.area.now in
    let lines = c.args.lines.now in
    let d = court_of c.heard-heard.new.judge in
    let oks = both_ok c.heard-heard.result c.finding.result (ap is_ok (sym c.first_of.ensures) ∙ ok) in
    let end = accepts_ended d.phase d.line c.finding.result c.finding.ensures.answer oks.1 in
    let way = since_opening {d = d} m lines (same_sheet place c.problem.result c.problem.ensures) c.new-judge.ensures.opened (c.heard-heard.ensures oks.0) in
    c.in_ok-open.ensures.1.never_accepts possible m lines (ends_too {d = d} way end)
