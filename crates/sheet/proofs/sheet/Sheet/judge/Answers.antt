use Rattle.std.proofs.Common.{sym, ap, ◌∙◌, arith}
use Rattle.blocks.specs.Slots.{holdings}
use Rattle.checker.specs.Courts.{court_of}
use Rattle.blocks.proofs.Posting.{same_sheet}
use Rattle.sheet.proofs.Judging.{halts_known, found_judged, halted_judged}
use Rattle.sheet.proofs.sheet.Sheet.judge.Goals as goal

pub refusal_of-requires : goal.refusal_of-requires
refusal_of-requires g c =
    halts_known (same_sheet c.args.self.now.rules c.problem.result c.problem.ensures) c.args.area.now c.args.bytes.now c.new-judge.ensures.rightly c.new-judge.ensures.opened
    (court_of c.feed_record-read.new.sink) c.feed_record-read.result c.in-Err.halt c.feed_record-read.ensures.read c.in-Err.is

-- the judge had the area until its finding, and so the area holds what the judge left in it
pub returns-in-Ok : goal.returns-in-Ok
returns-in-Ok g c =
    let lent = sym (c.feed_record-read.ensures.kept ∙ c.new-judge.ensures.lent) in
    found_judged (same_sheet c.args.self.now.rules c.problem.result c.problem.ensures) c.args.area.now c.args.bytes.now c.new-judge.ensures.rightly c.new-judge.ensures.opened
    (court_of c.feed_record-read.new.sink) c.feed_record-read.result c.in-Ok.field-0 c.finding-found.result _ c.finding-found.new.self.1.0
    c.feed_record-read.ensures.read c.in-Ok.is c.finding-found.ensures.answer (grind (arith, lent)) (ap holdings c.finding-found.ensures.area)

pub returns-in-Err : goal.returns-in-Err
returns-in-Err g c =
    let lent = sym (c.feed_record-read.ensures.kept ∙ c.new-judge.ensures.lent) in
    halted_judged (same_sheet c.args.self.now.rules c.problem.result c.problem.ensures) c.args.area.now c.args.bytes.now c.new-judge.ensures.rightly c.new-judge.ensures.opened
    (court_of c.feed_record-read.new.sink) c.feed_record-read.result c.in-Err.halt c.refusal_of.result _ c.finding-found.new.self.1.0
    c.feed_record-read.ensures.read c.in-Err.is c.refusal_of.ensures (grind (arith, lent)) (ap holdings c.finding-found.ensures.area)
