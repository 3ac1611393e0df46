use Rattle.std.proofs.Common.{rules}
use borrow.Author.Tests.{tests}
use Rattle.std.proofs.lemmas.Iterator.{YieldsList-from_slice, YieldsList-from_zip, cases_from_all}
use Rattle.blocks.specs.Views.{interval_at, ranges}
use Rattle.blocks.proofs.Pairs.{Within, Sticks, inside_pairs}
use Rattle.blocks.proofs.Ranging.{inside_means}
use Rattle.blocks.proofs.block.Block.is_inside.Goals as goal

pub returns-clause-answer : goal.returns-clause-answer
returns-clause-answer c =
    let a = c.args.self.now in
    let b = c.args.other.now in
    inside_pairs a b c.all.result
    (cases_from_all c.all.new.self _ _ Within Sticks c.all.ensures.ran
    (YieldsList-from_zip (YieldsList-from_slice a.intervals (search rules)) (YieldsList-from_slice b.intervals (search rules)))
    (λ x q k. search (rules, tests)) (λ x q k. search (rules, tests)))

pub returns-clause-profiles : goal.returns-clause-profiles
returns-clause-profiles c = inside_means (ranges c.args.self.now) (ranges c.args.other.now) (λ i. (interval_at c.args.self.now i).ordered)
