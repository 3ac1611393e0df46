use Rattle.std.proofs.Common.{[], add-one}
use Rattle.std.proofs.lemmas.Result.{err_from_is_err_and}
use Rattle.blocks.specs.Problems.{sheet_of}
use Rattle.blocks.proofs.Admitting.{going_fails, going_more, going_all}
use Rattle.blocks.proofs.problem.admit.check_bounds.Goals as goal

pub returns-in_err-check_bound : goal.returns-in_err-check_bound
returns-in_err-check_bound c =
    let p = err_from_is_err_and c.from_residual.result c.from_residual.ensures.1 in
    let βs = c.args.bounds.now in
    rw (p.1, p.2) (going_fails (sheet_of c.args.lasts.now []) βs c.loop-i.i c.loop-i-test.true c.loop-i.invariant c.in_err-check_bound.field-0.0 (rw add-one at c.in_err-check_bound.ensures))

pub loop-i-preserved : goal.loop-i-preserved
loop-i-preserved c =
    let βs = c.args.bounds.now in
    rw add-one (going_more (sheet_of c.args.lasts.now []) βs c.loop-i.i c.loop-i-test.true c.loop-i.invariant c.in_ok-check_bound.ensures.0)

pub returns : goal.returns
returns c = (going_all (sheet_of c.args.lasts.now []) c.args.bounds.now c.loop-i.i c.loop-i-test.false c.loop-i.invariant, tt)
