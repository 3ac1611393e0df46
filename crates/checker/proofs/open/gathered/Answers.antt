use Rattle.std.proofs.Common.{◌≤◌, [], length, sym, subst, add-one, arith}
use Rattle.std.proofs.lemmas.List.{get_or-map, length-map}
use Rattle.std.proofs.lemmas.Result.{err_from_is_err_and}
use Rattle.blocks.specs.Problems.{sheet_of}
use Rattle.blocks.specs.RuleSets.{sheet_in}
use Rattle.checker.specs.Openings.{bounds_of, by_bounds}
use Rattle.checker.proofs.Gathering.{GoingOn, going_first, going_fails, going_more, going_passes, going_same, gathered}
use Rattle.checker.proofs.open.gathered.Goals as goal

pub returns-in_err-post : goal.returns-in_err-post
returns-in_err-post c =
    let p = err_from_is_err_and c.from_residual.result c.from_residual.ensures.1 in
    let S = sheet_of c.args.lasts.now [] in
    let rs = c.args.rules.now in
    let i = c.loop-rule.rule-index in
    let lt = c.loop-rule-test.true in
    rw (p.1, p.2) (going_fails S (by_bounds rs) i (sheet_in c.loop-rule.set) c.loop-rule.invariant (omega (arith, length-map rs bounds_of)) _ (get_or-map bounds_of rs i _ [] lt) c.in_err-post.field-0.0 c.in_err-post.ensures.0)

pub loop-rule-init : goal.loop-rule-init
loop-rule-init c =
    let S = sheet_of c.args.lasts.now [] in
    let rs = by_bounds c.args.rules.now in
    subst (GoingOn S rs 0) (sym c.new-set.ensures) (going_first S rs)

pub loop-rule-preserved : goal.loop-rule-preserved
loop-rule-preserved c =
    let S = sheet_of c.args.lasts.now [] in
    let rs = c.args.rules.now in
    let i = c.loop-rule.rule-index in
    let lt = c.loop-rule-test.true in
    let e = c.in_ok-post.ensures in
    rw add-one (going_more S (by_bounds rs) i (sheet_in c.loop-rule.set) c.loop-rule.invariant (omega (arith, length-map rs bounds_of)) _ (get_or-map bounds_of rs i _ [] lt) (sheet_in c.post.new.self) e.1 e.0)

pub returns : goal.returns
returns c =
    let l = c.args.lasts.now in
    let rs = by_bounds c.args.rules.now in
    let all : length rs ≤ c.loop-rule.rule-index = omega (arith, c.loop-rule-test.false, length-map c.args.rules.now bounds_of) in
    let T = sheet_in c.loop-rule.set in
    (going_passes (sheet_of l []) rs c.loop-rule.rule-index T c.loop-rule.invariant all, gathered l rs c.loop-rule.set (going_same (sheet_of l []) rs c.loop-rule.rule-index T c.loop-rule.invariant all))
