use Rattle.std.proofs.Common.{◌≡◌, None, Err, ◌∙◌, subst, arith}
use Rattle.std.specs.Option.{ok_or}
use lib.ListN.{length-map}
use Rattle.std.proofs.lemmas.Result.{err_from_is_err_and}
use Rattle.blocks.specs.Problems.{sheet_of, Breaking}
use Rattle.blocks.specs.Views.{ranges, last_at, block_of}
use Rattle.blocks.proofs.Admitting.{breakers_some, bound_refused, always_met, rules_full, admitted}
use Rattle.blocks.proofs.problem.Problem.admit.Goals as goal

pub returns-in_err-check_bounds : goal.returns-in_err-check_bounds
returns-in_err-check_bounds c =
    let p = err_from_is_err_and c.from_residual.result c.from_residual.ensures.1 in
    let l = c.args.self.now.lasts.now in
    let ss = c.args.self.now.rules.now in
    let βs = c.args.rule.now.bounds.now in
    rw (p.1, p.2) (bound_refused (sheet_of l ss) βs (omega arith) c.in_err-check_bounds.field-0.0 c.in_err-check_bounds.ensures)

pub returns-in_err-block : goal.returns-in_err-block
returns-in_err-block c =
    let l = c.args.self.now.lasts.now in
    let ss = c.args.self.now.rules.now in
    let βs = c.args.rule.now.bounds.now in
    let p = err_from_is_err_and c.from_residual-in_err-block.result c.from_residual-in_err-block.ensures.1 in
    let none : c.breaking.result ≡ None = c.in_err-block.ensures.ok_part in
    let said : Err c.in_err-block.field-0.0 ≡ ok_or c.breaking.result c.of-2.result = c.in_err-block.ensures.value in
    let is : c.in_err-block.field-0.0 ≡ c.of-2.result = let e = rw none at said in cc in
    rw (p.1, p.2) (always_met (sheet_of l ss) βs (omega arith) c.in_ok-check_bounds.ensures.0 c.in_err-block.field-0.0 (is ∙ c.of-2.ensures) (subst (Breaking l βs) none c.breaking.ensures))

pub returns-then-self-ge48 : goal.returns-then-self-ge48
returns-then-self-ge48 c =
    let l = c.args.self.now.lasts.now in
    let ss = c.args.self.now.rules.now in
    let βs = c.args.rule.now.bounds.now in
    let b = subst (Breaking l βs) (c.in_ok-block.ensures.ok_part) c.breaking.ensures in
    rules_full (sheet_of l ss) βs (omega arith) c.in_ok-check_bounds.ensures.0 (breakers_some (last_at l) βs (ranges c.in_ok-block.block) b.0) c.of-then-self-ge48.result c.of-then-self-ge48.ensures (omega (arith, length-map ss block_of))

pub returns : goal.returns
returns c =
    let l = c.args.self.now.lasts.now in
    let ss = c.args.self.now.rules.now in
    let βs = c.args.rule.now.bounds.now in
    let b = subst (Breaking l βs) (c.in_ok-block.ensures.ok_part) c.breaking.ensures in (
      admitted (sheet_of l ss) βs (omega arith) c.in_ok-check_bounds.ensures.0 (breakers_some (last_at l) βs (ranges c.in_ok-block.block) b.0) (omega (arith, length-map ss block_of)),
      (b.0, record { within = λ i. (b.0.stands i).1; four = omega (arith, b.1) }),
    )
