use Rattle.std.proofs.Common.{◌≡◌, ℕ, length, sym, subst, arith}
use Rattle.blocks.specs.Views.{interval_at, ranges, last_at}
use Rattle.blocks.proofs.Admitting.{BreakingFirst, breaking_none, breaking_fails, breaking_stops, breaking_more, breaking_all}
use Rattle.blocks.proofs.problem.admit.breaking.Goals as goal

pub returns-in_err-opposite : goal.returns-in_err-opposite
returns-in_err-opposite c =
    let l = c.args.lasts.now in
    rw c.from_residual.ensures (breaking_fails (last_at l) c.args.bounds.now c.loop-bound.bound-index (ranges c.loop-bound.region) c.loop-bound.invariant c.loop-bound-test.true
    (λ x h. c.in_err-opposite.ensures x (λ i. let k = h i in omega (arith, l.small i))))

pub returns-in_err-region : goal.returns-in_err-region
returns-in_err-region c =
    rw c.from_residual-in_err-region.ensures (breaking_stops (last_at c.args.lasts.now) c.args.bounds.now c.loop-bound.bound-index (ranges c.loop-bound.region) c.loop-bound.invariant c.loop-bound-test.true
    c.in_ok-opposite.field-0 c.in_ok-opposite.ensures c.in_err-region.ensures)

pub loop-bound-init : goal.loop-bound-init
loop-bound-init c = subst (BreakingFirst (last_at c.args.lasts.now) c.args.bounds.now 0) (sym c.everything-region.ensures) (breaking_none (last_at c.args.lasts.now) c.args.bounds.now)

pub loop-bound-preserved : goal.loop-bound-preserved
loop-bound-preserved c =
    let r = c.in_ok-region.ensures in
    breaking_more (last_at c.args.lasts.now) c.args.bounds.now c.loop-bound.bound-index (ranges c.loop-bound.region) c.loop-bound.invariant c.loop-bound-test.true
    c.in_ok-opposite.field-0 c.in_ok-opposite.ensures (ranges c.in_ok-region.region) (λ i. (interval_at c.in_ok-region.region i).ordered) r.0 r.1

pub returns : goal.returns
returns c =
    let last = last_at c.args.lasts.now in
    let βs = c.args.bounds.now in
    let all : c.loop-bound.bound-index ≡ length βs = omega arith in
    let inv = subst (λ (n : ℕ). BreakingFirst last βs n (ranges c.loop-bound.region)) all c.loop-bound.invariant in
    (breaking_all last βs (ranges c.loop-bound.region) inv, inv.few)
