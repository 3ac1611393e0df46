use Rattle.std.proofs.Common.{min, max, sym, ap, ◌∙◌, subst}
use Rattle.blocks.specs.declared.bound.Bound.{Bound}
use Rattle.blocks.specs.declared.block.interval.Interval.{Interval}
use Rattle.blocks.specs.Views.{ranges, Narrowed}
use Rattle.blocks.proofs.Viewing.{narrowed_high, narrowed_low}
use Rattle.blocks.proofs.block.Block.narrow.Goals as goal

pub returns-in_ok-at_most-in-AtMost : goal.returns-in_ok-at_most-in-AtMost
returns-in_ok-at_most-in-AtMost c =
    let b = c.args.self.now in
    let e = c.in_ok-at_most-in-AtMost.ensures in
    subst (λ (β : Bound). Narrowed β (ranges b) c.with.result) (sym c.in-AtMost.is)
    (narrowed_high b c.in-AtMost.setting c.in-AtMost.p c.in_ok-at_most-in-AtMost.field-0 c.with.result
    (e.0 ∙ ap (λ (r : Interval). r.low) c.interval.ensures) (e.1 ∙ ap (λ (r : Interval). min r.high c.in-AtMost.p) c.interval.ensures) c.with.ensures)

pub returns-in_ok-at_least-in-AtLeast : goal.returns-in_ok-at_least-in-AtLeast
returns-in_ok-at_least-in-AtLeast c =
    let b = c.args.self.now in
    let e = c.in_ok-at_least-in-AtLeast.ensures in
    subst (λ (β : Bound). Narrowed β (ranges b) c.with-in-AtLeast.result) (sym c.in-AtLeast.is)
    (narrowed_low b c.in-AtLeast.setting c.in-AtLeast.p c.in_ok-at_least-in-AtLeast.field-0 c.with-in-AtLeast.result
    (e.0 ∙ ap (λ (r : Interval). max r.low c.in-AtLeast.p) c.interval-in-AtLeast.ensures) (e.1 ∙ ap (λ (r : Interval). r.high) c.interval-in-AtLeast.ensures) c.with-in-AtLeast.ensures)
