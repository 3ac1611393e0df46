use Rattle.std.proofs.Common.{◌≡◌, ℕ, ◌+◌, ◌*◌, ◌<◌, ◌≤◌, suc, length, ap, subst, add-one, arith, below_more}
use Rattle.std.proofs.lemmas.Slice.Zip.{zip_turn, zip_end}
use Rattle.std.proofs.lemmas.List.{length_push}
use Rattle.blocks.specs.declared.block.interval.Interval.{Interval}
use Rattle.blocks.specs.Counts.{bounds_below}
use Rattle.blocks.specs.Views.{nought, ranges, last_at, FitToStand}
use Rattle.blocks.proofs.Arrays.{each_of, when_le}
use Rattle.blocks.proofs.Counting.{count_more}
use Rattle.blocks.proofs.Viewing.{high_past}
use Rattle.blocks.proofs.lasts.Lasts.holds.Goals as goal

pub returns-then-interval-last : goal.returns-then-interval-last
returns-then-interval-last c =
    let t = zip_turn c.args.block.now.intervals c.args.self.now.last c.loop-interval.yielded c.into_iter-interval-iterator.result _ c.next.new.self c.next.result (cc) (cc) c.loop-interval.yielded_by (c.in-Some.interval, c.in-Some.last) c.in-Some.is c.next.ensures.steps in
    λ fit. omega (arith, fit.within (length c.loop-interval.yielded), ap (λ (r : Interval). r.high) (t.2 nought), t.3 0, c.if-interval-last.true)

-- one setting more is counted
turn : (c : goal.After-sides-count)
    → (length c.loop-interval.yielded < 12)
    × (c.loop-interval.count + c.sides-count.result ≤ 2 * (length c.loop-interval.yielded + 1))
    × (c.loop-interval.count + c.sides-count.result ≡ length (bounds_below (last_at c.args.self.now) (ranges c.args.block.now) (suc (length c.loop-interval.yielded))))
    × ((ranges c.args.block.now).high (length c.loop-interval.yielded) ≤ last_at c.args.self.now (length c.loop-interval.yielded))
turn c =
    let inv = c.loop-interval.invariant in
    let t = zip_turn c.args.block.now.intervals c.args.self.now.last c.loop-interval.yielded c.into_iter-interval-iterator.result _ c.next.new.self c.next.result (cc) (cc) c.loop-interval.yielded_by (c.in-Some.interval, c.in-Some.last) c.in-Some.is c.next.ensures.steps in
    let here = t.2 nought in
    let there = t.3 0 in
    let more = count_more (last_at c.args.self.now) (ranges c.args.block.now) (length c.loop-interval.yielded) c.loop-interval.count c.sides-count.result inv.few inv.counted (rw (here, there) at c.sides-count.ensures) in
    (omega (arith, t.0, c.args.block.now.twelve), more.0, more.1, omega (arith, ap (λ (r : Interval). r.high) here, there, c.if-interval-last.false))

pub loop-interval-preserved : goal.loop-interval-preserved
loop-interval-preserved c =
    let t = turn c in
    rw length_push (record {
      few = t.1;
      counted = rw add-one t.2;
      within = below_more (λ k. (ranges c.args.block.now).high k ≤ last_at c.args.self.now k) (length c.loop-interval.yielded) c.loop-interval.invariant.within t.3;
    })

pub returns : goal.returns
returns c =
    let l = c.args.self.now in
    let b = ranges c.args.block.now in
    let inv = c.loop-interval.invariant in
    let t = zip_end c.args.block.now.intervals l.last c.loop-interval.yielded c.into_iter-interval-iterator.result _ c.next.new.self c.next.result (cc) (cc) c.loop-interval.yielded_by c.in-None.is c.next.ensures.steps in
    let twelve : length c.loop-interval.yielded ≡ 12 = omega (arith, c.args.block.now.twelve, l.sized) in
    let count : c.loop-interval.count ≡ length (bounds_below (last_at l) b 12) = subst (λ (n : ℕ). c.loop-interval.count ≡ length (bounds_below (last_at l) b n)) twelve inv.counted in
    when_le c.loop-interval.count 4 (FitToStand l b)
    (λ h. record { within = each_of (λ i. b.high i ≤ last_at l i) 12 (λ k m. inv.within k (omega arith)) (λ k m. omega (arith, high_past c.args.block.now k m)); four = omega arith })
    (λ fit. omega (arith, fit.four))
