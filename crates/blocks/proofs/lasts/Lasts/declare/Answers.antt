use Rattle.std.proofs.Common.{◌≡◌, ◌+◌, ◌≤◌, arith, rules}
use Rattle.blocks.proofs.Arrays.{set_each}
use Rattle.blocks.proofs.lasts.Lasts.declare.Goals as goal

pub invariant_of-self : goal.invariant_of-self
invariant_of-self g c =
    let l = c.args.self.now in
    let top = (g.met.S.Scale.keeps c.args.scale.now).small in
    record {
      sized = search rules;
      few = search rules;
      small = set_each (λ i x. x ≤ 4294967294) l.last l.count c.last.result (omega (arith, l.sized)) (omega (arith, top, c.last.ensures)) (λ i n. l.small i);
      beyond = set_each (λ i x. l.count + 1 ≤ i → x ≡ 0) l.last l.count c.last.result (omega (arith, l.sized)) (λ h. absurd (omega arith)) (λ i n h. l.beyond i (omega arith));
    }
