use Rattle.std.proofs.Common.{refl, inl, arith}
use Rattle.scales.specs.Models.{model_of}
use Rattle.scales.proofs.Cuts.{window_of, good_ends, not_after→le}
use Rattle.scales.proofs.window.Window.new.Goals as goal

pub returns-then-first-end : goal.returns-then-first-end
returns-then-first-end g c =
    let a = c.in-Ok.ensures in
    let b = c.in-Ok-place.ensures in
    inl (λ h. omega (arith, not_after→le (model_of g.S.Scale c.args.scale) (g.met.S.Scale.keeps c.args.scale) c.args.from c.args.to h.from_on h.to_on h.in_order, a, b), c.of-then-first-end.ensures)

pub returns : goal.returns
returns g c =
    let m = model_of g.S.Scale c.args.scale in
    let k = g.met.S.Scale.keeps c.args.scale in
    let a = c.in-Ok.ensures in
    let b = c.in-Ok-place.ensures in (
      (good_ends m k c.args.from c.args.to a.0.0 b.0.0 (omega (arith, a.1, b.1)), tt),
      (refl, window_of m k c.args.from c.args.to c.in-Ok.first c.in-Ok-place.end a.0.0 b.0.0 a.1 b.1 (omega arith)),
    )
