use Rattle.std.proofs.Common.{⊎_elim, arith}
use Rattle.scale_edges.proofs.stands_at.Goals as goal

-- a value that is on the scale stands at most at the top
pub returns-in_default : goal.returns-in_default
returns-in_default g c w =
    let k = g.met.S.Scale.keeps c.args.scale.now in
    ⊎_elim (λ n. n.0 (omega (arith, k.place_within c.args.v w.0, w.1))) (λ n. n.1) c.in_default.ensures
