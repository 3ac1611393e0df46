use Rattle.std.proofs.Common.{⊎_elim, arith}
use Rattle.tour.proofs.limit.Limit.place_on.Goals as goal

-- a value has just been placed, and what is placed is at most at the top
pub returns-in_err-value : goal.returns-in_err-value
returns-in_err-value g c =
    let k = g.met.S.Scale.keeps c.args.scale.now in
    let p = c.in_ok-position.ensures in
    absurd (⊎_elim (λ n. n.0 (omega (arith, k.place_within c.args.self.now.value p.0.0, p.1))) (λ n. n.1) c.in_err-value.ensures)
