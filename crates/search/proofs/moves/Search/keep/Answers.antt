use Rattle.std.proofs.Common.{◌≡◌, ℕ, ◌+◌, Some, sym, ap, ◌∙◌, subst, subst₂}
use Rattle.blocks.specs.declared.bound.Bound.{Bound}
use Rattle.blocks.specs.Bounds.{Profile, Meets}
use Rattle.blocks.specs.Ranges.{In}
use Rattle.blocks.specs.Problems.{posed}
use Rattle.blocks.specs.Views.{ranges}
use Rattle.search.specs.declared.course.Course.{Course}
use Rattle.search.specs.Tallies.{feed, fed}
use Rattle.search.specs.Courses.{Joined}
use Rattle.search.specs.Moves.{feed_in}
use Rattle.search.proofs.Joining.{open_profile, forces_told}
use Rattle.search.proofs.Keeping.{keeps_in}
use Rattle.search.proofs.moves.Search.keep.Goals as goal

pub unreachable-requires : goal.unreachable-requires
unreachable-requires g c =
    let p = c.requires in
    let s = c.args.self.now in
    forces_told (posed s.problem).last (ranges s.course.region) (ranges c.args.work) p.forces.0 p.stands.1 p.stands.0 p.forces.1 c.status.result c.status.ensures c.in_default-status.not-Forcing

pub join-requires : goal.join-requires
join-requires g c =
    let p = c.requires in
    let s = c.args.self.now in
    let last = (posed s.problem).last in
    let region = ranges s.course.region in
    let forced = c.in-Forcing.ensures last p.stands.1 p.stands.0 in
    let is : c.from.result ≡ forced.0 = c.from.ensures.back forced.0 forced.1 in
    (p.short, subst (λ (β : Bound). (x : Profile) × In region x × Meets x β) (sym is) (open_profile last region forced.0 p.stands.1 forced.2.open'))

pub returns-clause-did : goal.returns-clause-did
returns-clause-did g c =
    let p = c.requires in
    let slot = c.in-Some.slot in
    let s = c.args.self.now in
    let last = (posed s.problem).last in
    let forced = c.in-Forcing.ensures last p.stands.1 p.stands.0 in
    let is : c.from.result ≡ forced.0 = c.from.ensures.back forced.0 forced.1 in
    let f = feed_in g.K.Sink.model s in
    let at : ℕ → Course = λ n. record { trail = s.course.trail; region = s.course.region; filled = n; next = slot + 1 } in
    let joined = subst₂ (λ (n : ℕ) (β : Bound). Joined (at n) β (Some (100 + slot)) c.join.new.self) c.max-self.ensures is c.join.ensures in
    keeps_in g.K.Sink.step (posed s.problem) c.args.work s.course s.area.now p slot c.in-Some.ensures forced.0 forced.2 c.join.new.self joined
    f (feed c.send.new.self (g.K.Sink.model c.send.new.sink)) (c.send.ensures.after ∙ ap (λ l. fed g.K.Sink.step f l) c.kept_in.ensures)
