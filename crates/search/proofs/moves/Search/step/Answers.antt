use Rattle.std.proofs.Common.{◌≡◌, ℕ, Some, None, Option, sym, ap, ap₂, ◌∙◌, subst}
use Rattle.std.specs.Option.{option_map}
use Rattle.blocks.specs.declared.bound.Bound.{Bound}
use Rattle.blocks.specs.Bounds.{Profile, Meets}
use Rattle.blocks.specs.Problems.{posed}
use Rattle.blocks.specs.Ranges.{Ranges, In}
use Rattle.blocks.specs.Status.{Forces, FirstOpen}
use Rattle.blocks.specs.Views.{ranges}
use Rattle.blocks.proofs.Numbers.{some_same}
use Rattle.blocks.proofs.Properness.{problem_proper}
use Rattle.search.specs.declared.scan.Scan.TheVariants.{Broken, Forcing, Quiet}
use Rattle.search.specs.Search.{forced, decided, force, decide}
use Rattle.search.specs.Courses.{Joined, Undecided, DecidedOn}
use Rattle.search.specs.Moves.{feed_in}
use Rattle.search.specs.Numbers.{numbered}
use Rattle.search.proofs.Joining.{open_profile}
use Rattle.search.proofs.Looking.{scanned_here}
use Rattle.search.proofs.Stepping.{region_here, block_here, room_for, breaks_first, forces_first, stops_found, opens_first, first_open_here, goes_on}
use Rattle.search.proofs.moves.Search.step.Goals as goal

pub conflict-requires : goal.conflict-requires
conflict-requires g c =
    let s = c.args.self.now in
    let e = c.blocks-2.ensures in
    let k = c.in-Broken.number in
    (c.requires, breaks_first (posed s.problem) (problem_proper s.problem) s.course s.area.now c.requires k (scanned_here _ _ _ s.area.now s.course.filled e.rules e.filled c.requires.kept.filled (ranges s.course.region) (Broken k) c.in-Broken.ensures))

pub join-requires : goal.join-requires
join-requires g c =
    let s = c.args.self.now in
    let S = posed s.problem in
    let pr = problem_proper s.problem in
    let e = c.blocks-2.ensures in
    let k = c.in-Forcing.number in
    let t = c.in-Forcing.bound in
    let h = forces_first S pr s.course s.area.now c.requires k t (scanned_here _ _ _ s.area.now s.course.filled e.rules e.filled c.requires.kept.filled (ranges s.course.region) (Forcing k t) c.in-Forcing.ensures) in
    let is : c.from.result ≡ h.bound = c.from.ensures.back h.bound h.is in (
      room_for S pr s.course s.area.now c.requires (forced h.bound k) _ _ _ (force h.first h.there h.forces),
      subst (λ (β : Bound). (x : Profile) × In (ranges s.course.region) x × Meets x β) (sym is)
          (open_profile S.last (ranges s.course.region) h.bound (region_here S pr s.course s.area.now c.requires) (subst (λ (r : Ranges). Forces S.last r h.block h.bound) (sym c.requires.kept.left) h.forces).open'),
    )

pub decide-requires : goal.decide-requires
decide-requires g c =
    let s = c.args.self.now in
    let S = posed s.problem in
    let pr = problem_proper s.problem in
    let e = c.blocks-2.ensures in
    let d = c.blocks-in-Quiet-Some.ensures in
    let k = c.in-Quiet-Some.number in
    let h = opens_first S pr s.course s.area.now c.requires k (scanned_here _ _ _ s.area.now s.course.filled e.rules e.filled c.requires.kept.filled (ranges s.course.region) (Quiet (Some k)) (rw c.in-Quiet-Some.field-0-is at c.in-Quiet-Some.ensures)) in
    let same : h.block ≡ ranges c.unwrap-block.result = some_same h.there (sym (ap (option_map ranges) (sym c.unwrap-block.ensures) ∙ c.at.ensures ∙ ap (λ (f : ℕ → Option Ranges). f k) (ap₂ numbered d.rules d.filled))) in
    let first = first_open_here S pr s.course s.area.now c.requires k h in (
      room_for S pr s.course s.area.now c.requires (decided first.0) _ _ _ (decide h.calm h.first h.there first.1),
      subst (λ (b : Ranges). Undecided b (ranges s.course.region)) same (h.undecided, (S.last, region_here S pr s.course s.area.now c.requires, block_here S pr s.course s.area.now c.requires k h.block h.there)),
    )

pub returns-in-Forcing-clause-moved : goal.returns-in-Forcing-clause-moved
returns-in-Forcing-clause-moved g c =
    let s = c.args.self.now in
    let S = posed s.problem in
    let pr = problem_proper s.problem in
    let e = c.blocks-2.ensures in
    let k = c.in-Forcing.number in
    let t = c.in-Forcing.bound in
    let h = forces_first S pr s.course s.area.now c.requires k t (scanned_here _ _ _ s.area.now s.course.filled e.rules e.filled c.requires.kept.filled (ranges s.course.region) (Forcing k t) c.in-Forcing.ensures) in
    let is : c.from.result ≡ h.bound = c.from.ensures.back h.bound h.is in
    goes_on S pr s.course s.area.now c.requires g.K.Sink.step (feed_in g.K.Sink.model s) c.join.new.self h.bound (Some k)
    (subst (λ (β : Bound). Joined s.course β (Some k) c.join.new.self) is c.join.ensures) (force h.first h.there h.forces)

pub returns-in-Quiet-Some-clause-moved : goal.returns-in-Quiet-Some-clause-moved
returns-in-Quiet-Some-clause-moved g c =
    let s = c.args.self.now in
    let S = posed s.problem in
    let pr = problem_proper s.problem in
    let e = c.blocks-2.ensures in
    let d = c.blocks-in-Quiet-Some.ensures in
    let k = c.in-Quiet-Some.number in
    let h = opens_first S pr s.course s.area.now c.requires k (scanned_here _ _ _ s.area.now s.course.filled e.rules e.filled c.requires.kept.filled (ranges s.course.region) (Quiet (Some k)) (rw c.in-Quiet-Some.field-0-is at c.in-Quiet-Some.ensures)) in
    let same : h.block ≡ ranges c.unwrap-block.result = some_same h.there (sym (ap (option_map ranges) (sym c.unwrap-block.ensures) ∙ c.at.ensures ∙ ap (λ (f : ℕ → Option Ranges). f k) (ap₂ numbered d.rules d.filled))) in
    let here = block_here S pr s.course s.area.now c.requires k h.block h.there in
    let first = subst (λ (b : Ranges). DecidedOn b s.course c.decide.new.self) (sym same) c.decide.ensures S.last (region_here S pr s.course s.area.now c.requires) here in
    goes_on S pr s.course s.area.now c.requires g.K.Sink.step (feed_in g.K.Sink.model s) c.decide.new.self first.0 None first.2
    (decide h.calm h.first h.there (subst (λ (r : Ranges). FirstOpen S.last r h.block first.0) c.requires.kept.left first.1))

pub returns-in-Quiet-None-clause-moved : goal.returns-in-Quiet-None-clause-moved
returns-in-Quiet-None-clause-moved g c =
    let s = c.args.self.now in
    let e = c.blocks-2.ensures in
    stops_found (posed s.problem) (problem_proper s.problem) s.course s.area.now c.requires g.K.Sink.step (feed_in g.K.Sink.model s)
    (scanned_here _ _ _ s.area.now s.course.filled e.rules e.filled c.requires.kept.filled (ranges s.course.region) (Quiet None) (rw c.in-Quiet-None.field-0-is at c.in-Quiet-None.ensures))
