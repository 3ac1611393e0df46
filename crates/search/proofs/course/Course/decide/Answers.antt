use Rattle.std.proofs.Common.{◌≡◌, None, sym, subst}
use Rattle.blocks.specs.declared.bound.Bound.{Bound}
use Rattle.blocks.specs.Bounds.{Profile, Meets}
use Rattle.blocks.specs.Ranges.{In}
use Rattle.blocks.specs.Status.{TellsFirst}
use Rattle.blocks.specs.Views.{ranges}
use Rattle.search.specs.Courses.{Joined}
use Rattle.search.proofs.Joining.{open_profile, undecided_open}
use Rattle.search.proofs.course.Course.decide.Goals as goal

pub unwrap-bound-requires : goal.unwrap-bound-requires
unwrap-bound-requires c =
    let u = c.requires.1 in
    undecided_open u.1.0 (ranges c.args.self.now.region) (ranges c.args.block.now) u.1.1 u.1.2 u.0 c.first_open.result c.first_open.ensures

pub join-requires : goal.join-requires
join-requires c =
    let u = c.requires.1 in
    let g = ranges c.args.self.now.region in
    let first = subst (TellsFirst g (ranges c.args.block.now)) c.unwrap-bound.ensures c.first_open.ensures u.1.0 u.1.1 u.1.2 in
    let is : c.from.result ≡ first.0 = c.from.ensures.back first.0 first.1 in
    (c.requires.0, subst (λ (β : Bound). (x : Profile) × In g x × Meets x β) (sym is) (open_profile u.1.0 g first.0 u.1.1 first.2.open'))

pub returns : goal.returns
returns c = λ last sg sb.
    let first = subst (TellsFirst (ranges c.args.self.now.region) (ranges c.args.block.now)) c.unwrap-bound.ensures c.first_open.ensures last sg sb in
    let is : c.from.result ≡ first.0 = c.from.ensures.back first.0 first.1 in
    (first.0, first.2, subst (λ (β : Bound). Joined c.args.self.now β None c.join.new.self) is c.join.ensures)
