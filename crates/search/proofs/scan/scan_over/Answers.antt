use Rattle.std.proofs.Common.{◌≡◌, ℕ, ◌+◌, length, Some, None, sym, ap, ◌∙◌, subst, add-one, arith}
use Rattle.blocks.specs.declared.status.Status.TheVariants.{Dead}
use Rattle.blocks.specs.Status.{see, Tells}
use Rattle.blocks.specs.Views.{ranges}
use Rattle.blocks.proofs.Seeing.{seen_below, seen_status, seen_dead}
use Rattle.blocks.proofs.Viewing.{held_past}
use Rattle.search.specs.Scans.{holding}
use Rattle.search.proofs.Scanning.{Passed, place_at, passed_empty, passed_dead, passed_open, passed_all, only_open}
use Rattle.search.proofs.scan.scan_over.Goals as goal

pub places-preserved-in_default : goal.places-preserved-in_default
places-preserved-in_default g c =
    let holds = g.P.Place.holds in
    let places = c.args.places.now in
    let empty : holding holds places c.places.i ≡ None = place_at holds places c.places.i c.index-places-i.result c.places-test.true c.index-places-i.is ∙ sym c.in_default.ensures in
    passed_empty (ranges c.args.region.now) (holding holds places) c.places.i c.places.alive empty c.places.invariant

pub places-preserved-in-Dead : goal.places-preserved-in-Dead
places-preserved-in-Dead g c =
    let holds = g.P.Place.holds in
    let places = c.args.places.now in
    let region = ranges c.args.region.now in
    let block = ranges c.in-Some.block in
    let i = c.places.i in
    let at : holding holds places i ≡ Some block = place_at holds places i c.index-places-i.result c.places-test.true c.index-places-i.is ∙ sym c.in-Some.ensures in
    let n = c.loop-setting.setting in
    let seen : seen_below region block (n + 1) ≡ Dead = rw add-one (sym (ap (see region block n) c.loop-setting.invariant.0) ∙ sym c.in-Dead.ensures) in
    passed_dead region (holding holds places) i block at c.places.alive (seen_dead region block (n + 1) seen) c.places.invariant

pub loop-setting-preserved : goal.loop-setting-preserved
loop-setting-preserved g c =
    let region = ranges c.args.region.now in
    let block = ranges c.in-Some.block in
    (rw add-one (c.see-seen.ensures ∙ ap (see region block c.loop-setting.setting) c.loop-setting.invariant.0), c.in_default-seen.not-Dead)

-- the status of a block is what its twelve settings show
pub returns-in-Broken : goal.returns-in-Broken
returns-in-Broken g c =
    let holds = g.P.Place.holds in
    let places = c.args.places.now in
    let region = ranges c.args.region.now in
    let block = ranges c.in-Some.block in
    let i = c.places.i in
    let at : holding holds places i ≡ Some block = place_at holds places i c.index-places-i.result c.places-test.true c.index-places-i.is ∙ sym c.in-Some.ensures in
    let twelve : c.loop-setting.setting ≡ 12 = omega arith in
    let told = subst (Tells region block) (sym (c.loop-setting.invariant.0 ∙ ap (seen_below region block) twelve) ∙ c.in-Broken.is) (seen_status region block 12 (held_past c.args.region.now c.in-Some.block)) in
    (c.places-test.true, (block, at, told), c.places.invariant.calm)

pub returns-in-Forcing : goal.returns-in-Forcing
returns-in-Forcing g c =
    let holds = g.P.Place.holds in
    let places = c.args.places.now in
    let region = ranges c.args.region.now in
    let block = ranges c.in-Some.block in
    let i = c.places.i in
    let at : holding holds places i ≡ Some block = place_at holds places i c.index-places-i.result c.places-test.true c.index-places-i.is ∙ sym c.in-Some.ensures in
    let twelve : c.loop-setting.setting ≡ 12 = omega arith in
    let told = subst (Tells region block) (sym (c.loop-setting.invariant.0 ∙ ap (seen_below region block) twelve) ∙ c.in-Forcing.is) (seen_status region block 12 (held_past c.args.region.now c.in-Some.block)) in
    (c.places-test.true, (block, at, told), c.places.invariant.calm)

pub places-preserved : goal.places-preserved
places-preserved g c =
    let holds = g.P.Place.holds in
    let places = c.args.places.now in
    let region = ranges c.args.region.now in
    let block = ranges c.in-Some.block in
    let i = c.places.i in
    let at : holding holds places i ≡ Some block = place_at holds places i c.index-places-i.result c.places-test.true c.index-places-i.is ∙ sym c.in-Some.ensures in
    let twelve : c.loop-setting.setting ≡ 12 = omega arith in
    let open' = only_open c.loop-setting.seen c.loop-setting.invariant.1 c.in_default-seen-2.not-Broken c.in_default-seen-2.not-Forcing in
    let told = subst (Tells region block) (sym (c.loop-setting.invariant.0 ∙ ap (seen_below region block) twelve) ∙ open') (seen_status region block 12 (held_past c.args.region.now c.in-Some.block)) in
    subst (Passed region (holding holds places) (i + 1)) (sym c.or-alive.ensures) (passed_open region (holding holds places) i block at c.places.alive told c.places.invariant)

pub returns : goal.returns
returns g c =
    let region = ranges c.args.region.now in
    let held = holding g.P.Place.holds c.args.places.now in
    let all : c.places.i ≡ length c.args.places.now = omega arith in
    passed_all region held (length c.args.places.now) c.places.alive (subst (λ (n : ℕ). Passed region held n c.places.alive) all c.places.invariant)
