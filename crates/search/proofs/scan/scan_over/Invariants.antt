use Rattle.std.proofs.Common.{◌≡◌}
use Rattle.blocks.specs.declared.status.Status.TheVariants.{Dead}
use Rattle.blocks.specs.Views.{ranges}
use Rattle.blocks.proofs.Seeing.{seen_below}
use Rattle.search.specs.Scans.{holding}
use Rattle.search.proofs.Scanning.{Passed}
use Rattle.search.proofs.scan.scan_over.Given as goal

abbrev pub invariant-loop-setting : goal.invariant-loop-setting
invariant-loop-setting g l = (l.seen ≡ seen_below (ranges l.region) (ranges l.block) l.setting) × (l.seen ≡ Dead → ⊥)

abbrev pub invariant-places : goal.invariant-places
invariant-places g l = Passed (ranges l.region) (holding g.P.Place.holds l.places) l.i l.alive
