use Rattle.std.proofs.Common.{ap, ◌∙◌}
use Rattle.std.specs.Option.{option_or}
use Rattle.blocks.specs.Views.{ranges}
use Rattle.search.proofs.Looking.{scanned_rules, scanned_broken, scanned_forcing, scanned_quiet}
use Rattle.search.proofs.numbered.Numbered.scan.Goals as goal

pub returns-in-Broken : goal.returns-in-Broken
returns-in-Broken c = scanned_broken (ranges c.args.region.now) c.args.self.now.rules.now c.args.self.now.filled.now c.requires.0 c.in-Quiet.alive c.in-Quiet.ensures c.in-Broken.j c.in-Broken.ensures

pub returns-in-Forcing : goal.returns-in-Forcing
returns-in-Forcing c = scanned_forcing (ranges c.args.region.now) c.args.self.now.rules.now c.args.self.now.filled.now c.requires.0 c.in-Quiet.alive c.in-Quiet.ensures c.in-Forcing.j c.in-Forcing.bound c.in-Forcing.ensures

pub returns-in-Quiet-scan_over : goal.returns-in-Quiet-scan_over
returns-in-Quiet-scan_over c =
    scanned_quiet (ranges c.args.region.now) c.args.self.now.rules.now c.args.self.now.filled.now c.requires.0 c.in-Quiet.alive c.in-Quiet.ensures c.in-Quiet-scan_over.slot c.in-Quiet-scan_over.ensures c.or.result (c.or.ensures ∙ ap (option_or c.in-Quiet.alive) c.block_of_slot.ensures)

pub returns-in_default : goal.returns-in_default
returns-in_default c = scanned_rules (ranges c.args.region.now) c.args.self.now.rules.now c.args.self.now.filled.now c.requires.0 c.scan_over.result c.in_default.not-Quiet c.scan_over.ensures
