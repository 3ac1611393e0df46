use Rattle.std.proofs.Common.{sym, subst, Option}
use Rattle.blocks.specs.declared.block.Block.{Block}
use Rattle.blocks.specs.Ranges.{with_low, with_high}
use Rattle.blocks.specs.Views.{ranges, BlockOf}
use Rattle.blocks.proofs.Viewing.{written_past}
use Rattle.blocks.proofs.block.Block.with.Goals as goal

pub returns-then-setting-ge12 : goal.returns-then-setting-ge12
returns-then-setting-ge12 c =
    let r = c.args.interval in
    subst (λ (o : Option Block). BlockOf (with_low c.args.setting r.low (with_high c.args.setting r.high (ranges c.args.self.now))) o) (sym c.then_some.ensures)
    (written_past c.args.self.now c.args.setting r.low r.high c.if-setting-ge12.true r.ordered)
