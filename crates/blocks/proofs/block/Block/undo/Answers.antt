use Rattle.std.proofs.Common.{arith}
use Rattle.blocks.specs.Views.{ranges}
use Rattle.blocks.proofs.Viewing.{crossed_high, crossed_low}
use Rattle.blocks.proofs.block.Block.undo.Goals as goal

pub returns-in_err-new-in-AtMost-clause-answer : goal.returns-in_err-new-in-AtMost-clause-answer
returns-in_err-new-in-AtMost-clause-answer c = rw (c.from_residual.ensures, c.in-AtMost.is) (crossed_high (ranges c.args.self.now) c.in-AtMost.setting c.args.end (omega (arith, c.in_err-new-in-AtMost.ensures)))

pub returns-in_err-new-in-AtLeast-clause-answer : goal.returns-in_err-new-in-AtLeast-clause-answer
returns-in_err-new-in-AtLeast-clause-answer c = rw (c.from_residual-in_err-new-in-AtLeast.ensures, c.in-AtLeast.is) (crossed_low (ranges c.args.self.now) c.in-AtLeast.setting c.args.end (omega (arith, c.in_err-new-in-AtLeast.ensures)))
