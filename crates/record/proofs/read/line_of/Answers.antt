use Rattle.std.proofs.Common.{Some, sym, ap, ◌∙◌}
use Rattle.record.proofs.Lettered.{is_take, is_resolve, is_keep}
use Rattle.record.proofs.read.line_of.Goals as goal

pub returns-in-116 : goal.returns-in-116
returns-in-116 c l i b s = ap Some (sym (is_take l c.in_ok-block.block (i ∙ c.in-116.is) (b ∙ sym c.in_ok-block.ensures)))

pub returns-in-114 : goal.returns-in-114
returns-in-114 c l i b s =
    ap Some (sym (is_resolve l c.in_ok-block.block c.in_ok-setting.setting (i ∙ c.in-114.is)
    (b ∙ sym c.in_ok-block.ensures) (s ∙ sym c.in_ok-setting.ensures)))

pub returns-in-107 : goal.returns-in-107
returns-in-107 c l i b s = ap Some (sym (is_keep l c.in_ok-block.block (i ∙ c.in-107.is) (b ∙ sym c.in_ok-block.ensures)))
