use Rattle.std.proofs.Common.{length, get_or, sym, ap, ◌∙◌, arith}
use Rattle.record.proofs.Lettered.{line_length, reads_block, reads_setting}
use Rattle.record.proofs.read.guessed.Goals as goal

pub returns-in_default-2 : goal.returns-in_default-2
returns-in_default-2 c l e = absurd (omega (arith, ap length e ∙ line_length l))

pub returns : goal.returns
returns c l e =
    let b = reads_block c.args.bytes.now l e in
    let s = reads_setting c.args.bytes.now l e in
    c.line_of.ensures l (sym (ap (λ bs. get_or bs 0 0) e)) (sym b ∙ cc) (sym s ∙ cc)
