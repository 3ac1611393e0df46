use Rattle.record.proofs.Deciding.{said_back}
use Rattle.record.proofs.read.read_line.Goals as goal

pub returns-clause-back : goal.returns-clause-back
returns-clause-back c l e = rw (said_back c.args.bytes.now c.said.result c.said.ensures l e) at c.ok_or.ensures.value
