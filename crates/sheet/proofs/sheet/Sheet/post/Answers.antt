use Rattle.sheet.proofs.Posting.{posted_does}
use Rattle.sheet.proofs.sheet.Sheet.post.Goals as goal

pub returns-clause-does : goal.returns-clause-does
returns-clause-does g c = posted_does c.args.self.now.rules c.post.new.self _ c.post.result c.post.ensures
