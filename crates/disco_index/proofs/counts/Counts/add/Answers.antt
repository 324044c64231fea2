use Rattle.disco_index.proofs.Changes.{added}
use Rattle.disco_index.proofs.counts.Counts.add.Goals as goal

pub returns-clause-tally : goal.returns-clause-tally
returns-clause-tally c = λ m k e of none counted. added m k e c.args.status c.args.self.now c.count.new.self c.count.ensures of none counted
