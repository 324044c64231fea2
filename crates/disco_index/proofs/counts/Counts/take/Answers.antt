use Rattle.disco_index.proofs.Changes.{taken}
use Rattle.disco_index.proofs.counts.Counts.take.Goals as goal

pub returns-clause-tally : goal.returns-clause-tally
returns-clause-tally c = λ m k e of there counted. taken m k e c.args.status c.args.self.now c.uncount.new.self c.uncount.ensures of there counted
