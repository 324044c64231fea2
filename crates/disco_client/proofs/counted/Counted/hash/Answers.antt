use Rattle.std.proofs.Common.{ap, ◌∙◌}
use Rattle.disco_history.specs.Hash.{hash}
use Rattle.disco_index.specs.Tally.{rows_of}
use Rattle.disco_client.proofs.counted.Counted.hash.Goals as goal

pub returns-clause-hash : goal.returns-clause-hash
returns-clause-hash c = c.in_ok-hash.ensures.text (rows_of c.self.inside.records.held) c.self.invariant ∙ ap (λ r. hash (rows_of r.held)) c.self.view_is
