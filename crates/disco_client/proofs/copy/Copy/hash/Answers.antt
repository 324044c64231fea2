use Rattle.disco_client.proofs.Overlays.{values-rows_in}
use Rattle.disco_client.proofs.copy.Copy.hash.Goals as goal

pub returns-clause-hash : goal.returns-clause-hash
returns-clause-hash c = rw (← c.self.view_is, values-rows_in c.self.inside.counted.held) c.hash.ensures.hash
