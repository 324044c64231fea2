use Rattle.disco_client.proofs.Overlays.{values-rows_in}
use Rattle.disco_client.proofs.copy.Copy.hash_is.Goals as goal

pub returns : goal.returns
returns c = rw (← c.self.view_is, values-rows_in c.self.inside.counted.held) c.hash_is.ensures
