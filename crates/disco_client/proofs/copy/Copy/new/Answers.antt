use Rattle.disco_client.proofs.Overlays.{rows-empty}
use Rattle.disco_client.proofs.copy.Copy.new.Goals as goal

pub returns : goal.returns
returns c = rows-empty c.new.result.held c.new.ensures
