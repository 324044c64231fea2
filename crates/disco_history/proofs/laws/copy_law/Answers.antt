use Rattle.disco_history.proofs.Overlays.{copy_law}
use Rattle.disco_history.proofs.laws.copy_law.Goals as goal

pub returns : goal.returns
returns c = copy_law
