use Rattle.disco_history.proofs.Overlays.{overlay_law}
use Rattle.disco_history.proofs.laws.overlay_law.Goals as goal

pub returns : goal.returns
returns c = overlay_law
