use Rattle.disco_reconcile.proofs.LongerHistories.{growth}
use Rattle.disco_reconcile.proofs.laws.growth_law.Goals as goal

pub returns : goal.returns
returns c = growth
