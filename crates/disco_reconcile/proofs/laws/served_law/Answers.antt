use Rattle.disco_reconcile.proofs.LongerHistories.{served}
use Rattle.disco_reconcile.proofs.laws.served_law.Goals as goal

pub returns : goal.returns
returns c = served
