use Rattle.disco_reconcile.proofs.RefreshResults.{certified_refreshes, plain_refreshes}
use Rattle.disco_reconcile.proofs.client.Client.refresh.Goals as goal

pub returns-in-Plain : goal.returns-in-Plain
returns-in-Plain g c = rw (← c.self.view_is, c.in-Plain.is) (plain_refreshes _ _ _ _ _ _ _ _ c.refresh.ensures)

pub returns-in-Certified : goal.returns-in-Certified
returns-in-Certified g c = rw (← c.self.view_is, c.in-Certified.is) (certified_refreshes _ _ _ _ _ _ _ _ c.refresh-in-Certified.ensures)
